use Rattle.std.proofs.Common.{◌≡◌, take, drop}
use Rattle.cr_tokens.specs.Runs.{spellings}
use Rattle.cr_tokens.proofs.run.stands_at.Given as goal

abbrev pub invariant-loop-at : goal.invariant-loop-at
invariant-loop-at l = take l.at (drop l.first (spellings l.file l.all)) ≡ take l.at (spellings l.text l.run)
