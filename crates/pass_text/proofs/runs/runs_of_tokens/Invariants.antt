use Rattle.std.proofs.Common.{◌≡◌, map, take}
use Rattle.pass_text.specs.Runs.{runs_gone}
use Rattle.pass_text.proofs.runs.runs_of_tokens.Given as goal

abbrev pub invariant-loop-more : goal.invariant-loop-more
invariant-loop-more l = l.levels.items ≡ map (runs_gone l.tokens) (take l.more-index l.more-items)
