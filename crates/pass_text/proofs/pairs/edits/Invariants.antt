use Rattle.std.proofs.Common.{◌≡◌, take}
use Rattle.pass_text.specs.Brackets.{pairs_gone}
use Rattle.pass_text.proofs.pairs.edits.Given as goal

abbrev pub invariant-loop-pair : goal.invariant-loop-pair
invariant-loop-pair l = l.edits ≡ pairs_gone l.tokens (take l.pair-index l.pairs) l.level
