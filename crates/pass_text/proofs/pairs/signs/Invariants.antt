use Rattle.std.proofs.Common.{◌≡◌, take}
use Rattle.pass_text.specs.Brackets.{signs_of}
use Rattle.pass_text.proofs.pairs.signs.Given as goal

abbrev pub invariant-loop-token : goal.invariant-loop-token
invariant-loop-token l = l.signs.items ≡ signs_of l.file (take l.token-index l.tokens)
