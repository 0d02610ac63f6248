use Rattle.std.proofs.Common.{◌≡◌, map, take}
use Rattle.pass_inline.specs.Callees.{declared_number}
use Rattle.pass_inline.proofs.callees.numbers_of.Given as goal

abbrev pub invariant-loop-declarator : goal.invariant-loop-declarator
invariant-loop-declarator l = l.numbers ≡ map (declared_number l.nodes l.names) (take l.declarator-index l.declarators)
