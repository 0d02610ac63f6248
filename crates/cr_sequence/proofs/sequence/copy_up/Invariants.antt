use Rattle.std.proofs.Common.{◌≡◌, ◌+◌, take, drop}
use Rattle.cr_sequence.specs.Written.{overwritten}
use Rattle.cr_sequence.proofs.sequence.copy_up.Given as goal

abbrev pub invariant-loop-i : goal.invariant-loop-i
invariant-loop-i g l = l.items.items ≡ overwritten l.fn.items.items (l.to + l.i) (drop l.i (take l.count (drop l.from l.fn.items.items)))
