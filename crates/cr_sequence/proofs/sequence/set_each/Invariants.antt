use Rattle.std.proofs.Common.{◌≡◌}
use Rattle.cr_sequence.specs.Stretches.{filled}
use Rattle.cr_sequence.proofs.sequence.set_each.Given as goal

abbrev pub invariant-loop-i : goal.invariant-loop-i
invariant-loop-i g l = l.items ≡ filled l.fn.items l.from l.i l.value
