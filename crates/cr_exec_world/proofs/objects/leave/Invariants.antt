use Rattle.std.proofs.Common.{◌≡◌, length}
use Rattle.cr_meaning.specs.World.{left_by}
use Rattle.cr_exec_world.proofs.objects.leave.Given as goal

abbrev pub invariant-loop-object : goal.invariant-loop-object
invariant-loop-object l = left_by l.store l.names ≡ left_by l.fn.store l.fn.names

abbrev pub decreases-loop-object : goal.decreases-loop-object
decreases-loop-object l = length l.names
