use Rattle.cr_check_enclosing.proofs.Inherited.{AreFrom}
use Rattle.cr_check_enclosing.proofs.context.all_around.Given as goal

abbrev pub invariant-loop-part : goal.invariant-loop-part
invariant-loop-part l = AreFrom l.nodes l.above l.around.items l.part
