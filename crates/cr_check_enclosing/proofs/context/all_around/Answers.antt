use Rattle.std.proofs.Common.{arith}
use Rattle.cr_check_enclosing.proofs.Inherited.{more}
use Rattle.cr_check_enclosing.proofs.context.all_around.Goals as goal

pub loop-part-preserved : goal.loop-part-preserved
loop-part-preserved c =
    more _ _ _ c.loop-part.part _ _ c.loop-part.invariant (omega arith) (omega (arith, c.loop-part.auto))
    (rw (c.deref.ensures.value, c.entry_at.ensures) at c.below.ensures)
