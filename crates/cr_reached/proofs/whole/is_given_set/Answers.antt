use Rattle.std.proofs.Common.{subst, sym, true}
use Rattle.std.specs.Prelude.{IfSome}
use Rattle.cr_reached.specs.Own.{AreAllSet, given}
use Rattle.cr_reached.proofs.Wholes.{none_set, one_given}
use Rattle.cr_reached.proofs.whole.is_given_set.Goals as goal

pub returns-in-Some : goal.returns-in-Some
returns-in-Some c =
    subst (λ node. IfSome c.mark_at.result (AreAllSet c.args.column.now (given node))) (sym c.in-Some.is) (one_given c.args.column.now c.in-Some.node c.mark_at.result c.mark_at.ensures)

pub returns-in-None : goal.returns-in-None
returns-in-None c = subst (λ node. AreAllSet c.args.column.now (given node) true) (sym c.in-None.is) (none_set c.args.column.now)
