use Rattle.std.proofs.Common.{◌++◌, subst, sym}
use Rattle.cr_reached.specs.Own.{AreAllSet, given}
use Rattle.cr_reached.proofs.Wholes.{both_set}
use Rattle.cr_reached.proofs.whole.clauses_set.Goals as goal

pub returns : goal.returns
returns c =
    subst (AreAllSet c.args.column.now (given c.args.first ++ given c.args.control)) (sym c.both.ensures)
    (both_set c.args.column.now (given c.args.first) (given c.args.control) c.in_ok-begun.begun c.in_ok-asked.asked c.in_ok-begun.ensures c.in_ok-asked.ensures)
