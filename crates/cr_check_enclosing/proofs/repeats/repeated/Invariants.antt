use Rattle.std.proofs.Common.{false, length}
use Rattle.cr_check_enclosing.specs.Repeats.{mark_in, place_of, repeats_at}
use Rattle.cr_rows.specs.Columns.{AreOf}
use Rattle.cr_check_enclosing.proofs.repeats.repeated.Given as goal

abbrev pub invariant-loop-at : goal.invariant-loop-at
invariant-loop-at g l =
    AreOf (repeats_at g.K.PartialEq.eq (mark_in l.marks) (place_of l.nodes) (length l.marks)) false l.at l.repeated.items
