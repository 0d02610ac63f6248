use Rattle.std.proofs.Common.{None}
use Rattle.cr_rows.specs.Columns.{AreOf}
use Rattle.cr_check_labels.specs.Labelled.{scene_of}
use Rattle.cr_check_labels.specs.Marks.{label_at}
use Rattle.cr_check_labels.proofs.repeating.name_marks.Given as goal

abbrev pub invariant-loop-at : goal.invariant-loop-at
invariant-loop-at l = AreOf (label_at (scene_of l.table l.labelled)) None l.at l.marks.items
