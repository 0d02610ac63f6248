use Rattle.std.proofs.Common.{None}
use Rattle.cr_rows.specs.Columns.{AreOf}
use Rattle.cr_check_labels.specs.Gotos.{goto_at}
use Rattle.cr_check_labels.specs.Labelled.{scene_of}
use Rattle.cr_check_labels.proofs.gotos.labels.Given as goal

abbrev pub invariant-loop-at : goal.invariant-loop-at
invariant-loop-at l = AreOf (goto_at (scene_of l.table l.labelled)) None l.at l.labels.items
