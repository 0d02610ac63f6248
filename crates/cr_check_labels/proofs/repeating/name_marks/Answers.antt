use Rattle.std.proofs.Common.{None}
use Rattle.cr_check_labels.specs.Labelled.{scene_of}
use Rattle.cr_check_labels.specs.Marks.{label_at}
use Rattle.cr_rows.proofs.Columns.{one_more}
use Rattle.cr_check_labels.proofs.repeating.name_marks.Goals as goal

pub loop-at-preserved : goal.loop-at-preserved
loop-at-preserved c =
    rw c.in_ok-push.ensures.items (one_more (label_at (scene_of c.args.table.now c.args.labelled.now)) None _ c.loop-at.at _ c.loop-at.invariant c.function_label.ensures)
