use Rattle.cr_check_labels.specs.Again.{same_owner}
use Rattle.cr_check_labels.specs.Labelled.{scene_of}
use Rattle.cr_check_labels.specs.Marks.{default_at}
use Rattle.cr_check_labels.proofs.Columns.{all_repeated}
use Rattle.cr_check_labels.proofs.repeating.defaults.Goals as goal

pub returns : goal.returns
returns c =
    all_repeated same_owner (default_at (scene_of c.args.table.now c.args.labelled.now)) c.in_ok-marks.marks.items _ c.in_ok-again.again.items _
    (rw c.deref.ensures.value at c.in_ok-again.ensures) c.in_ok-marks.ensures
