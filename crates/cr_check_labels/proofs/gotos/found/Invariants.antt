use Rattle.std.proofs.Common.{◌≡◌, length}
use Rattle.cr_check_labels.specs.Gotos.{found_from}
use Rattle.cr_check_labels.specs.Labelled.{scene_of}
use Rattle.cr_check_labels.proofs.gotos.found.Given as goal

abbrev pub invariant-loop-left : goal.invariant-loop-left
invariant-loop-left l =
    found_from (scene_of l.table l.labelled) (length l.labelled.nodes.now) l.fn.block l.name
    ≡ found_from (scene_of l.table l.labelled) l.left l.inner l.name

abbrev pub decreases-loop-left : goal.decreases-loop-left
decreases-loop-left l = l.left
