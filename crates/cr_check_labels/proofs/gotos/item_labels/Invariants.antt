use Rattle.std.proofs.Common.{◌≡◌, ℕ}
use Rattle.std.specs.HashMap.{get}
use Rattle.cr_check_labels.specs.Again.{same_name}
use Rattle.cr_check_labels.specs.Gotos.{last_labelled}
use Rattle.cr_check_labels.specs.Labelled.{scene_of}
use Rattle.cr_check_labels.proofs.gotos.item_labels.Given as goal

abbrev pub invariant-loop-at : goal.invariant-loop-at
invariant-loop-at l = (q : ℕ × ℕ) → get same_name l.held q ≡ last_labelled (scene_of l.table l.labelled) l.at q
