use Rattle.cr_meaning_references.proofs.TreesLemmas.Shaped.{tree_shaped}
use Rattle.cr_meaning_references.proofs.trees.trees_are_shaped.Goals as goal

pub returns : goal.returns
returns c = tree_shaped
