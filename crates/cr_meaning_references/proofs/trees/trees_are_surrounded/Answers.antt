use Rattle.cr_meaning_references.proofs.TreesLemmas.Shaped.{tree_surrounded}
use Rattle.cr_meaning_references.proofs.trees.trees_are_surrounded.Goals as goal

pub returns : goal.returns
returns c = tree_surrounded
