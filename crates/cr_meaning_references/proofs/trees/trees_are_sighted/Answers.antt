use Rattle.cr_meaning_references.proofs.TreesLemmas.Sighted.{tree_sighted}
use Rattle.cr_meaning_references.proofs.trees.trees_are_sighted.Goals as goal

pub returns : goal.returns
returns c = tree_sighted
