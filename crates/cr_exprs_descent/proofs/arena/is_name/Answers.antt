use Rattle.std.proofs.Common.{refl}
use Rattle.cr_syntax.specs.Trees.{none}
use Rattle.cr_syntax.specs.Context.{is_bare}
use Rattle.cr_exprs_descent.proofs.Nodes.{read_as}
use Rattle.cr_exprs_descent.proofs.arena.is_name.Goals as goal

pub returns : goal.returns
returns c = read_as is_bare _ _ _ _ _ _ c.as_slice-all.ensures c.requires.below c.requires.node c.index-all-node.is refl (λ j. c.is_name_node.ensures c.index-all-node.result.first j none)
