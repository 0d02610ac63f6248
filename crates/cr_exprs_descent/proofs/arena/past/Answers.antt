use Rattle.std.proofs.Common.{refl}
use Rattle.cr_syntax.specs.Context.{past_part}
use Rattle.cr_exprs_descent.proofs.Nodes.{read_as}
use Rattle.cr_exprs_descent.proofs.arena.past.Goals as goal

pub returns : goal.returns
returns c = read_as (past_part c.args.context) _ _ _ _ _ _ c.as_slice-all.ensures c.requires.below c.requires.node c.index-all-node.is refl (λ j. c.past_node.ensures j)
