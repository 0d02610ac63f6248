use Rattle.std.proofs.Common.{arith, rules}
use Rattle.cr_exprs_descent.proofs.Nodes.{tree_of_pushed}
use Rattle.cr_exprs_descent.proofs.Loose.{is_pushed}
use Rattle.cr_exprs_descent.proofs.arena.push.Goals as goal

pub returns-clause-tree : goal.returns-clause-tree
returns-clause-tree c = tree_of_pushed _ _ _ _ _ c.in_ok-push.ensures.ok (search rules) (omega arith)

pub returns-clause-ok : goal.returns-clause-ok
returns-clause-ok c = is_pushed _ _ _ _ _ c.in_ok-push.ensures.ok (search rules) c.requires.below c.requires.parts c.requires.first (omega arith)
