use Rattle.std.proofs.Common.{sym}
use Rattle.cr_syntax_machine.specs.MachineBody.{is_unary}
use Rattle.cr_exprs_descent.proofs.Nodes.{read_as}
use Rattle.cr_exprs_descent.proofs.arena.is_unary.Goals as goal

pub returns : goal.returns
returns c = read_as is_unary _ _ _ _ _ _ c.as_slice.ensures c.requires.below c.requires.node c.index-as_slice-node.is (sym c.index-as_slice-node.is) (λ j. c.is_unary_kind.ensures)
