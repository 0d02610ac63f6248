use Rattle.std.proofs.Common.{sym}
use Rattle.cr_syntax.specs.Trees.{none}
use Rattle.cr_syntax_machine.specs.MachineBody.{is_declarator}
use Rattle.cr_exprs_descent.proofs.Nodes.{read_as}
use Rattle.cr_exprs_descent.proofs.arena.is_declarator.Goals as goal

pub returns : goal.returns
returns c = read_as is_declarator _ _ _ _ _ _ c.as_slice.ensures c.requires.below c.requires.node c.index-as_slice-node.is (sym c.index-as_slice-node.is) (λ j. c.is_declarator_kind.ensures 0 0 none none)
