use Rattle.std.proofs.Common.{List, ap, ◌∙◌}
use Rattle.cr_syntax.specs.declared.node.Node.{Node}
use Rattle.cr_syntax.specs.Trees.{Trees, none, ◌&◌}
use Rattle.cr_syntax.specs.Units.{own_parameters}
use Rattle.cr_exprs_descent.specs.Answers.{tree}
use Rattle.cr_syntax_machine.proofs.MachineSpells.{and_none}
use Rattle.cr_decls.specs.Ellipsis.{ellipsis_of}
use Rattle.cr_decls.proofs.ellipsis.own_ellipsis.Goals as goal

pub returns : goal.returns
returns c =
    c.ellipsis_in.ensures ∙ ap (λ (x : List Node). ellipsis_of (own_parameters (tree x c.args.declarator & none))) c.as_slice.ensures ∙
    ap (λ (x : Trees). ellipsis_of (own_parameters x)) (and_none (tree c.args.nodes.now c.args.declarator))
