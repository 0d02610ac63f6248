use Rattle.std.proofs.Common.{List, ap, ◌∙◌}
use Rattle.cr_syntax.specs.declared.node.Node.{Node}
use Rattle.cr_syntax.specs.Context.{ends_open}
use Rattle.cr_syntax.specs.Trees.{none, ◌&◌}
use Rattle.cr_exprs_descent.specs.Answers.{tree}
use Rattle.cr_syntax_machine.proofs.MachineSpells.{and_none}
use Rattle.cr_decls.proofs.statements.is_open.Goals as goal

pub returns : goal.returns
returns c = c.ends_open.ensures ∙ ap (λ (x : List Node). ends_open (tree x c.args.node & none)) c.as_slice.ensures ∙ ap ends_open (and_none (tree c.args.nodes.now c.args.node))
