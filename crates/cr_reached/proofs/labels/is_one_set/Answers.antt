use Rattle.std.proofs.Common.{arith, sym, ◌∙◌}
use Rattle.cr_reached.proofs.Labelled.{none_set, none_set_more, one_set}
use Rattle.cr_reached.proofs.labels.is_one_set.Goals as goal

pub loop-node-init : goal.loop-node-init
loop-node-init c = λ label low named set. absurd (omega (arith, low))

pub loop-node-preserved : goal.loop-node-preserved
loop-node-preserved c = none_set_more c.args.typed.now c.args.name.now c.args.column.now c.loop-node.node c.loop-node.invariant (sym c.is_set_label.ensures ∙ c.if-is_set_label.false)

pub returns-then-is_set_label-clause-some : goal.returns-then-is_set_label-clause-some
returns-then-is_set_label-clause-some c = λ _. one_set c.args.typed.now c.args.name.now c.args.column.now c.loop-node.node (sym c.is_set_label.ensures ∙ c.if-is_set_label.true)

pub returns-clause-none : goal.returns-clause-none
returns-clause-none c = λ _. none_set c.args.typed.now c.args.name.now c.args.column.now c.loop-node.node c.loop-node-test.false c.loop-node.invariant
