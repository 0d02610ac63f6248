use Rattle.std.proofs.Common.{◌≡◌, ◌<◌, arith, length, subst, sym, ◌∙◌}
use Rattle.cr_reached.proofs.Labelled.{NoneBefore, first_is, first_none, none_more}
use Rattle.cr_reached.proofs.labels.first_label.Goals as goal

pub loop-node-init : goal.loop-node-init
loop-node-init c = λ k low. absurd (omega (arith, low))

pub loop-node-preserved : goal.loop-node-preserved
loop-node-preserved c = none_more c.args.typed.now c.args.name.now c.loop-node.node c.loop-node.invariant (sym c.is_named_at.ensures ∙ c.if-is_named_at.false)

pub returns-then-is_named_at : goal.returns-then-is_named_at
returns-then-is_named_at c =
    first_is c.args.typed.now c.args.name.now c.loop-node.node (subst (λ n. c.loop-node.node < n) c.len-count.ensures c.loop-node-test.true) c.loop-node.invariant
    (sym c.is_named_at.ensures ∙ c.if-is_named_at.true)

pub returns : goal.returns
returns c =
    let typed = c.args.typed.now in
    let all : c.loop-node.node ≡ length typed.nodes = omega (arith, c.loop-node-test.false, c.loop-node.auto.node-end, c.len-count.ensures) in
    c.len-count.ensures ∙ first_none typed c.args.name.now (subst (NoneBefore typed c.args.name.now) all c.loop-node.invariant)
