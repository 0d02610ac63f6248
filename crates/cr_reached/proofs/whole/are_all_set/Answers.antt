use Rattle.std.proofs.Common.{◌+◌, subst, sym, take}
use Rattle.std.specs.Prelude.{ℕ, List}
use Rattle.std.proofs.lemmas.List.{take_all}
use Rattle.cr_reached.specs.Own.{AreAllSet}
use Rattle.cr_reached.proofs.Wholes.{next_set, none_set}
use Rattle.cr_reached.proofs.whole.are_all_set.Goals as goal

pub loop-node-preserved : goal.loop-node-preserved
loop-node-preserved c =
    let column = c.args.column.now in
    let nodes = c.args.nodes.now in
    let place = c.loop-node.node-index in
    subst (AreAllSet column (take (place + 1) nodes)) (sym c.both-all.ensures)
    (next_set column nodes place c.loop-node.all c.in_ok-mark.mark c.loop-node-test.true c.loop-node.invariant (sym c.in_ok-mark.ensures))

pub loop-node-init : goal.loop-node-init
loop-node-init c = none_set c.args.column.now

pub returns : goal.returns
returns c =
    let F : List ℕ → Type 0 = λ l. AreAllSet c.args.column.now l c.loop-node.all in
    subst F (take_all c.loop-node.node-index c.args.nodes.now c.loop-node-test.false) c.loop-node.invariant
