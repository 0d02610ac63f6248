use Rattle.std.proofs.Common.{◌≡◌, ◌∙◌, ap, arith, map}
use Rattle.cr_order.specs.Orders.{only_list}
use Rattle.cr_order.proofs.Listing.{outer_so, all_mapped, outer_same}
use Rattle.cr_order.proofs.lists.outer_of.Goals as goal

pub returns : goal.returns
returns c =
    let past = c.loop-node-test.false in
    let nodes = c.as_slice-nodes.result.now in
    all_mapped (only_list nodes) c.as_slice-node-items.result.now c.loop-node.node-index _ past c.loop-node.invariant
    ∙ ap (map (only_list nodes)) c.as_slice-node-items.ensures.value ∙ outer_so nodes c.in_ok-above.above.items c.in_ok-above.ensures
    ∙ outer_same c.args.typed.now nodes c.as_slice-nodes.ensures
