use Rattle.std.proofs.Common.{false, [], ap, ◌∙◌, length, arith, rules}
use Rattle.std.specs.List.{flat_map}
use Rattle.std.proofs.lemmas.List.{get_or_past}
use Rattle.cr_check_types.specs.Types.{type_at}
use Rattle.cr_meaning_operations.specs.Shapes.{cells_with, structure_cells}
use Rattle.cr_exec_shapes.specs.Types.{looked_up}
use Rattle.cr_exec_shapes.proofs.Rows.{grown, past_is}
use Rattle.cr_exec_shapes.proofs.Parts.{members_are, no_cells}
use Rattle.cr_exec_shapes.proofs.cells.structures.Goals as goal

pub loop-node-preserved : goal.loop-node-preserved
loop-node-preserved c =
    let t = c.args.types.now in
    let known = c.loop-node.structures.items in
    let within = c.loop-node-test.true in
    let nodes = c.count-node-end.ensures.is in
    let is = c.from_vec.ensures ∙ c.in_ok-cells.ensures
    ∙ ap (flat_map (λ row. cells_with (looked_up known) t false (type_at t.shapes row))) c.members_at.ensures.is
    ∙ members_are known t c.loop-node.node c.count-node-end.ensures.typed (omega (arith, within, nodes)) c.loop-node.invariant.each in
    record {
      count = search rules;
      each = λ k lt. rw c.in_ok-push.ensures.items (grown (structure_cells (length t.nodes) t false) known c.loop-node.node [] c.from_vec.result
          c.loop-node.invariant.count c.loop-node.invariant.each is k lt);
    }

pub returns : goal.returns
returns c =
    let t = c.args.types.now in
    let past = c.loop-node-test.false in
    let within = c.loop-node.auto.node-end in
    let nodes = c.count-node-end.ensures.is in
    let count = c.loop-node.invariant.count in
    let members = c.count-node-end.ensures.typed.members_count in
    past_is (structure_cells (length t.nodes) t false) c.loop-node.structures.items []
    (λ k lt. c.loop-node.invariant.each k (omega (arith, count, lt)))
    (λ k gone. no_cells (length t.nodes) t k (get_or_past t.members k [] (omega (arith, gone, past, within, nodes, count, members))))
