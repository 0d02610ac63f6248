use Rattle.std.proofs.Common.{[], map, arith}
use Rattle.cr_check_types.specs.Types.{type_at}
use Rattle.cr_meaning_operations.specs.Shapes.{shape_of}
use Rattle.cr_exec_shapes.proofs.Rows.{past_is}
use Rattle.cr_exec_shapes.proofs.Beyond.{no_kinds}
use Rattle.cr_exec_shapes.proofs.objects.kinds.Goals as goal

pub returns : goal.returns
returns c =
    let t = c.args.types.now in
    let past = c.loop-row-test.false in
    let within = c.loop-row.auto.row-end in
    let rows = c.rows-row-end.ensures in
    let count = c.loop-row.invariant.count in
    rw c.from_vec.ensures (past_is (λ row. map (λ own. own.0) (shape_of t (type_at t.shapes row))) c.loop-row.kinds.items []
    (λ k lt. c.loop-row.invariant.each k (omega (arith, count, lt)))
    (λ k gone. no_kinds t k (omega (arith, gone, past, within, rows, count))))
