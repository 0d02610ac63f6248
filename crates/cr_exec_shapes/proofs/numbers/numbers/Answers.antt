use Rattle.std.proofs.Common.{arith, rules, sym}
use Rattle.cr_check_types.specs.Types.{types_of, type_at}
use Rattle.cr_meaning_operations.specs.Shapes.{first_row}
use Rattle.cr_exec_shapes.specs.Open.{is_open}
use Rattle.cr_exec_shapes.proofs.Rows.{first_is_least, grown, numbers_all}
use Rattle.cr_exec_shapes.proofs.Listed.{listed_more}
use Rattle.cr_exec_shapes.proofs.numbers.numbers.Goals as goal

pub loop-row-preserved : goal.loop-row-preserved
loop-row-preserved c =
    let t = c.args.table.now in
    let rows = c.in_ok-row-end.ensures in
    let under = c.loop-row-test.true in
    record {
      count = search rules;
      marks = search rules;
      marked = search rules;
      listed = listed_more is_open _ _ _ _ _ c.loop-row.invariant.listed c.is_open-is_open.ensures c.in_ok-list_if.ensures;
      each = λ k lt. rw c.in_ok-push.ensures.items
          (grown (λ row. first_row (types_of t) (type_at t row) 0) c.loop-row.numbers.items c.loop-row.row 0 _ c.loop-row.invariant.count c.loop-row.invariant.each
          (sym (first_is_least t c.loop-row.row _ (omega (arith, rows, under)) c.first.ensures)) k lt);
    }

pub returns-clause-each : goal.returns-clause-each
returns-clause-each c =
    let rows = c.in_ok-row-end.ensures in
    let past = c.loop-row-test.false in
    let within = c.loop-row.auto.row-end in
    let count = c.loop-row.invariant.count in
    numbers_all c.args.table.now c.loop-row.numbers.items c.requires (omega (arith, rows, past, within, count))
    (λ k lt. c.loop-row.invariant.each k (omega (arith, rows, past, within, lt)))
