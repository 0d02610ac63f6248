use Rattle.std.proofs.Common.{arith, rules, sym, ap, ◌∙◌, inl, inr, length}
use Rattle.std.proofs.lemmas.Bool.{cases_lt}
use Rattle.std.proofs.lemmas.List.{get_or_past}
use Rattle.cr_check_types.specs.Types.{type_at}
use Rattle.cr_meaning_operations.specs.Shapes.{name_in}
use Rattle.cr_exec_shapes.specs.Open.{is_array}
use Rattle.cr_check_types.proofs.Tables.{beyond}
use Rattle.cr_exec_shapes.proofs.Rows.{grown}
use Rattle.cr_exec_shapes.proofs.Listed.{listed_more}
use Rattle.cr_exec_shapes.proofs.names.names.Goals as goal

pub loop-row-preserved : goal.loop-row-preserved
loop-row-preserved c =
    let t = c.args.typed.now in
    record {
      count = search rules;
      listed = listed_more is_array _ _ _ _ _ c.loop-row.invariant.listed c.is_array.ensures c.in_ok-list_if.ensures;
      each = λ k lt. rw c.in_ok-push.ensures.items
          (grown (λ row. name_in t (type_at t.shapes row)) c.loop-row.names.items c.loop-row.row 0 _ c.loop-row.invariant.count c.loop-row.invariant.each
          c.in_ok-name.ensures k lt);
    }

pub returns : goal.returns
returns c =
    let t = c.args.typed.now in
    let rows = c.in_ok-row-end.ensures in
    let past = c.loop-row-test.false in
    let within = c.loop-row.auto.row-end in
    let count = c.loop-row.invariant.count in
    λ row. elim (cases_lt row (length t.shapes)) [
      | inl there ↦ c.loop-row.invariant.each row (omega (arith, rows, past, within, there))
      | inr gone ↦
          get_or_past c.loop-row.names.items row 0 (omega (arith, count, rows, past, within, gone))
          ∙ sym (ap (name_in t) (beyond t.shapes row gone))
    ]
