use Rattle.std.proofs.Common.{◌++◌, ◌∙◌, ap, sym, refl, map, length, get_or, arith}
use Rattle.cr_meaning_operations.specs.Operations.{case_of, target_of, cases_by, has_default_by, marks_by}
use Rattle.cr_exec_table.specs.Labels.{default_after}
use Rattle.cr_exec_table.proofs.Before.{items_cases, items_default, items_targets}
use Rattle.cr_exec_table.proofs.labels.labels_before.Goals as goal

pub loop-number-preserved : goal.loop-number-preserved
loop-number-preserved c =
    let t = c.args.types.now in
    let items = c.args.items.now in
    let number = c.loop-number.number in
    let item = get_or items number 0 in
    let within = c.loop-number-test.true in
    record {
      cases = c.in_ok-add.ensures.cases
          ∙ ap (λ r. r ++ map (case_of number) (cases_by (length t.nodes) t item)) c.loop-number.invariant.cases
          ∙ sym (items_cases t items number item (omega (arith, within)) refl);
      default = c.in_ok-add.ensures.default
          ∙ ap (λ d. default_after d (has_default_by (length t.nodes) t item) number) c.loop-number.invariant.default
          ∙ sym (items_default t items number item (omega (arith, within)) refl);
      targets = c.in_ok-add.ensures.targets
          ∙ ap (λ r. r ++ map (target_of number) (marks_by (length t.nodes) t item)) c.loop-number.invariant.targets
          ∙ sym (items_targets t items number item (omega (arith, within)) refl);
    }
