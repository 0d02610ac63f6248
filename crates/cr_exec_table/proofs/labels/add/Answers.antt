use Rattle.std.proofs.Common.{◌≡◌, ◌+◌, ◌-◌, ◌++◌, ◌∙◌, ap, sym, map, arith}
use Rattle.cr_meaning_operations.specs.Operations.{case_of, target_of, cases_by, has_default_by, marks_by, labelled}
use Rattle.cr_exec_table.specs.Labels.{default_after, own_case, own_target}
use Rattle.cr_exec_table.proofs.Before.{more, last, cases_more, cases_last, targets_more, targets_last, default_more, default_last, default_none, none_more}
use Rattle.cr_exec_table.proofs.labels.add.Goals as goal

pub loop-left-preserved : goal.loop-left-preserved
loop-left-preserved c =
    let t = c.args.types.now in
    let number = c.args.number in
    let at = c.loop-left.at in
    let left = c.loop-left.left in
    let some = c.loop-left-test.true in
    let step : left ≡ (left - 1) + 1 = omega (arith, some) in
    let added = c.in_ok-label.ensures in
    let is = sym added.told ∙ c.if-label.true in
    let next = c.labelled-at.ensures in
    record {
      cases = ap (λ n. c.add_one.new.labels.cases.items ++ map (case_of number) (cases_by (left - 1) t n)) next
          ∙ more c.loop-left.labels.cases.items c.add_one.new.labels.cases.items (own_case t number at) (map (case_of number) (cases_by left t at))
          (map (case_of number) (cases_by (left - 1) t (labelled t at))) _ added.cases (cases_more t left (left - 1) number at step is) c.loop-left.invariant.cases;
      default = ap (λ n. default_after c.add_one.new.labels.default (has_default_by (left - 1) t n) number) next
          ∙ default_more t left (left - 1) number at c.loop-left.labels.default c.add_one.new.labels.default _ step is added.default c.loop-left.invariant.default;
      targets = ap (λ n. c.add_one.new.labels.targets.items ++ map (target_of number) (marks_by (left - 1) t n)) next
          ∙ more c.loop-left.labels.targets.items c.add_one.new.labels.targets.items (own_target t number at) (map (target_of number) (marks_by left t at))
          (map (target_of number) (marks_by (left - 1) t (labelled t at))) _ added.targets (targets_more t left (left - 1) number at step is) c.loop-left.invariant.targets;
    }

pub returns-else-label : goal.returns-else-label
returns-else-label c =
    let t = c.args.types.now in
    let number = c.args.number in
    let at = c.loop-left.at in
    let left = c.loop-left.left in
    let some = c.loop-left-test.true in
    let step : left ≡ (left - 1) + 1 = omega (arith, some) in
    let added = c.in_ok-label.ensures in
    let is = sym added.told ∙ c.if-label.false in
    record {
      cases = last c.loop-left.labels.cases.items c.add_one.new.labels.cases.items (own_case t number at) (map (case_of number) (cases_by left t at)) _
          added.cases (cases_last t left (left - 1) number at step is) c.loop-left.invariant.cases;
      default = default_last t left (left - 1) number at c.loop-left.labels.default c.add_one.new.labels.default _ step is added.default c.loop-left.invariant.default;
      targets = last c.loop-left.labels.targets.items c.add_one.new.labels.targets.items (own_target t number at) (map (target_of number) (marks_by left t at)) _
          added.targets (targets_last t left (left - 1) number at step is) c.loop-left.invariant.targets;
    }

pub returns : goal.returns
returns c =
    let past = c.loop-left-test.false in
    let none : c.loop-left.left ≡ 0 = omega (arith, past) in
    record {
      cases = none_more c.loop-left.labels.cases.items _ (rw none at c.loop-left.invariant.cases);
      default = sym (default_none c.loop-left.labels.default c.args.number) ∙ (rw none at c.loop-left.invariant.default);
      targets = none_more c.loop-left.labels.targets.items _ (rw none at c.loop-left.invariant.targets);
    }
