use Rattle.cr_check_expressions.proofs.Kept.{grows_on}
use Rattle.cr_typed_columns.specs.Columns.{plan_entries, plan_types}
use Rattle.cr_typed_columns.proofs.Grown.{all_puts_more, upto_more}
use Rattle.cr_typed_columns.proofs.plans.plans.Goals as goal

pub loop-at-preserved : goal.loop-at-preserved
loop-at-preserved c =
    let h = c.loop-at.invariant in
    let is = c.in_ok-plan.ensures in
    let old = c.loop-at.table in
    let new = c.plan.new.table in
    rw c.in_ok-push.ensures.ok record {
      made = all_puts_more old new (plan_entries c.args.checked.now) c.loop-at.at c.loop-at.plans c.in_ok-plan.plan is.grows h.made is.made;
      grows = grows_on c.args.table.now old new h.grows is.grows;
      levels = upto_more c.args.table.now old new (plan_types c.args.checked.now) c.loop-at.at h.levels is.levels;
    }
