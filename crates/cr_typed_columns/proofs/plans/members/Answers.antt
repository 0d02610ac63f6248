use Rattle.cr_check_expressions.proofs.Kept.{grows_on}
use Rattle.cr_typed_columns.specs.Columns.{member_types}
use Rattle.cr_typed_columns.proofs.Grown.{all_rows_more, upto_more}
use Rattle.cr_typed_columns.proofs.plans.members.Goals as goal

pub loop-at-preserved : goal.loop-at-preserved
loop-at-preserved c =
    let h = c.loop-at.invariant in
    let is = c.in_ok-rows.ensures in
    let old = c.loop-at.table in
    let new = c.member_rows.new.table in
    rw c.in_ok-push.ensures.ok record {
      made = all_rows_more old new (member_types c.args.nodes.now c.args.checked.now) c.loop-at.at c.loop-at.members c.in_ok-rows.rows is.grows h.made is.made;
      grows = grows_on c.args.table.now old new h.grows is.grows;
      levels = upto_more c.args.table.now old new (member_types c.args.nodes.now c.args.checked.now) c.loop-at.at h.levels is.levels;
    }
