use Rattle.std.proofs.Common.{◌||◌, ℕ, false, slice_index_or, rules}
use Rattle.cr_rows.proofs.Columns.{one_more}
use Rattle.cr_check_labels.proofs.repeating.any_of.Goals as goal

pub loop-at-preserved : goal.loop-at-preserved
loop-at-preserved c =
    rw c.in_ok-push.ensures.items (one_more (λ (i : ℕ). slice_index_or c.args.cases.now i false || (slice_index_or c.args.defaults.now i false || slice_index_or c.args.names.now i false))
    false _ c.loop-at.at _ c.loop-at.invariant (search rules))
