use Rattle.cr_typed_columns.proofs.Lookups.{put_at}
use Rattle.cr_typed_columns.proofs.lasts.kept.Goals as goal

pub loop-at-preserved : goal.loop-at-preserved
loop-at-preserved c =
    put_at _ c.loop-at.at c.in_ok-number.number _ c.kept_entity.result _ _ c.loop-at.invariant c.kept_entity.ensures c.in_ok-number.ensures
    c.put.ensures.count c.put.ensures.each
