use Rattle.cr_typed_columns.proofs.Lookups.{put_at}
use Rattle.cr_typed_columns.proofs.lasts.names.Goals as goal

pub loop-at-preserved : goal.loop-at-preserved
loop-at-preserved c =
    put_at _ c.loop-at.at c.in_ok-number.number _ c.named_token.result _ _ c.loop-at.invariant c.named_token.ensures c.in_ok-number.ensures
    c.put.ensures.count c.put.ensures.each
