use Rattle.std.proofs.Common.{◌∙◌}
use Rattle.cr_scopes_bindings.proofs.Lasting.{put_last}
use Rattle.cr_scopes_bindings.proofs.nodes.declarers.Goals as goal

pub loop-at-preserved : goal.loop-at-preserved
loop-at-preserved c =
    put_last _ c.loop-at.at c.in_ok-number.number _ c.key_of.result _ _ c.loop-at.invariant (c.key_of.ensures ∙ c.name_at.ensures) c.in_ok-number.ensures
    c.put.ensures.count c.put.ensures.each
