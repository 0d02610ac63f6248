use Rattle.cr_standing_workers.specs.Channels.{IsFit}
use Rattle.cr_standing_workers.proofs.Rules.{joins}
use Rattle.cr_standing_workers.proofs.channels.send_order.Goals as goal

pub send_as-requires-clause-rule : goal.send_as-requires-clause-rule
send_as-requires-clause-rule g c = (joins (IsFit g.S.Subject.orders) _ _ _ _ c.requires.fit, λ _ _ _ _. tt)
