use Rattle.cr_standing_workers.specs.Channels.{IsTrue}
use Rattle.cr_standing_workers.proofs.Rules.{joins}
use Rattle.cr_standing_workers.proofs.channels.send_reply.Goals as goal

pub send_as-requires-clause-rule : goal.send_as-requires-clause-rule
send_as-requires-clause-rule g c = (joins (IsTrue g.S.Subject.replies) _ _ _ _ c.requires.is_true, λ _ _ _ _. tt)
