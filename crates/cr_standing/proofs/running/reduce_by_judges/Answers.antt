use Rattle.cr_standing_workers.proofs.Judges.{all_say}
use Rattle.cr_standing.proofs.running.reduce_by_judges.Goals as goal

pub run-requires-clause-about : goal.run-requires-clause-about
run-requires-clause-about g c = λ sends shares. record { order_in = λ _ _ _ _ it. it; order_out = λ _ _ _ _ it. it; reply_in = λ _ _ _ it. it; reply_out = λ _ _ _ it. it; verdict_in = λ _ _ it. it; verdict_out = λ _ _ it. it }

pub run-requires-clause-told : goal.run-requires-clause-told
run-requires-clause-told g c = λ sends shares. all_say g.J.Judge.key g.J.Judge.says c.args.judges.items c.requires.manned.2

pub returns : goal.returns
returns g c = c.run.ensures.ends
