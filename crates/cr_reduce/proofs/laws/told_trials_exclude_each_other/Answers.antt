use Rattle.cr_reduce.proofs.OneOutcome.{told_apart}
use Rattle.cr_reduce.proofs.laws.told_trials_exclude_each_other.Goals as goal

pub returns : goal.returns
returns g c = λ says name kept. told_apart (g.L.Law.lawful c.args.law.now) (g.Q.Question.tells c.args.question.now says name) (g.met.Q.Question.one_answer c.args.question.now says name)
