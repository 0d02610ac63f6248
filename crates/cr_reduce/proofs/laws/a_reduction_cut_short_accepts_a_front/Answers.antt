use Rattle.cr_reduce.specs.Search.{search_of}
use Rattle.cr_reduce.proofs.Fronts.{front_of_all}
use Rattle.cr_reduce.proofs.OneOutcome.{told_apart}
use Rattle.cr_reduce.proofs.laws.a_reduction_cut_short_accepts_a_front.Goals as goal

pub returns : goal.returns
returns g c = λ says name verdicts limit kept e ended.
    let s = search_of (g.P.Passes.offers c.args.passes.now) (g.L.Law.lawful c.args.law.now) (g.Q.Question.asks c.args.question.now) (g.Q.Question.tells c.args.question.now) says name verdicts in
    front_of_all s (g.met.P.Passes.one c.args.passes.now) (told_apart s.Lawful s.Tells (g.met.Q.Question.one_answer c.args.question.now says name)) kept limit e ended
