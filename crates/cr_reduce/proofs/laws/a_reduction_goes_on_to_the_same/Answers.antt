use Rattle.cr_reduce.specs.Search.{search_of, AcceptsAsTold, RejectsAsTold}
use Rattle.cr_reduce.specs.Reduction.{none_fails}
use Rattle.cr_reduce.proofs.Resumed.{goes_on_behind}
use Rattle.cr_reduce.proofs.laws.a_reduction_goes_on_to_the_same.Goals as goal

pub returns : goal.returns
returns g c = λ says name verdicts limit file kept out is front run.
    let s = search_of (g.P.Passes.offers c.args.passes.now) (g.L.Law.lawful c.args.law.now) (g.Q.Question.asks c.args.question.now) (g.Q.Question.tells c.args.question.now) says name verdicts in
    goes_on_behind s.Offers (AcceptsAsTold s) (RejectsAsTold s) none_fails limit file kept.file.items out kept.accepted.items kept.at kept.turns (g.met.P.Passes.one c.args.passes.now) is.chain is.behind front run
