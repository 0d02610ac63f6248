use Rattle.cr_reduce.specs.Search.{search_of}
use Rattle.cr_journal.proofs.Led.{accepted_follows, levels}
use Rattle.cr_journal.proofs.laws.what_a_reduction_accepted_follows.Goals as goal

pub returns : goal.returns
returns g c = λ says name verdicts.
    let s = search_of (g.P.Passes.offers c.args.passes.now) (g.L.Law.lawful c.args.law.now) (g.Q.Question.asks c.args.question.now) (g.Q.Question.tells c.args.question.now) says name verdicts in
    accepted_follows s (levels s (g.met.P.Passes.few c.args.passes.now) (g.met.P.Passes.sixteen_levels c.args.passes.now))
