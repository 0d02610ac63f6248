use Rattle.cr_reduce.specs.Search.{search_of}
use Rattle.cr_reduce.proofs.There.{there}
use Rattle.cr_reduce.proofs.laws.told_reductions_are_there.Goals as goal

pub returns : goal.returns
returns g c = λ says name kept answered offered limit file size has.
    let s = search_of (g.P.Passes.offers c.args.passes.now) (g.L.Law.lawful c.args.law.now) (g.Q.Question.asks c.args.question.now) (g.Q.Question.tells c.args.question.now) says name kept in
    there s.Offers s.Lawful s.Tells limit answered offered file size has
