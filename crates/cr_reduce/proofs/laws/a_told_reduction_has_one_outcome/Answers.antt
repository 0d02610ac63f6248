use Rattle.cr_reduce.specs.Search.{search_of, AcceptsAsTold, RejectsAsTold}
use Rattle.cr_reduce.specs.Reduction.{none_fails}
use Rattle.cr_reduce.proofs.OneOutcome.{one_outcome, one_reduction, told_apart}
use Rattle.cr_reduce.proofs.laws.a_told_reduction_has_one_outcome.Goals as goal

pub returns-clause-outcome : goal.returns-clause-outcome
returns-clause-outcome g c = λ says name kept limit st out other one two.
    let s = search_of (g.P.Passes.offers c.args.passes.now) (g.L.Law.lawful c.args.law.now) (g.Q.Question.asks c.args.question.now) (g.Q.Question.tells c.args.question.now) says name kept in
    one_outcome s.Offers (AcceptsAsTold s) (RejectsAsTold s) none_fails limit st out other (g.met.P.Passes.one c.args.passes.now) (λ worker f v never. never) (told_apart s.Lawful s.Tells (g.met.Q.Question.one_answer c.args.question.now says name)) one two

pub returns-clause-reduction : goal.returns-clause-reduction
returns-clause-reduction g c = λ says name kept limit file out other one two.
    let s = search_of (g.P.Passes.offers c.args.passes.now) (g.L.Law.lawful c.args.law.now) (g.Q.Question.asks c.args.question.now) (g.Q.Question.tells c.args.question.now) says name kept in
    one_reduction s.Offers (AcceptsAsTold s) (RejectsAsTold s) none_fails limit file out other (g.met.P.Passes.one c.args.passes.now) (λ worker f v never. never) (told_apart s.Lawful s.Tells (g.met.Q.Question.one_answer c.args.question.now says name)) one two
