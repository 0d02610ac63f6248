use Rattle.std.proofs.Common.{[], subst}
use Rattle.cr_outside.specs.Question.{Says}
use Rattle.cr_pool.specs.Crew.{judges_in}
use Rattle.cr_pool.specs.Tally.{first_says}
use Rattle.cr_reduce.specs.Search.{Search, search_of}
use Rattle.cr_standing.specs.Ends.{EndsStanding}
use Rattle.cr_standing.proofs.Lending.{lent_ends, manned_workers, of_worker, same_first}
use Rattle.cr_standing.proofs.standing.fn.reduce_standing.lend.Goals as goal

pub reduce_by_judges-requires-clause-manned : goal.reduce_by_judges-requires-clause-manned
reduce_by_judges-requires-clause-manned g c κs within = manned_workers g.J.Judge c.args.workers.items c.requires.manned

pub returns : goal.returns
returns g c =
    let asks = g.Q.Question.asks c.captures.question.now in
    let s : Says → Search = λ says. search_of (g.P.Passes.offers c.captures.passes.now) (g.L.Law.lawful c.captures.law.now) asks (g.Q.Question.tells c.captures.question.now) says c.captures.name.now [] in
    let ws = c.args.workers.items in
    let new = c.reduce_by_judges.result.0.items in
    let end = c.reduce_by_judges.result.1 in
    let limit = c.captures.plan.now.limit in
    let workers = c.captures.plan.now.workers in
    let file = c.captures.file.items in
    subst (λ (says : Says). EndsStanding (s says) g.J.Judge asks limit workers file (judges_in ws) (judges_in new) end) (same_first g.J.Judge ws)
    (lent_ends g.J.Judge asks (s (first_says (of_worker g.J.Judge).key (of_worker g.J.Judge).says ws)) limit workers file ws new end c.reduce_by_judges.ensures)
