use Rattle.std.proofs.Common.{List, [], ap, ◌∙◌, map}
use Rattle.cr_pool.specs.Crew.{judges_in}
use Rattle.cr_pool.specs.Tally.{first_says}
use Rattle.cr_reduce.specs.Bench.{judging_of}
use Rattle.cr_reduce.specs.Search.{Search, search_of}
use Rattle.cr_standing.proofs.Lending.{goes_on_served, keys_served, settled, silent_served}
use Rattle.cr_standing.proofs.Reading.{cause_of, ends_as_told, fixed_as_told, in_time}
use Rattle.cr_standing.proofs.standing.reduce_standing.Goals as goal

pub returns : goal.returns
returns g c =
    let asks = g.Q.Question.asks c.args.question.now in
    let s : List g.row.J.Denot → Search = λ js. search_of (g.P.Passes.offers c.args.passes.now) (g.L.Law.lawful c.args.law.now) asks (g.Q.Question.tells c.args.question.now)
    (first_says g.J.Judge.key g.J.Judge.says js) c.args.name.now [] in
    let limit = c.args.plan.now.limit in
    let file = c.args.file.items in
    let old = c.args.bench.now.judges in
    let new = c.lend.new.self.judges in
    let before = judging_of g.J.Judge old in
    let now = judging_of g.J.Judge new in
    let end = c.lend.result in
    let w = c.lend.ensures.work in
    let it = settled g.J.Judge asks s limit c.args.plan.now.workers file (judges_in w.0.items) (judges_in w.1.0.items) old new w.1.1 end w.2 w.4 w.5 w.3.1 in
    record {
      chain = it.chain;
      first = it.of_first;
      reduction = λ told. ends_as_told (s old) before now file limit end end.why told it.chain;
      fixed_point = λ told is. fixed_as_told (s old) before now file limit end end.why told it.chain is;
      cause = cause_of (s old) before now file limit end end.why it.chain;
      in_time = in_time (s old) before now file limit end end.why it.chain;
      keys = keys_served g.J.Judge asks old new it.serve;
      goes_on = goes_on_served g.J.Judge asks old new it.serve;
      silent = λ quiet. silent_served g.J.Judge asks old new quiet it.serve;
      others = it.idle;
      forgot = c.lend.ensures.kept;
    }

pub lend-requires-clause-back : goal.lend-requires-clause-back
lend-requires-clause-back g c = λ workers r lent post.
    keys_served g.J.Judge (g.Q.Question.asks c.args.question.now) (judges_in workers.items) (judges_in r.0.items) post.1.serve ∙ ap (λ (js : List g.row.J.Denot). map g.J.Judge.key js) lent
