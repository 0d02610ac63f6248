use Rattle.std.proofs.Common.{refl, subst, ◌∙◌}
use Rattle.cr_reduce.specs.Bench.{judging, says_of}
use Rattle.cr_main.specs.Standing.{IsStanding, by_standing}
use Rattle.cr_main_task.specs.Outside.{outside}
use Rattle.cr_main_task.specs.Task.{task_for}
use Rattle.cr_main_task.proofs.Begun.{nothing_yet, stopped, whole}
use Rattle.cr_main_task.proofs.Others.{beyond}
use Rattle.cr_main.proofs.Standings.{end_passes, end_sized}
use Rattle.cr_main.proofs.standing.run_bound.Goals as goal

pub returns-in-Err-clause-runs : goal.returns-in-Err-clause-runs
returns-in-Err-clause-runs g c =
    let t = task_for g.P.Passes g.L.Law g.Q.Question c.args.task.now c.args.question.now (says_of g.J.Judge c.args.bench.now) in
    stopped t (by_standing t) c.args.bytes.items (outside g.F.Outside g.F.Files c.args.files.now g.O.Sink c.args.out.now) (outside g.F.Outside g.F.Files c.begin.new.files g.O.Sink c.begin.new.out)
    (judging g.J.Judge c.args.bench.now) (judging g.J.Judge c.begin.new.bench) c.in-Err.status c.in-Err.ensures.stopped

pub conclude-requires-clause-sized : goal.conclude-requires-clause-sized
conclude-requires-clause-sized g c =
    end_sized (task_for g.P.Passes g.L.Law g.Q.Question c.args.task.now c.args.question.now (says_of g.J.Judge c.begin.new.bench)).search
    (judging g.J.Judge c.begin.new.bench) (judging g.J.Judge c.reduce_standing-end.new.bench) c.args.task.now.limit c.args.bytes.items c.reduce_standing-end.result c.reduce_standing-end.ensures.chain
    (c.in-Ok.old_size, c.in-Ok.ensures.begun.sized)

pub conclude-requires-clause-passes : goal.conclude-requires-clause-passes
conclude-requires-clause-passes g c =
    end_passes (task_for g.P.Passes g.L.Law g.Q.Question c.args.task.now c.args.question.now (says_of g.J.Judge c.begin.new.bench)).search
    (judging g.J.Judge c.begin.new.bench) (judging g.J.Judge c.reduce_standing-end.new.bench) c.args.task.now.limit c.args.bytes.items c.reduce_standing-end.result c.reduce_standing-end.ensures.chain

pub returns-clause-runs : goal.returns-clause-runs
returns-clause-runs g c =
    let by_says = task_for g.P.Passes g.L.Law g.Q.Question c.args.task.now c.args.question.now in
    let t = by_says (says_of g.J.Judge c.args.bench.now) in
    let copied = outside g.F.Outside g.F.Files c.begin.new.files g.O.Sink c.begin.new.out in
    let since = judging g.J.Judge c.begin.new.bench in
    let after = judging g.J.Judge c.reduce_standing-end.new.bench in
    whole t (by_standing t) c.args.bytes.items (outside g.F.Outside g.F.Files c.args.files.now g.O.Sink c.args.out.now) (outside g.F.Outside g.F.Files c.conclude.new.files g.O.Sink c.conclude.new.out)
    (judging g.J.Judge c.args.bench.now) after c.conclude.result copied copied since c.reduce_standing-end.result c.in-Ok.old_size c.conclude.ensures.0
    c.in-Ok.ensures.begun refl (nothing_yet copied)
    (subst (λ says. IsStanding (by_says says) since after c.args.bytes.items c.reduce_standing-end.result) c.in-Ok.ensures.says (record {
      chain = c.reduce_standing-end.ensures.chain;
      told = record { reduction = c.reduce_standing-end.ensures.reduction; fixed_point = c.reduce_standing-end.ensures.fixed_point };
      first = c.reduce_standing-end.ensures.first;
      cause = c.reduce_standing-end.ensures.cause;
      goes_on = c.reduce_standing-end.ensures.goes_on;
    }))
    c.conclude.ensures.1 c.conclude.ensures.2

pub returns-in-Err-clause-others : goal.returns-in-Err-clause-others
returns-in-Err-clause-others g c = beyond 1 c.args.task.now.workers c.begin.new.bench.judges c.args.bench.now.judges c.requires.workers.0 c.begin.ensures.others

pub returns-clause-others : goal.returns-clause-others
returns-clause-others g c = c.reduce_standing-end.ensures.others ∙ beyond 1 c.args.task.now.workers c.begin.new.bench.judges c.args.bench.now.judges c.requires.workers.0 c.begin.ensures.others
