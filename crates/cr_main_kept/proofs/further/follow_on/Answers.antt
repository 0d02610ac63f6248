use Rattle.std.proofs.Common.{ℕ, Some, Err, ap, refl, subst, ◌∙◌}
use Rattle.cr_journal.specs.Replay.{IsReplayed}
use Rattle.cr_outside.specs.Question.{Says}
use Rattle.cr_reduce.specs.Bench.{judging, says_of}
use Rattle.cr_replay.specs.Chains.{BreaksAt, chain_of}
use Rattle.cr_main_kept.specs.Kept.{EndsKept}
use Rattle.cr_main_kept.specs.Kept.FollowsOn.{closed, followed, stopped}
use Rattle.cr_main_task.specs.Outside.{outside}
use Rattle.cr_main_task.specs.Task.{task_for}
use Rattle.cr_main_task.proofs.Others.{beyond}
use Rattle.cr_main_kept.proofs.Going.{unfollowed}
use Rattle.cr_main_kept.proofs.further.follow_on.Goals as goal

pub returns-in-Err-clause-follows : goal.returns-in-Err-clause-follows
returns-in-Err-clause-follows g c = stopped c.in-Err.ensures.stopped

pub returns-in-Err-replay-clause-follows : goal.returns-in-Err-replay-clause-follows
returns-in-Err-replay-clause-follows g c =
    unfollowed (task_for g.P.Passes g.L.Law g.Q.Question c.args.task.now c.args.question.now (says_of g.J.Judge c.args.bench.now)) c.args.bytes.items c.args.rows.items
    (outside g.W.Outside g.W.Files c.args.world.now g.O.Sink c.args.out.now) (outside g.W.Outside g.W.Files c.begin.new.files g.O.Sink c.begin.new.out) (outside g.W.Outside g.W.Files c.begin.new.files g.O.Sink c.put_stop.new.out)
    (judging g.J.Judge c.args.bench.now) (judging g.J.Judge c.begin.new.bench) (g.W.Disk.has_failed c.begin.new.files) c.put_stop.result c.in-Ok.size c.in-Err-replay.fault c.in-Ok.ensures.begun
    (λ i is. subst (λ (l : ℕ). BreaksAt (chain_of g.P.Passes c.args.task.now.passes.now g.L.Law c.args.task.now.law.now (Some l)) c.args.bytes.items 0 c.args.rows.items i) c.most_turns-limit.ensures.is (c.in-Err-replay.ensures.differs i (ap Err is)))
    (λ is. c.in-Err-replay.ensures.never_disk (ap Err is)) (λ i is. c.in-Err-replay.ensures.never_bad i (ap Err is)) c.most_turns-limit.ensures.below refl c.put_stop.ensures

pub returns-in-Err-reopen-clause-follows : goal.returns-in-Err-reopen-clause-follows
returns-in-Err-reopen-clause-follows g c =
    closed (outside g.W.Outside g.W.Files c.begin.new.files g.O.Sink c.begin.new.out) c.in-Ok.size c.in-Err-reopen.fault c.in-Ok.ensures.begun c.reopen.ensures.same
    (c.in-Err-reopen.ensures.cause c.in-Err-reopen.fault refl) c.put_stop-in-Err-reopen.ensures

pub returns-clause-follows : goal.returns-clause-follows
returns-clause-follows g c =
    let started = outside g.W.Outside g.W.Files c.reopen.new.disk g.O.Sink c.begin.new.out in
    let new = outside g.W.Outside g.W.Files c.reduce_on.new.world g.O.Sink c.reduce_on.new.out in
    followed (outside g.W.Outside g.W.Files c.begin.new.files g.O.Sink c.begin.new.out) started (judging g.J.Judge c.begin.new.bench) c.in-Ok.size c.in-Ok-replay.kept c.in-Ok.ensures.begun
    (subst (λ (l : ℕ). IsReplayed (chain_of g.P.Passes c.args.task.now.passes.now g.L.Law c.args.task.now.law.now (Some l)) c.args.bytes.items c.args.rows.items c.in-Ok-replay.kept) c.most_turns-limit.ensures.is c.in-Ok-replay.ensures.replayed)
    c.most_turns-limit.ensures.below (record { story = c.reopen.ensures.same; output = refl; output_faults = refl })
    (subst (λ (says : Says). EndsKept (task_for g.P.Passes g.L.Law g.Q.Question c.args.task.now c.args.question.now says) c.in-Ok-replay.kept c.in-Ok.size started new
    (judging g.J.Judge c.begin.new.bench) (judging g.J.Judge c.reduce_on.new.bench) (g.W.Disk.has_failed c.reduce_on.new.world) c.reduce_on.result) c.in-Ok.ensures.says c.reduce_on.ensures.ends)

pub returns-in-Err-clause-others : goal.returns-in-Err-clause-others
returns-in-Err-clause-others g c = beyond 1 c.args.task.now.workers c.begin.new.bench.judges c.args.bench.now.judges c.requires.workers.0 c.begin.ensures.others

pub returns-in-Err-replay-clause-others : goal.returns-in-Err-replay-clause-others
returns-in-Err-replay-clause-others g c = beyond 1 c.args.task.now.workers c.begin.new.bench.judges c.args.bench.now.judges c.requires.workers.0 c.begin.ensures.others

pub returns-in-Err-reopen-clause-others : goal.returns-in-Err-reopen-clause-others
returns-in-Err-reopen-clause-others g c = beyond 1 c.args.task.now.workers c.begin.new.bench.judges c.args.bench.now.judges c.requires.workers.0 c.begin.ensures.others

pub returns-clause-others : goal.returns-clause-others
returns-clause-others g c = c.reduce_on.ensures.others ∙ beyond 1 c.args.task.now.workers c.begin.new.bench.judges c.args.bench.now.judges c.requires.workers.0 c.begin.ensures.others

pub returns-then-kept-gt-MOST_TURNS-clause-others : goal.returns-then-kept-gt-MOST_TURNS-clause-others
returns-then-kept-gt-MOST_TURNS-clause-others g c = beyond 1 c.args.task.now.workers c.begin.new.bench.judges c.args.bench.now.judges c.requires.workers.0 c.begin.ensures.others
