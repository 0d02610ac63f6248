use Rattle.std.proofs.Common.{◌≡◌, subst}
use Rattle.cr_reduce.specs.Bench.{judging, says_of}
use Rattle.cr_main.specs.Standing.{RunsStanding}
use Rattle.cr_main_task.specs.Outside.{outside}
use Rattle.cr_main_task.specs.Task.{given}
use Rattle.cr_main_task.proofs.Bindings.{bound_task}
use Rattle.cr_main.proofs.standing.run_standing.Goals as goal

pub returns-clause-runs : goal.returns-clause-runs
returns-clause-runs g c =
    let question = c.in-Ok.question in
    let old = outside g.F.Outside g.F.Files c.args.files.now g.O.Sink c.args.out.now in
    let new = outside g.F.Outside g.F.Files c.run_bound.new.files g.O.Sink c.run_bound.new.out in
    let key = subst (λ bytes. g.A.Asking.bound_key question.bound ≡ g.A.Asking.key c.args.task.now.asking.now bytes) c.deref.ensures.value c.in-Ok.ensures.key in
    subst (λ t. RunsStanding t (given c.args.bytes.items) old new (judging g.J.Judge c.args.bench.now) (judging g.J.Judge c.run_bound.new.bench) c.run_bound.result)
    (bound_task g.P.Passes g.L.Law g.A.Asking c.args.task.now question.bound (says_of g.J.Judge c.args.bench.now) c.args.bytes.items c.in-Ok.ensures.asks key) c.run_bound.ensures.runs
