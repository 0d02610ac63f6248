use Rattle.std.proofs.Common.{◌∙◌, ap, subst, sym}
use Rattle.std.specs.Prelude.{ℕ, List, Option, Some}
use Rattle.cr_lawful.specs.Lawful.{limits_of}
use Rattle.cr_reduce.specs.Bench.{judging, says_of}
use Rattle.cr_main_task.specs.Outside.{outside}
use Rattle.cr_main.specs.More.{RunsIn}
use Rattle.cr_main.specs.Task.{asked_by, marks_of, ruled_by}
use Rattle.cr_main.proofs.given.run_in_modes.Goals as goal

pub returns-in-Some-clause-runs : goal.returns-in-Some-clause-runs
returns-in-Some-clause-runs g c =
    let settings = c.args.settings.now in
    let modes = c.args.modes.now in
    let says = says_of g.J.Judge c.args.bench.now in
    let it = c.run_reaching.ensures.runs in
    let old = outside g.W.Outside g.W.Files c.args.world.now g.O.Sink c.args.out.now in
    let new = outside g.W.Outside g.W.Files c.run_reaching.new.world g.O.Sink c.run_reaching.new.out in
    let before = judging g.J.Judge c.args.bench.now in
    let after = judging g.J.Judge c.run_reaching.new.bench in
    let F : Option (List ℕ) → Type 0 =
    λ r. RunsIn modes.engine (asked_by (ruled_by r modes.any_order (limits_of settings.steps)) (g.A.Asking.asks c.args.asking.now) (λ bytes. g.A.Asking.tells (g.A.Asking.key c.args.asking.now bytes)) settings says it.0)
    (marks_of settings) settings.source old new before after (g.W.Disk.has_failed c.run_reaching.new.world) c.run_reaching.result in
    (it.0, it.1, subst F (ap Some c.as_slice.ensures ∙ sym c.in-Some.is) it.2)

pub returns-in-None-clause-runs : goal.returns-in-None-clause-runs
returns-in-None-clause-runs g c =
    let settings = c.args.settings.now in
    let modes = c.args.modes.now in
    let says = says_of g.J.Judge c.args.bench.now in
    let it = c.run_by_order.ensures.runs in
    let old = outside g.W.Outside g.W.Files c.args.world.now g.O.Sink c.args.out.now in
    let new = outside g.W.Outside g.W.Files c.run_by_order.new.world g.O.Sink c.run_by_order.new.out in
    let before = judging g.J.Judge c.args.bench.now in
    let after = judging g.J.Judge c.run_by_order.new.bench in
    let F : Option (List ℕ) → Type 0 =
    λ r. RunsIn modes.engine (asked_by (ruled_by r modes.any_order (limits_of settings.steps)) (g.A.Asking.asks c.args.asking.now) (λ bytes. g.A.Asking.tells (g.A.Asking.key c.args.asking.now bytes)) settings says it.0)
    (marks_of settings) settings.source old new before after (g.W.Disk.has_failed c.run_by_order.new.world) c.run_by_order.result in
    (it.0, it.1, subst F (sym c.in-None.is) it.2)
