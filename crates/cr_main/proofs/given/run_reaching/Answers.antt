use Rattle.std.proofs.Common.{◌∙◌, subst}
use Rattle.std.specs.Prelude.{ℕ, Bool, List, Some}
use Rattle.cr_lawful.specs.Lawful.{IsLawful}
use Rattle.cr_meaning.specs.declared.run.Limits.{Limits}
use Rattle.cr_reached.proofs.Reaching.{reached_is_lawful}
use Rattle.cr_reduce.specs.Bench.{judging, says_of}
use Rattle.cr_main_task.specs.Outside.{outside}
use Rattle.cr_main.specs.More.{RunsIn}
use Rattle.cr_main.specs.Task.{asked_by, marks_of, ruled_by}
use Rattle.cr_main.proofs.OrderedLaw.{reach_is_of_programs}
use Rattle.cr_main.proofs.given.run_reaching.Goals as goal

pub run_by_law-requires-clause-law : goal.run_by_law-requires-clause-law
run_by_law-requires-clause-law g c = λ sends shares. reach_is_of_programs c.beside-law.result.any_order c.beside-law.result.limits c.beside-law.result.name.now

pub run_by_law-requires-clause-binds : goal.run_by_law-requires-clause-binds
run_by_law-requires-clause-binds g c = λ sends shares bytes lawful.
    let law = c.beside-law.result in
    c.requires.binds bytes
    (subst (λ (limits : Limits). IsLawful limits bytes) (c.beside-law.ensures.limits ∙ c.requires.limits) (reached_is_lawful law.any_order law.limits law.name.now bytes lawful))

pub returns-clause-runs : goal.returns-clause-runs
returns-clause-runs g c =
    let settings = c.args.settings.now in
    let says = says_of g.J.Judge c.args.bench.now in
    let law = c.beside-law.result in
    let it = c.run_by_law.ensures.runs in
    let old = outside g.W.Outside g.W.Files c.args.world.now g.O.Sink c.args.out.now in
    let new = outside g.W.Outside g.W.Files c.run_by_law.new.world g.O.Sink c.run_by_law.new.out in
    let before = judging g.J.Judge c.args.bench.now in
    let after = judging g.J.Judge c.run_by_law.new.bench in
    let F : Limits → Bool → List ℕ → Type 0 =
    λ limits any_order name. RunsIn c.args.engine (asked_by (ruled_by (Some name) any_order limits) (g.A.Asking.asks c.args.asking.now) (λ bytes. g.A.Asking.tells (g.A.Asking.key c.args.asking.now bytes)) settings says it.0)
    (marks_of settings) settings.source old new before after (g.W.Disk.has_failed c.run_by_law.new.world) c.run_by_law.result in (
      it.0,
      it.1,
      subst (λ (l : Limits). F l c.args.any_order c.args.name.now) (c.beside-law.ensures.limits ∙ c.requires.limits)
          (subst (λ (b : Bool). F law.limits b c.args.name.now) c.beside-law.ensures.any_order (subst (λ (n : List ℕ). F law.limits law.any_order n) c.beside-law.ensures.name it.2)),
    )
