use Rattle.std.proofs.Common.{List, ap, false, refl, subst, sym, ◌∙◌}
use Rattle.cr_formula.specs.Forms.{form_of}
use Rattle.cr_formula_bound.specs.Values.{TellsFormula}
use Rattle.cr_lawful.specs.Lawful.{IsLawful, limits_of}
use Rattle.cr_reduce.specs.Bench.{judging, judging_of, says_of}
use Rattle.cr_main_task.specs.Outside.{outside}
use Rattle.cr_main.specs.More.{RunsIn}
use Rattle.cr_main.specs.More.RunsAsked.{reduces}
use Rattle.cr_main.specs.Task.{asked_by, law_by, marks_of}
use Rattle.cr_main.specs.Task.Query.{by_form}
use Rattle.cr_main.proofs.asked.run_by_formula.Goals as goal

pub run_in_modes-requires-clause-limits : goal.run_in_modes-requires-clause-limits
run_in_modes-requires-clause-limits g c = λ sends shares. c.leaving_runs-law.ensures ∙ c.with_steps.ensures.limits

pub run_in_modes-requires-clause-binds : goal.run_in_modes-requires-clause-binds
run_in_modes-requires-clause-binds g c = λ sends shares bytes lawful. subst (λ limits. IsLawful limits bytes) (sym (c.asking_by-asking.ensures.limits ∙ c.leaving_runs-law.ensures ∙ c.with_steps.ensures.limits)) lawful

pub returns-clause-runs : goal.returns-clause-runs
returns-clause-runs g c =
    let settings = c.args.settings.now in
    let says = says_of g.J.Judge c.args.bench.now in
    let form = form_of c.args.formula.now in
    let it = c.run_in_modes.ensures.runs in
    let old = outside g.W.Outside g.W.Files c.args.world.now g.O.Sink c.args.out.now in
    let new = outside g.W.Outside g.W.Files c.run_in_modes.new.world g.O.Sink c.run_in_modes.new.out in
    let before = judging g.J.Judge c.args.bench.now in
    let after = judging g.J.Judge c.run_in_modes.new.bench in
    reduces (by_form form) it.0 (c.requires.formula, c.requires.spelled) it.1 (λ quiet. ap (λ (js : List g.row.J.Denot). judging_of g.J.Judge js) (c.run_in_modes.ensures.silent refl))
    (subst (λ f. RunsIn c.args.modes.now.engine (asked_by (law_by c.args.modes.now (limits_of settings.steps)) false (λ bytes told name file answer. TellsFormula (form_of f) bytes (limits_of settings.steps) file answer) settings says it.0)
    (marks_of settings) settings.source old new before after (g.W.Disk.has_failed c.run_in_modes.new.world) c.run_in_modes.result) c.asking_by-asking.ensures.formula
    (subst (λ limits. RunsIn c.args.modes.now.engine (asked_by (law_by c.args.modes.now (limits_of settings.steps)) false (λ bytes told name file answer. TellsFormula (form_of c.asking_by-asking.result.formula.now) bytes limits file answer) settings says it.0)
    (marks_of settings) settings.source old new before after (g.W.Disk.has_failed c.run_in_modes.new.world) c.run_in_modes.result)
    (c.asking_by-asking.ensures.limits ∙ c.leaving_runs-law.ensures ∙ c.with_steps.ensures.limits) it.2))

pub returns-clause-others : goal.returns-clause-others
returns-clause-others g c = c.run_in_modes.ensures.others

pub returns-clause-silent : goal.returns-clause-silent
returns-clause-silent g c = c.run_in_modes.ensures.silent refl
