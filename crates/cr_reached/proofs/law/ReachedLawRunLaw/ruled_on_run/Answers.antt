use Rattle.std.proofs.Common.{ap, subst, sym, ◌∙◌}
use Rattle.std.specs.Prelude.{ℕ}
use Rattle.cr_meaning.specs.declared.run.Run.{Run}
use Rattle.cr_cursor.specs.declared.law.Ruling.{Ruling}
use Rattle.cr_lawful.specs.Lawful.{run_ruling}
use Rattle.cr_lawful.specs.Looks.{Looks}
use Rattle.cr_lawful.specs.Runs.{CameTo}
use Rattle.cr_order.specs.Orders.{ended_in_order}
use Rattle.cr_reached.specs.Reached.{ReachRules, ended_reached}
use Rattle.cr_reached.proofs.Reaching.{reach_came, reach_looks, reach_rules}
use Rattle.cr_reached.proofs.law.ReachedLawRunLaw.ruled_on_run.Goals as goal

pub first_label-requires : goal.first_label-requires
first_label-requires g c = c.requires.unit.checked.by.fits.spans

pub outcome_reached-run-requires-clause-typed : goal.outcome_reached-run-requires-clause-typed
outcome_reached-run-requires-clause-typed g c = c.requires.unit.checked.by.fits

pub run_ruling-ruling-requires : goal.run_ruling-ruling-requires
run_ruling-ruling-requires g c = c.requires.unit.tokenizes.short

pub leave_run-requires : goal.leave_run-requires
leave_run-requires g c =
    let limits = c.args.self.now.limits in
    let file = c.args.file.now in
    let found = c.outcome_reached-run in
    let ended = c.ended_reached-run.ensures ∙ ap (λ o. ended_reached o found.result.2 c.in-Ok.label) c.ended_in_order.ensures in
    subst (CameTo limits file) (sym ended) (reach_came limits file c.args.typed.now c.requires.unit c.in-Ok.label found.result.0 found.result.1 found.result.2 found.ensures.comes)

pub returns-clause-rules : goal.returns-clause-rules
returns-clause-rules g c =
    let law = c.args.self.now in
    let file = c.args.file.now in
    let typed = c.args.typed.now in
    let found = c.outcome_reached-run in
    let raised = g.S.Stop.raised found.new.stop in
    let ended = c.ended_reached-run.ensures ∙ ap (λ o. ended_reached o found.result.2 c.in-Ok.label) c.ended_in_order.ensures in
    let F : Ruling → Type 0 = λ r. ReachRules law.any_order law.limits law.name.now file raised r in
    let G : Run → Type 0 = λ o. F (run_ruling file typed o) in
    let H : ℕ → Type 0 = λ l. G (ended_reached (ended_in_order found.result.0 found.result.1) found.result.2 l) in
    subst F (sym c.run_ruling-ruling.ensures) (subst G (sym ended) (subst H (sym (c.in-Ok.ensures ∙ c.first_label.ensures))
    (reach_rules law.limits law.name.now file typed raised c.requires.unit law.any_order found.result.0 found.result.1 found.result.2 found.ensures.comes found.ensures.judged found.ensures.stopped found.ensures.tells)))

pub returns-clause-looks : goal.returns-clause-looks
returns-clause-looks g c =
    let limits = c.args.self.now.limits in
    let file = c.args.file.now in
    let typed = c.args.typed.now in
    let found = c.outcome_reached-run in
    let before = g.S.Stop.looks c.args.stop.now in
    let after = g.S.Stop.looks found.new.stop in
    let ended = c.ended_reached-run.ensures ∙ ap (λ o. ended_reached o found.result.2 c.in-Ok.label) c.ended_in_order.ensures in
    let F : Ruling → Type 0 = λ r. Looks limits file before after r in
    let G : Run → Type 0 = λ o. F (run_ruling file typed o) in
    subst F (sym c.run_ruling-ruling.ensures) (subst G (sym ended)
    (reach_looks limits file typed c.requires.unit c.in-Ok.label found.result.0 found.result.1 found.result.2 before after found.ensures.comes found.ensures.looked))
