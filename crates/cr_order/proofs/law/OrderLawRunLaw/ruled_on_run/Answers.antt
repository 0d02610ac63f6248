use Rattle.std.proofs.Common.{subst, sym}
use Rattle.cr_meaning.specs.declared.run.Run.{Run}
use Rattle.cr_cursor.specs.declared.law.Ruling.{Ruling}
use Rattle.cr_lawful.specs.Lawful.{run_ruling}
use Rattle.cr_lawful.specs.Looks.{Looks}
use Rattle.cr_lawful.specs.Runs.{CameTo}
use Rattle.cr_order.specs.Orders.{OrderRules, ended_in_order}
use Rattle.cr_order.proofs.Ordering.{came_in_order, order_looks, order_rules}
use Rattle.cr_order.proofs.law.OrderLawRunLaw.ruled_on_run.Goals as goal

pub outcome_judged-run-requires-clause-typed : goal.outcome_judged-run-requires-clause-typed
outcome_judged-run-requires-clause-typed g c = c.requires.unit.checked.by.fits

pub run_ruling-ruling-requires : goal.run_ruling-ruling-requires
run_ruling-ruling-requires g c = c.requires.unit.tokenizes.short

pub leave_run-requires : goal.leave_run-requires
leave_run-requires g c =
    let limits = c.args.self.now.limits in
    let file = c.args.file.now in
    let judged = c.outcome_judged-run in
    subst (CameTo limits file) (sym c.ended_in_order-run.ensures)
    (came_in_order limits file c.args.typed.now judged.result.0 judged.result.1 c.requires.unit judged.ensures.comes)

pub returns-clause-rules : goal.returns-clause-rules
returns-clause-rules g c =
    let limits = c.args.self.now.limits in
    let file = c.args.file.now in
    let typed = c.args.typed.now in
    let judged = c.outcome_judged-run in
    let raised = g.S.Stop.raised judged.new.stop in
    let F : Ruling → Type 0 = λ r. OrderRules limits file raised r in
    let G : Run → Type 0 = λ o. OrderRules limits file raised (run_ruling file typed o) in
    subst F (sym c.run_ruling-ruling.ensures) (subst G (sym c.ended_in_order-run.ensures)
    (order_rules limits file typed raised judged.result.0 judged.result.1 c.requires.unit judged.ensures.comes judged.ensures.judged judged.ensures.stopped))

pub returns-clause-looks : goal.returns-clause-looks
returns-clause-looks g c =
    let limits = c.args.self.now.limits in
    let file = c.args.file.now in
    let typed = c.args.typed.now in
    let judged = c.outcome_judged-run in
    let before = g.S.Stop.looks c.args.stop.now in
    let after = g.S.Stop.looks judged.new.stop in
    let F : Ruling → Type 0 = λ r. Looks limits file before after r in
    let G : Run → Type 0 = λ o. Looks limits file before after (run_ruling file typed o) in
    subst F (sym c.run_ruling-ruling.ensures) (subst G (sym c.ended_in_order-run.ensures)
    (order_looks limits file typed judged.result.0 judged.result.1 before after c.requires.unit judged.ensures.comes judged.ensures.looked))
