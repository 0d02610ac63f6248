use Rattle.std.proofs.Common.{subst, sym}
use Rattle.cr_lawful.specs.Lawful.{Rules}
use Rattle.cr_lawful.specs.Looks.{Looks}
use Rattle.cr_lawful.proofs.Endings.{came_to}
use Rattle.cr_lawful.proofs.Looks.{run_looks}
use Rattle.cr_lawful.proofs.Rulings.{run_rules}
use Rattle.cr_lawful.proofs.law.CLawRunLaw.ruled_on_run.Goals as goal

pub outcome-run-requires-clause-typed : goal.outcome-run-requires-clause-typed
outcome-run-requires-clause-typed g c = c.requires.unit.checked.by.fits

pub run_ruling-ruling-requires : goal.run_ruling-ruling-requires
run_ruling-ruling-requires g c = c.requires.unit.tokenizes.short

pub leave_run-requires : goal.leave_run-requires
leave_run-requires g c =
    came_to c.args.self.now.limits c.args.file.now c.args.typed.now c.outcome-run.result c.requires.unit c.outcome-run.ensures.comes

pub returns-clause-rules : goal.returns-clause-rules
returns-clause-rules g c =
    let limits = c.args.self.now.limits in
    let file = c.args.file.now in
    let raised = g.S.Stop.raised c.outcome-run.new.stop in
    subst (Rules limits file raised) (sym c.run_ruling-ruling.ensures)
    (run_rules limits file c.args.typed.now raised c.outcome-run.result c.requires.unit c.outcome-run.ensures.comes c.outcome-run.ensures.stopped)

pub returns-clause-looks : goal.returns-clause-looks
returns-clause-looks g c =
    let limits = c.args.self.now.limits in
    let file = c.args.file.now in
    let before = g.S.Stop.looks c.args.stop.now in
    let after = g.S.Stop.looks c.outcome-run.new.stop in
    subst (Looks limits file before after) (sym c.run_ruling-ruling.ensures)
    (run_looks limits file c.args.typed.now c.outcome-run.result before after c.requires.unit c.outcome-run.ensures.comes c.outcome-run.ensures.looked)
