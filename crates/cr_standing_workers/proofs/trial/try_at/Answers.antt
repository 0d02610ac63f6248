use Rattle.std.proofs.Common.{List, ℕ, sym, subst}
use Rattle.cr_standing_workers.specs.Told.{IsCandidate, searching_by}
use Rattle.cr_standing_workers.proofs.Judges.{serves-refl}
use Rattle.cr_standing_workers.proofs.trial.try_at.Goals as goal

pub returns-in-No : goal.returns-in-No
returns-in-No g c = record { says = c.in-No.ensures; serves = serves-refl g.J.Judge (g.Q.Question.asks c.args.task.now.question.now) c.args.judge.now }

pub returns-in-Yes : goal.returns-in-Yes
returns-in-Yes g c = record { says = c.in-Yes.ensures; serves = serves-refl g.J.Judge (g.Q.Question.asks c.args.task.now.question.now) c.args.judge.now }

pub returns-in-Stopped : goal.returns-in-Stopped
returns-in-Stopped g c = record { says = tt; serves = serves-refl g.J.Judge (g.Q.Question.asks c.args.task.now.question.now) c.args.judge.now }

pub returns-in-NoMemory : goal.returns-in-NoMemory
returns-in-NoMemory g c = record { says = tt; serves = serves-refl g.J.Judge (g.Q.Question.asks c.args.task.now.question.now) c.args.judge.now }

pub returns-in-Lawful-clause-says : goal.returns-in-Lawful-clause-says
returns-in-Lawful-clause-says g c =
    let s = searching_by g.P.Passes g.L.Law g.Q.Question c.args.task.now g.S.Subject.told in
    let file = c.args.file.now.bytes.items in
    let offer = g.P.Passes.offer c.args.task.now.passes.now c.args.file.now.prep file in
    c.ask.ensures.says file offer c.args.position (subst (λ (v : List ℕ). IsCandidate s file offer c.args.position v) (sym c.deref.ensures.value) c.in-Lawful.ensures)
