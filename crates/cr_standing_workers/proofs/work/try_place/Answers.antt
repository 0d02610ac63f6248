use Rattle.std.proofs.Common.{List, ℕ, [], ◌∷◌, ap, sym, subst, ◌∙◌}
use Rattle.std.specs.Arc.{arc_value}
use Rattle.cr_reduce.specs.Bench.{judging_of}
use Rattle.cr_standing_workers.specs.Told.{IsCandidate, searching_by}
use Rattle.cr_standing_workers.specs.declared.orders.Shared.{Shared}
use Rattle.cr_standing_workers.specs.declared.orders.Trial.{Trial}
use Rattle.cr_standing_workers.specs.declared.orders.Trial.TheVariants.{No, Yes}
use Rattle.cr_standing_workers.proofs.Judges.{serves-refl}
use Rattle.cr_standing_workers.proofs.Places.{asked, replied_at, skipped}
use Rattle.cr_standing_workers.proofs.work.try_place.Goals as goal

pub weigh-requires-clause-is_open : goal.weigh-requires-clause-is_open
weigh-requires-clause-is_open g c = subst (λ (sh : Shared g.row.P-Prep.Denot). g.S.Subject.orders sh.prep sh.bytes.items sh.size c.args.at) (sym c.deref.ensures) c.requires.is_open

pub returns-then-is_moot-clause-says : goal.returns-then-is_moot-clause-says
returns-then-is_moot-clause-says g c =
    let file = (arc_value c.args.place.now.file).bytes.items in
    subst (λ (t : Trial). g.S.Subject.replies file c.args.at t) (sym c.unasked.ensures)
    (skipped (searching_by g.P.Passes g.L.Law g.Q.Question c.args.task.now g.S.Subject.told) (g.P.Passes.offer c.args.task.now.passes.now) g.S.Subject.orders g.S.Subject.replies g.S.Subject.verdicts c.requires.about file c.args.at)

pub returns-then-is_moot-clause-serves : goal.returns-then-is_moot-clause-serves
returns-then-is_moot-clause-serves g c = serves-refl g.J.Judge (g.Q.Question.asks c.args.task.now.question.now) c.args.judge.now

pub returns-in-No-clause-says : goal.returns-in-No-clause-says
returns-in-No-clause-says g c = subst (λ (sh : Shared g.row.P-Prep.Denot). g.S.Subject.replies sh.bytes.items c.args.at No) c.deref.ensures c.in-No.ensures

pub returns-in-No-clause-serves : goal.returns-in-No-clause-serves
returns-in-No-clause-serves g c = serves-refl g.J.Judge (g.Q.Question.asks c.args.task.now.question.now) c.args.judge.now

pub returns-in-Yes-clause-says : goal.returns-in-Yes-clause-says
returns-in-Yes-clause-says g c =
    let file = (arc_value c.args.place.now.file).bytes.items in
    subst (λ (t : Trial). g.S.Subject.replies file c.args.at t) (sym c.unasked-in-Yes.ensures)
    (subst (λ (sh : Shared g.row.P-Prep.Denot). g.S.Subject.replies sh.bytes.items c.args.at Yes) c.deref.ensures c.in-Yes.ensures)

pub returns-in-Yes-clause-serves : goal.returns-in-Yes-clause-serves
returns-in-Yes-clause-serves g c = serves-refl g.J.Judge (g.Q.Question.asks c.args.task.now.question.now) c.args.judge.now

pub returns-then-is_moot-2-clause-says : goal.returns-then-is_moot-2-clause-says
returns-then-is_moot-2-clause-says g c =
    let file = (arc_value c.args.place.now.file).bytes.items in
    subst (λ (t : Trial). g.S.Subject.replies file c.args.at t) (sym c.unasked-then-is_moot-2.ensures)
    (skipped (searching_by g.P.Passes g.L.Law g.Q.Question c.args.task.now g.S.Subject.told) (g.P.Passes.offer c.args.task.now.passes.now) g.S.Subject.orders g.S.Subject.replies g.S.Subject.verdicts c.requires.about file c.args.at)

pub returns-then-is_moot-2-clause-serves : goal.returns-then-is_moot-2-clause-serves
returns-then-is_moot-2-clause-serves g c = serves-refl g.J.Judge (g.Q.Question.asks c.args.task.now.question.now) c.args.judge.now

pub tell-requires-clause-asked : goal.tell-requires-clause-asked
tell-requires-clause-asked g c =
    asked (searching_by g.P.Passes g.L.Law g.Q.Question c.args.task.now g.S.Subject.told) (g.P.Passes.offer c.args.task.now.passes.now) g.S.Subject.orders g.S.Subject.replies g.S.Subject.verdicts c.requires.about
    (arc_value c.args.place.now.file).bytes.items c.args.at

pub ask-tried-requires-clause-lawful : goal.ask-tried-requires-clause-lawful
ask-tried-requires-clause-lawful g c =
    let same = c.deref-in-Lawful.ensures.value ∙ ap (λ v. v.items) c.tell.ensures.variant in
    subst (λ (v : List ℕ). g.L.Law.lawful c.args.task.now.law.now v) (sym same) c.in-Lawful.ensures.lawful

pub returns-else-is_moot-2-clause-says : goal.returns-else-is_moot-2-clause-says
returns-else-is_moot-2-clause-says g c =
    let s = searching_by g.P.Passes g.L.Law g.Q.Question c.args.task.now g.S.Subject.told in
    let make = g.P.Passes.offer c.args.task.now.passes.now in
    let sh = c.deref.result.now in
    let file = sh.bytes.items in
    let before = judging_of g.J.Judge (c.args.judge.now ∷ []) in
    let now = judging_of g.J.Judge (c.ask-tried.new.judge ∷ []) in
    let same = c.deref-in-Lawful.ensures.value ∙ ap (λ v. v.items) c.tell.ensures.variant in
    let it = subst (λ (v : List ℕ). IsCandidate s file (make sh.prep file) c.args.at v) (sym same) c.in-Lawful.ensures in
    let said = replied_at s make g.S.Subject.orders g.S.Subject.replies g.S.Subject.verdicts c.requires.about (g.met.P.Passes.one c.args.task.now.passes.now) before now file (make sh.prep file) c.args.at c.ask-tried.result
    (c.ask-tried.ensures.says file (make sh.prep file) c.args.at it) in
    subst (λ (x : Shared g.row.P-Prep.Denot). g.S.Subject.replies x.bytes.items c.args.at c.replied.result) c.deref.ensures
    (subst (λ (t : Trial). g.S.Subject.replies file c.args.at t) (sym c.replied.ensures) said)

pub returns-in-Stopped-clause-serves : goal.returns-in-Stopped-clause-serves
returns-in-Stopped-clause-serves g c = serves-refl g.J.Judge (g.Q.Question.asks c.args.task.now.question.now) c.args.judge.now
