use Rattle.std.proofs.Common.{◌≡◌, ◌+◌, ℕ, List, [], ◌∷◌, refl, sym, subst, arith}
use Rattle.std.specs.Arc.{arc_value}
use Rattle.cr_reduce.specs.Bench.{judging_of}
use Rattle.cr_reduce.specs.Walk.{EndsHere}
use Rattle.cr_reduce.specs.declared.end.Why.{Why}
use Rattle.cr_reduce.specs.declared.end.Why.TheVariants.{Fault}
use Rattle.cr_standing.specs.Walk.{standing_at}
use Rattle.cr_standing.proofs.Positions.{fails_here, none_no, rejected, walk_open}
use Rattle.cr_standing.proofs.Reading.{leads_over, one_left}
use Rattle.cr_standing_workers.specs.Told.{FailsAt, searching_by}
use Rattle.cr_standing_workers.specs.declared.orders.Shared.{Shared}
use Rattle.cr_standing_workers.specs.declared.orders.Trial.TheVariants.{No, Yes}
use Rattle.cr_standing_workers.proofs.Places.{no_more}
use Rattle.cr_standing.proofs.deciding.decide.Goals as goal

pub try_at-requires-clause-is_open : goal.try_at-requires-clause-is_open
try_at-requires-clause-is_open g c =
    let walk = c.args.walk.now in
    let s = searching_by g.P.Passes g.L.Law g.Q.Question c.args.task.now g.S.Subject.told in
    subst (λ (sh : Shared g.row.P-Prep.Denot). g.S.Subject.orders sh.prep sh.bytes.items sh.size walk.position) (sym c.deref.ensures)
    (walk_open s (g.P.Passes.offer c.args.task.now.passes.now) g.S.Subject.orders g.S.Subject.replies g.S.Subject.verdicts c.requires.about walk c.requires.sound walk.position c.requires.below)

pub returns-in-No-clause-leads : goal.returns-in-No-clause-leads
returns-in-No-clause-leads g c =
    let walk = c.args.walk.now in
    let make = g.P.Passes.offer c.args.task.now.passes.now in
    let s = searching_by g.P.Passes g.L.Law g.Q.Question c.args.task.now g.S.Subject.told in
    let sound = c.requires.sound.as_plain in
    let at = walk.position in
    let said = subst (λ (file : List ℕ). g.S.Subject.replies file at No) c.requires.sound.same
    (subst (λ (sh : Shared g.row.P-Prep.Denot). g.S.Subject.replies sh.bytes.items at No) c.deref.ensures c.in-No.ensures.says) in
    leads_over s (standing_at make walk) (at + 1) (walk.turns + 1) (omega arith) (omega (arith, c.requires.below, sound.counted))
    (rejected s make g.S.Subject.orders g.S.Subject.replies g.S.Subject.verdicts c.requires.about walk.file.items (make (arc_value walk.shared).prep walk.file.items) at (at + 1) sound.offered
    (no_more g.S.Subject.replies walk.file.items at at (at + 1) (none_no g.S.Subject.replies walk.file.items at) said refl))
    (omega arith)

pub returns-in-No-clause-within : goal.returns-in-No-clause-within
returns-in-No-clause-within g c = one_left c.args.plan.now.limit c.args.walk.now.turns c.requires.more c.requires.within

pub take_found-requires-clause-found : goal.take_found-requires-clause-found
take_found-requires-clause-found g c =
    subst (λ (file : List ℕ). g.S.Subject.replies file c.args.walk.now.position Yes) c.requires.sound.same
    (subst (λ (sh : Shared g.row.P-Prep.Denot). g.S.Subject.replies sh.bytes.items c.args.walk.now.position Yes) c.deref.ensures c.in-Yes.ensures.says)

pub take_found-requires-clause-rejected : goal.take_found-requires-clause-rejected
take_found-requires-clause-rejected g c = none_no g.S.Subject.replies c.args.walk.now.file.items c.args.walk.now.position

pub returns-in-Failed-clause-ended : goal.returns-in-Failed-clause-ended
returns-in-Failed-clause-ended g c = λ why is.
    let walk = c.args.walk.now in
    let make = g.P.Passes.offer c.args.task.now.passes.now in
    let s = searching_by g.P.Passes g.L.Law g.Q.Question c.args.task.now g.S.Subject.told in
    let before = judging_of g.J.Judge (c.args.judge.now ∷ []) in
    let now = judging_of g.J.Judge (c.try_at.new.judge ∷ []) in
    let limit = c.args.plan.now.limit in
    let at = walk.position in
    let it = subst (λ (file : List ℕ). FailsAt s before now file (make (arc_value walk.shared).prep file) at) c.requires.sound.same
    (subst (λ (sh : Shared g.row.P-Prep.Denot). FailsAt s before now sh.bytes.items (make sh.prep sh.bytes.items) at) c.deref.ensures c.in-Failed.ensures.says) in
    let same : Fault (walk.turns + 1) 0 ≡ why = cc in
    subst (λ (w : Why). EndsHere s before now limit (standing_at make walk) w) same (fails_here s before now limit (standing_at make walk) c.requires.more it)
