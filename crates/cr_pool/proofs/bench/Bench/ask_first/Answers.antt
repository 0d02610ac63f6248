use Rattle.std.proofs.Common.{◌≡◌, ◌<◌, ◌≤◌, ◌∙◌, ap, drop, length, map, set, subst, sym, arith}
use Rattle.std.proofs.lemmas.List.{length-map}
use Rattle.cr_outside.specs.Faults.{Rose}
use Rattle.cr_outside.specs.Question.{AnswersAsTold, AsksOnce, CountsOnce}
use Rattle.cr_pool.specs.declared.crew.Worker.{Worker}
use Rattle.cr_pool.specs.Bench.{Benched}
use Rattle.cr_pool.specs.Crew.{judges_in}
use Rattle.cr_pool.specs.Tally.{first_says, tallies_of, tally_at, tally_of}
use Rattle.cr_pool.proofs.More.{count_still, first_after, first_before, keys_still, manned_still, others_still, says_after, says_before}
use Rattle.cr_pool.proofs.bench.Bench.ask_first.Goals as goal

pub invariant_of-self : goal.invariant_of-self
invariant_of-self g c =
    let first = c.index_mut-worker.result.now in
    manned_still g.J.Judge c.self.inside.workers.items (record first { judge = c.ask.new.judge }) first
    (c.ask.ensures.key ∙ ap (λ (w : Worker g.row.J.Denot). g.J.Judge.key w.judge) c.index_mut-worker.ensures.value) c.self.invariant

pub returns-clause-once : goal.returns-clause-once
returns-clause-once g c = λ uses.
    let first = c.index_mut-worker.result.now in
    let workers = c.self.inside.workers.items in
    let some : 0 < length workers = omega (arith, c.self.invariant.0, length-map workers (λ (w : Worker g.row.J.Denot). w.judge)) in
    let before = ap (λ (b : Benched g.row.J.Denot). tally_at (tallies_of g.J.Judge b.judges) 0) (sym c.self.view_is) ∙ first_before g.J.Judge workers first some
    ∙ ap (λ (w : Worker g.row.J.Denot). tally_of g.J.Judge w.judge) (sym c.index_mut-worker.ensures.value) in
    let after = first_after g.J.Judge workers (record first { judge = c.ask.new.judge }) some in
    let changed = judges_in (set workers 0 (record first { judge = c.ask.new.judge })) in
    subst (λ t. AsksOnce t.calls (tally_at (tallies_of g.J.Judge changed) 0).calls c.args.name.now c.args.file.now c.ask.result) (sym before)
    (subst (λ t. AsksOnce (g.J.Judge.calls first.judge) t.calls c.args.name.now c.args.file.now c.ask.result) (sym after) (c.ask.ensures.once uses))

pub returns-clause-keys : goal.returns-clause-keys
returns-clause-keys g c =
    let first = c.index_mut-worker.result.now in
    let workers = c.self.inside.workers.items in
    subst (λ (b : Benched g.row.J.Denot). map g.J.Judge.key (judges_in (set workers 0 (record first { judge = c.ask.new.judge }))) ≡ map g.J.Judge.key b.judges) c.self.view_is
    (keys_still g.J.Judge workers (record first { judge = c.ask.new.judge }) first (c.ask.ensures.key ∙ ap (λ (w : Worker g.row.J.Denot). g.J.Judge.key w.judge) c.index_mut-worker.ensures.value))

pub returns-clause-counted : goal.returns-clause-counted
returns-clause-counted g c = λ uses.
    let first = c.index_mut-worker.result.now in
    let workers = c.self.inside.workers.items in
    let some : 0 < length workers = omega (arith, c.self.invariant.0, length-map workers (λ (w : Worker g.row.J.Denot). w.judge)) in
    let before = ap (λ (b : Benched g.row.J.Denot). tally_at (tallies_of g.J.Judge b.judges) 0) (sym c.self.view_is) ∙ first_before g.J.Judge workers first some
    ∙ ap (λ (w : Worker g.row.J.Denot). tally_of g.J.Judge w.judge) (sym c.index_mut-worker.ensures.value) in
    let after = first_after g.J.Judge workers (record first { judge = c.ask.new.judge }) some in
    let changed = judges_in (set workers 0 (record first { judge = c.ask.new.judge })) in
    subst (λ t. CountsOnce t.asked (tally_at (tallies_of g.J.Judge changed) 0).asked c.ask.result) (sym before)
    (subst (λ t. CountsOnce (g.J.Judge.asked first.judge) t.asked c.ask.result) (sym after) (c.ask.ensures.counted uses))

pub returns-clause-later : goal.returns-clause-later
returns-clause-later g c =
    let first = c.index_mut-worker.result.now in
    let workers = c.self.inside.workers.items in
    let some : 0 < length workers = omega (arith, c.self.invariant.0, length-map workers (λ (w : Worker g.row.J.Denot). w.judge)) in
    let before = ap (λ (b : Benched g.row.J.Denot). tally_at (tallies_of g.J.Judge b.judges) 0) (sym c.self.view_is) ∙ first_before g.J.Judge workers first some
    ∙ ap (λ (w : Worker g.row.J.Denot). tally_of g.J.Judge w.judge) (sym c.index_mut-worker.ensures.value) in
    let after = first_after g.J.Judge workers (record first { judge = c.ask.new.judge }) some in
    let changed = judges_in (set workers 0 (record first { judge = c.ask.new.judge })) in
    subst (λ t. t.faults ≤ (tally_at (tallies_of g.J.Judge changed) 0).faults) (sym before)
    (subst (λ t. g.J.Judge.faults first.judge ≤ t.faults) (sym after) c.ask.ensures.later)

pub returns-clause-failed : goal.returns-clause-failed
returns-clause-failed g c = λ failed.
    let first = c.index_mut-worker.result.now in
    let workers = c.self.inside.workers.items in
    let some : 0 < length workers = omega (arith, c.self.invariant.0, length-map workers (λ (w : Worker g.row.J.Denot). w.judge)) in
    let before = ap (λ (b : Benched g.row.J.Denot). tally_at (tallies_of g.J.Judge b.judges) 0) (sym c.self.view_is) ∙ first_before g.J.Judge workers first some
    ∙ ap (λ (w : Worker g.row.J.Denot). tally_of g.J.Judge w.judge) (sym c.index_mut-worker.ensures.value) in
    let after = first_after g.J.Judge workers (record first { judge = c.ask.new.judge }) some in
    let changed = judges_in (set workers 0 (record first { judge = c.ask.new.judge })) in
    subst (λ t. Rose t.faults (tally_at (tallies_of g.J.Judge changed) 0).faults) (sym before)
    (subst (λ t. Rose (g.J.Judge.faults first.judge) t.faults) (sym after) (c.ask.ensures.failed failed))

pub returns-clause-told : goal.returns-clause-told
returns-clause-told g c =
    let first = c.index_mut-worker.result.now in
    let workers = c.self.inside.workers.items in
    let some : 0 < length workers = omega (arith, c.self.invariant.0, length-map workers (λ (w : Worker g.row.J.Denot). w.judge)) in
    let before = ap (λ (b : Benched g.row.J.Denot). first_says g.J.Judge.key g.J.Judge.says b.judges) (sym c.self.view_is) ∙ says_before g.J.Judge workers first some
    ∙ ap (λ (w : Worker g.row.J.Denot). g.J.Judge.says (g.J.Judge.key w.judge)) (sym c.index_mut-worker.ensures.value) in
    subst (λ says. AnswersAsTold (g.Q.Question.asks c.args.question.now) (g.Q.Question.tells c.args.question.now says c.args.name.now c.args.file.now) c.ask.result) (sym before) c.ask.ensures.told

pub returns-clause-key : goal.returns-clause-key
returns-clause-key g c =
    let first = c.index_mut-worker.result.now in
    let workers = c.self.inside.workers.items in
    let some : 0 < length workers = omega (arith, c.self.invariant.0, length-map workers (λ (w : Worker g.row.J.Denot). w.judge)) in
    says_after g.J.Judge workers (record first { judge = c.ask.new.judge }) some ∙ ap g.J.Judge.says c.ask.ensures.key
    ∙ sym (ap (λ (b : Benched g.row.J.Denot). first_says g.J.Judge.key g.J.Judge.says b.judges) (sym c.self.view_is) ∙ says_before g.J.Judge workers first some
    ∙ ap (λ (w : Worker g.row.J.Denot). g.J.Judge.says (g.J.Judge.key w.judge)) (sym c.index_mut-worker.ensures.value))

pub returns-clause-others : goal.returns-clause-others
returns-clause-others g c =
    let first = c.index_mut-worker.result.now in
    others_still g.J.Judge c.self.inside.workers.items (record first { judge = c.ask.new.judge }) ∙ ap (λ (b : Benched g.row.J.Denot). drop 1 b.judges) c.self.view_is

pub returns-clause-count : goal.returns-clause-count
returns-clause-count g c =
    let first = c.index_mut-worker.result.now in
    count_still g.J.Judge c.self.inside.workers.items (record first { judge = c.ask.new.judge }) ∙ ap (λ (b : Benched g.row.J.Denot). length b.judges) c.self.view_is
