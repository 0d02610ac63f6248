use Rattle.std.proofs.Common.{length, refl, sym, ap, ◌∙◌, arith}
use Rattle.std.proofs.lemmas.Bool.{leb-true}
use Rattle.std.proofs.lemmas.List.{length-map}
use Rattle.cr_sequence.specs.Kept.{repeated}
use Rattle.cr_memory.specs.Memory.{has_room}
use Rattle.cr_memory.specs.Flat.{object_of}
use Rattle.cr_memory.proofs.Reaching.{both_true}
use Rattle.cr_memory.proofs.Lifetimes.{has_room-memory_of, entered}
use Rattle.cr_memory.proofs.Continuing.{continues-refl, with_object-continues}
use Rattle.cr_memory.proofs.store.Store.enter_times.Goals as goal

pub returns-then-not-has_room-clause-no_room : goal.returns-then-not-has_room-clause-no_room
returns-then-not-has_room-clause-no_room c =
    let i = c.self.inside in
    let full = ap (λ m. has_room m (length (repeated c.args.times c.args.shape.now))) (sym c.self.view_is)
    ∙ sym (has_room-memory_of i.most i.live i.spans i.cells i.shape (length (repeated c.args.times c.args.shape.now)) c.self.invariant)
    ∙ sym c.has_room.ensures ∙ c.if-not-has_room.true in
    (λ _. full, λ _. refl)

pub invariant_of-self : goal.invariant_of-self
invariant_of-self c =
    let i = c.self.inside in
    let tests = both_true _ _ (sym c.has_room.ensures ∙ c.if-not-has_room.false) in
    let within = leb-true _ _ tests.0 in
    let size = c.cells_in.ensures.exact (omega (arith, within)) in
    rw (c.in-Ok.ensures.spans, c.in-Ok.ensures.cells, c.in-Ok.ensures.shapes, size)
    (entered i.most i.live i.spans i.cells i.shape (repeated c.args.times c.args.shape.now) c.args.zero c.self.invariant within).stored

pub returns-in-Ok-clause-entered : goal.returns-in-Ok-clause-entered
returns-in-Ok-clause-entered c =
    let i = c.self.inside in
    let tests = both_true _ _ (sym c.has_room.ensures ∙ c.if-not-has_room.false) in
    let done = entered i.most i.live i.spans i.cells i.shape (repeated c.args.times c.args.shape.now) c.args.zero c.self.invariant (leb-true _ _ tests.0) in (
      c.in-Ok.ensures.number ∙ sym (length-map i.spans (object_of i.cells i.shape)) ∙ ap (λ m. length m.objects) c.self.view_is,
      rw (c.in-Ok.ensures.spans, c.in-Ok.ensures.cells, c.in-Ok.ensures.shapes, ← c.self.view_is) done.seen,
    )

pub returns-in-Ok-clause-kept : goal.returns-in-Ok-clause-kept
returns-in-Ok-clause-kept c =
    let i = c.self.inside in
    let tests = both_true _ _ (sym c.has_room.ensures ∙ c.if-not-has_room.false) in
    let done = entered i.most i.live i.spans i.cells i.shape (repeated c.args.times c.args.shape.now) c.args.zero c.self.invariant (leb-true _ _ tests.0) in
    rw (← c.self.view_is, c.in-Ok.ensures.spans, c.in-Ok.ensures.cells, c.in-Ok.ensures.shapes) done.kept

pub returns-in-Ok-clause-no_room : goal.returns-in-Ok-clause-no_room
returns-in-Ok-clause-no_room c =
    let i = c.self.inside in
    let room = ap (λ m. has_room m (length (repeated c.args.times c.args.shape.now))) (sym c.self.view_is)
    ∙ sym (has_room-memory_of i.most i.live i.spans i.cells i.shape (length (repeated c.args.times c.args.shape.now)) c.self.invariant)
    ∙ sym c.has_room.ensures ∙ c.if-not-has_room.false in
    (λ e. absurd (cc e), λ e. absurd (cc (room, e)))

pub returns-in-Err-clause-no_room : goal.returns-in-Err-clause-no_room
returns-in-Err-clause-no_room c =
    let i = c.self.inside in
    let room = ap (λ m. has_room m (length (repeated c.args.times c.args.shape.now))) (sym c.self.view_is)
    ∙ sym (has_room-memory_of i.most i.live i.spans i.cells i.shape (length (repeated c.args.times c.args.shape.now)) c.self.invariant)
    ∙ sym c.has_room.ensures ∙ c.if-not-has_room.false in
    (λ e. absurd (cc e), λ e. absurd (cc (room, e)))

pub returns-in-Ok-clause-continues : goal.returns-in-Ok-clause-continues
returns-in-Ok-clause-continues c = let e = returns-in-Ok-clause-entered c in rw e.1 (with_object-continues _ _)

pub returns-then-not-has_room-clause-continues : goal.returns-then-not-has_room-clause-continues
returns-then-not-has_room-clause-continues c = continues-refl _
