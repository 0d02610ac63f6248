use Rattle.std.proofs.Common.{◌≡◌, ◌+◌, ◌<◌, ◌≤◌, ℕ, true, false, ◌⊎◌, inl, inr, Option, Some, None, IfNone, IfSome, List, length, sym, ap, ◌∙◌, subst, arith}
use Rattle.cr_memory.specs.declared.value.Scalar.{Scalar}
use Rattle.cr_memory.specs.declared.value.Cell.{Cell}
use Rattle.cr_memory.specs.declared.value.Guard.{Guard}
use Rattle.cr_memory.specs.declared.span.Span.{Span}
use Rattle.cr_memory.specs.Memory.{Memory, live_object, count_of}
use Rattle.cr_memory.specs.Access.{shape_in}
use Rattle.cr_memory.specs.Flat.{span_at, shape_or, memory_of, HasRoom}
use Rattle.cr_memory.proofs.View.{two_ways, object_of-live, object_of-ended, length-whole_of, live_object-memory_of}
use Rattle.cr_memory.proofs.Writing.{LiveCell, entered_if_alive, kind_of_live}
use Rattle.cr_memory.proofs.store.Store.kind_of.Goals as goal

-- an object with no such cell
none_by : (most : ℕ) (spans : List Span) (cells : List Cell) (shape : List (Scalar × Guard)) (number place : ℕ) → HasRoom spans (length cells)
    → ((span_at spans number).alive ≡ true) ⊎ ((span_at spans number).alive ≡ false)
    → ((span_at spans number).alive ≡ true → (span_at spans number).count ≤ place) → count_of (live_object (memory_of most spans cells shape) number) ≤ place
none_by most spans cells shape number place room (inl a) h =
    let e = ap count_of (live_object-memory_of most spans cells shape number ∙ object_of-live cells shape (span_at spans number) a) in
    let n = length-whole_of cells shape (span_at spans number) (room.within number a) in
    let b = h a in
    omega arith
none_by most spans cells shape number place room (inr d) h =
    let e = ap count_of (live_object-memory_of most spans cells shape number ∙ object_of-ended cells shape (span_at spans number) d) in
    omega arith

none_seen : (most : ℕ) (spans : List Span) (cells : List Cell) (shape : List (Scalar × Guard)) (memory : Memory) (number place : ℕ) (result : Option Scalar)
    → memory_of most spans cells shape ≡ memory → HasRoom spans (length cells)
    → IfNone result ((span_at spans number).alive ≡ true → (span_at spans number).count ≤ place) → IfNone result (count_of (live_object memory number) ≤ place)
none_seen most spans cells shape memory number place (Some kind) view room h = tt
none_seen most spans cells shape memory number place None view room h =
    let P : Memory → Type 0 = λ m. count_of (live_object m number) ≤ place in
    subst P view (none_by most spans cells shape number place room (two_ways _) h)

-- an object with the cell
some_seen : (most : ℕ) (spans : List Span) (cells : List Cell) (shape : List (Scalar × Guard)) (memory : Memory) (number place : ℕ) (result : Option Scalar)
    → memory_of most spans cells shape ≡ memory → HasRoom spans (length cells)
    → IfSome result (λ kind. ((span_at spans number).alive ≡ true) × (place < (span_at spans number).count) × (kind ≡ (shape_or shape ((span_at spans number).first + place)).0))
    → IfSome result (λ kind. (place < count_of (live_object memory number)) × (kind ≡ (shape_in memory number place).0))
some_seen most spans cells shape memory number place None view room h = tt
some_seen most spans cells shape memory number place (Some kind) view room h =
    let P : Memory → Type 0 = λ m. (place < count_of (live_object m number)) × (kind ≡ (shape_in m number place).0) in
    let a = h.0 in
    let within = room.within number a in
    let below = h.1 in
    let e = ap count_of (live_object-memory_of most spans cells shape number ∙ object_of-live cells shape (span_at spans number) a) in
    let n = length-whole_of cells shape (span_at spans number) within in
    let live : LiveCell spans cells number place = record { entered = entered_if_alive spans number a; alive = a; below = below; inside = omega arith } in
    let fits : place < count_of (live_object (memory_of most spans cells shape) number) = omega arith in
    subst P view (fits, h.2 ∙ ap (λ o. o.0) (sym (kind_of_live most spans cells shape number place live)))

pub returns-clause-some : goal.returns-clause-some
returns-clause-some c =
    let i = c.self.inside in
    some_seen i.most i.spans i.cells i.shape _ c.args.object c.args.cell c.kind_of.result c.self.view_is c.self.invariant.room c.kind_of.ensures.some

pub returns-clause-none : goal.returns-clause-none
returns-clause-none c =
    let i = c.self.inside in
    none_seen i.most i.spans i.cells i.shape _ c.args.object c.args.cell c.kind_of.result c.self.view_is c.self.invariant.room c.kind_of.ensures.none
