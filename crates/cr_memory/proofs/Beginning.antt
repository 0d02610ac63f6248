-- Cells of a live object that begin with values, and patterns of them.
use Rattle.std.proofs.Common.{◌≡◌, ℕ, zero, suc, ◌+◌, ◌*◌, ◌≤◌, Bool, true, false, Option, Some, None, List, [], ◌∷◌, ◌++◌, length, take, drop, refl, sym, ap, ◌∙◌, subst, arith, length-drop}
use Rattle.std.specs.Prelude.{IfSome}
use Rattle.std.specs.Borrow.{Bor}
use Rattle.std.proofs.lemmas.List.{drop_more, length-take-le}
use Rattle.cr_sequence.specs.Kept.{repeated}
use Rattle.cr_sequence.specs.Stretches.{replaced}
use Rattle.cr_sequence.proofs.Showing.{length-repeated}
use Rattle.cr_memory.specs.declared.value.Scalar.{Scalar}
use Rattle.cr_memory.specs.declared.value.Scalar.TheVariants.{Pointer as PointerKind}
use Rattle.cr_memory.specs.declared.value.Cell.{Cell}
use Rattle.cr_memory.specs.declared.value.Guard.{Guard}
use Rattle.cr_memory.specs.declared.value.Guard.TheVariants.{Free}
use Rattle.cr_memory.specs.declared.span.Span.{Span}
use Rattle.cr_memory.specs.Memory.{Memory, KeepsPointers, live_object}
use Rattle.cr_memory.specs.Access.{overwritten, some_object, with_cells}
use Rattle.cr_memory.specs.Continues.{Continues}
use Rattle.cr_memory.specs.Flat.{span_at, memory_of, HasRoom, IsStored, OwnHold, RunHolds, Began}
use Rattle.cr_memory.proofs.Overwriting.{length-overwritten, overwritten-parts}
use Rattle.cr_memory.proofs.View.{object_of-live, live_object-memory_of}
use Rattle.cr_memory.proofs.Writing.{entered_if_alive, held_overwritten, memory_of-overwritten, same_pointers, stored_with}
use Rattle.cr_memory.proofs.Continuing.{written-continues}

-- ---- values of a run

-- what the cells of a run may hold those from its place on may
pub run_holds : (spans : List Span) (shape : List (Scalar × Guard)) (place : ℕ) (values : List Cell) → place + length values ≤ length shape
    → OwnHold spans (take (length values) (drop place shape)) values → RunHolds spans shape place values
run_holds spans shape place [] h held = tt
run_holds spans shape place (v ∷ vs) h held =
    let free : Scalar × Guard = (PointerKind 0, Free) in
    let next : place + 1 ≡ suc place = omega arith in
    let P : List (Scalar × Guard) → Type 0 = λ own. OwnHold spans (take (suc (length vs)) own) (v ∷ vs) in
    let Q : ℕ → Type 0 = λ n. OwnHold spans (take (length vs) (drop n shape)) vs in
    let both = subst P (drop_more shape place free (omega arith)) held in (
      both.0,
      run_holds spans shape (suc place) vs (omega arith) (subst Q next both.1),
    )

both_hold : (spans : List Span) (own shape : List (Scalar × Guard)) (values more : List Cell) → length own ≡ length values → OwnHold spans own values
    → OwnHold spans shape more → OwnHold spans (own ++ shape) (values ++ more)
both_hold spans [] shape [] more e h k = k
both_hold spans [] shape (v ∷ vs) more e h k = absurd (omega (arith, e))
both_hold spans (o ∷ os) shape [] more e h k = absurd (omega (arith, e))
both_hold spans (o ∷ os) shape (v ∷ vs) more e h k = (h.0, both_hold spans os shape vs more (omega (arith, e)) h.1 k)

pub repeated_hold : (spans : List Span) (n : ℕ) (own : List (Scalar × Guard)) (values : List Cell) → length own ≡ length values → OwnHold spans own values
    → OwnHold spans (repeated n own) (repeated n values)
repeated_hold spans zero own values e h = tt
repeated_hold spans (suc n) own values e h = both_hold spans own (repeated n own) values (repeated n values) e h (repeated_hold spans n own values e h)

-- ---- the store afterwards

pub record BeganAt (most live : ℕ) (spans : List Span) (cells written : List Cell) (shape : List (Scalar × Guard)) (wanted : Memory) : Type 0 where
  pub stored : IsStored most live spans written shape
  pub seen : memory_of most spans written shape ≡ wanted
  pub kept : KeepsPointers (memory_of most spans cells shape) (memory_of most spans written shape)
  pub continues : Continues (memory_of most spans cells shape) (memory_of most spans written shape)

began_at : (most live : ℕ) (spans : List Span) (cells written : List Cell) (shape : List (Scalar × Guard)) (object from : ℕ) (values : List Cell)
    → IsStored most live spans cells shape → Began spans cells shape object from values written
    → BeganAt most live spans cells written shape (with_cells (memory_of most spans cells shape) object from values)
began_at most live spans cells written shape object from values s b =
    let place = (span_at spans object).first + from in
    let same_length : length written ≡ length cells = ap length b.is ∙ length-overwritten cells place values in
    record {
      stored = stored_with most live spans cells written shape s same_length (rw b.is (held_overwritten spans cells shape place values s.holds b.held));
      seen = ap (λ xs. memory_of most spans xs shape) b.is
          ∙ memory_of-overwritten most live spans cells shape object from values s (entered_if_alive spans object b.alive) b.alive b.fits;
      kept = same_pointers most spans cells written shape s.room same_length;
      continues = written-continues most spans cells written shape s.room same_length;
    }

same_at : (most live : ℕ) (spans : List Span) (cells written : List Cell) (shape : List (Scalar × Guard)) → IsStored most live spans cells shape → written ≡ cells
    → BeganAt most live spans cells written shape (memory_of most spans cells shape)
same_at most live spans cells written shape s e =
    let same_length : length written ≡ length cells = ap length e in
    record {
      stored = rw e s;
      seen = ap (λ xs. memory_of most spans xs shape) e;
      kept = same_pointers most spans cells written shape s.room same_length;
      continues = written-continues most spans cells written shape s.room same_length;
    }

abbrev pub wanted_by : Bool → Memory → ℕ → ℕ → List Cell → Memory
wanted_by true memory object from values = with_cells memory object from values
wanted_by false memory object from values = memory

pub began : (result : Bool) (most live : ℕ) (spans : List Span) (cells written : List Cell) (shape : List (Scalar × Guard)) (object from : ℕ) (values : List Cell)
    → IsStored most live spans cells shape → (result ≡ true → Began spans cells shape object from values written) → (result ≡ false → written ≡ cells)
    → BeganAt most live spans cells written shape (wanted_by result (memory_of most spans cells shape) object from values)
began true most live spans cells written shape object from values s done same = began_at most live spans cells written shape object from values s (done refl)
began false most live spans cells written shape object from values s done same = same_at most live spans cells written shape s (same refl)

pub wanted_done : (result : Bool) (memory : Memory) (object from : ℕ) (values : List Cell) → result ≡ true → wanted_by result memory object from values ≡ with_cells memory object from values
wanted_done true memory object from values e = refl
wanted_done false memory object from values e = absurd (cc e)

pub wanted_same : (result : Bool) (memory : Memory) (object from : ℕ) (values : List Cell) → result ≡ false → wanted_by result memory object from values ≡ memory
wanted_same true memory object from values e = absurd (cc e)
wanted_same false memory object from values e = refl

-- ---- a whole large object

pub refilled : (spans : List Span) (cells written : List Cell) (shape own : List (Scalar × Guard)) (object times : ℕ) (pattern : List Cell)
    → HasRoom spans (length cells) → length shape ≡ length cells → (span_at spans object).alive ≡ true
    → repeated times own ≡ take (span_at spans object).count (drop (span_at spans object).first shape)
    → length own ≡ length pattern → OwnHold spans own pattern
    → written ≡ replaced cells (span_at spans object).first (repeated times pattern)
    → Began spans cells shape object 0 (repeated times pattern) written
refilled spans cells written shape own object times pattern room same_length alive is size held e =
    let span = span_at spans object in
    let values = repeated times pattern in
    let within = room.within object alive in
    let own_size : length (repeated times own) ≡ length values = length-repeated times own ∙ ap (λ n. times * n) size ∙ sym (length-repeated times pattern) in
    let count : length (repeated times own) ≡ span.count = ap length is ∙ length-take-le span.count (drop span.first shape) (omega (arith, length-drop span.first shape)) in
    let from : span.first ≡ span.first + 0 = omega arith in
    let P : List (Scalar × Guard) → Type 0 = λ xs. OwnHold spans xs values in
    let Q : ℕ → Type 0 = λ n. OwnHold spans (take n (drop span.first shape)) values in
    let R : ℕ → Type 0 = λ n. RunHolds spans shape n values in
    record {
      alive = alive;
      fits = omega arith;
      held = subst R from (run_holds spans shape span.first values (omega arith) (subst Q (sym count ∙ own_size) (subst P is (repeated_hold spans times own pattern size held))));
      is = e ∙ sym (overwritten-parts cells span.first values (omega arith)) ∙ ap (λ n. overwritten cells n values) from;
    }

-- ---- the cells of an object

cells_seen : (most : ℕ) (spans : List Span) (cells run : List Cell) (shape : List (Scalar × Guard)) (memory : Memory) (object : ℕ) → memory_of most spans cells shape ≡ memory
    → (span_at spans object).alive ≡ true → run ≡ take (span_at spans object).count (drop (span_at spans object).first cells)
    → run ≡ (some_object (live_object memory object)).cells
cells_seen most spans cells run shape memory object view alive is =
    is
    ∙ sym (ap (λ o. (some_object o).cells) (live_object-memory_of most spans cells shape object ∙ object_of-live cells shape (span_at spans object) alive))
    ∙ ap (λ m. (some_object (live_object m object)).cells) view

pub run_seen : (most : ℕ) (spans : List Span) (cells : List Cell) (shape : List (Scalar × Guard)) (memory : Memory) (object : ℕ) (result : Option (Bor (List Cell)))
    → memory_of most spans cells shape ≡ memory
    → IfSome result (λ run. ((span_at spans object).alive ≡ true) × (run.now ≡ take (span_at spans object).count (drop (span_at spans object).first cells)))
    → IfSome result (λ run. run.now ≡ (some_object (live_object memory object)).cells)
run_seen most spans cells shape memory object None view h = h
run_seen most spans cells shape memory object (Some run) view h = cells_seen most spans cells run.now shape memory object view h.0 h.1
