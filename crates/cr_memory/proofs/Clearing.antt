-- A live object of which all cells are unset again.
use Rattle.std.proofs.Common.{◌≡◌, ℕ, zero, suc, ◌+◌, true, List, [], ◌∷◌, replicate, length, sym, ap, ◌∙◌, arith}
use Rattle.cr_sequence.specs.Kept.{repeated}
use Rattle.cr_sequence.specs.Stretches.{filled}
use Rattle.cr_memory.specs.declared.value.Scalar.{Scalar}
use Rattle.cr_memory.specs.declared.value.Cell.{Cell}
use Rattle.cr_memory.specs.declared.value.Cell.TheVariants.{Unset}
use Rattle.cr_memory.specs.declared.value.Guard.{Guard}
use Rattle.cr_memory.specs.declared.span.Span.{Span}
use Rattle.cr_memory.specs.Memory.{KeepsPointers, live_object, count_of}
use Rattle.cr_memory.specs.Access.{with_cells, overwritten}
use Rattle.cr_memory.specs.Continues.{Continues}
use Rattle.cr_memory.specs.Flat.{span_at, memory_of, IsStored, RunHolds}
use Rattle.cr_memory.proofs.Repeating.{replicated, length-one}
use Rattle.cr_memory.proofs.Overwriting.{length-overwritten, filled-overwritten}
use Rattle.cr_memory.proofs.View.{object_of-live, length-whole_of, live_object-memory_of}
use Rattle.cr_memory.proofs.Writing.{entered_if_alive, held_overwritten, memory_of-overwritten, same_pointers, stored_with}
use Rattle.cr_memory.proofs.Continuing.{written-continues}

unset_held : (spans : List Span) (shape : List (Scalar × Guard)) (place count : ℕ) → RunHolds spans shape place (repeated count (Unset ∷ []))
unset_held spans shape place zero = tt
unset_held spans shape place (suc count) = (tt, unset_held spans shape (suc place) count)

pub record Cleared (most live : ℕ) (spans : List Span) (cells written : List Cell) (shape : List (Scalar × Guard)) (number : ℕ) : Type 0 where
  pub stored : IsStored most live spans written shape
  pub seen : memory_of most spans written shape
      ≡ with_cells (memory_of most spans cells shape) number 0 (replicate (count_of (live_object (memory_of most spans cells shape) number)) Unset)
  pub kept : KeepsPointers (memory_of most spans cells shape) (memory_of most spans written shape)
  pub continues : Continues (memory_of most spans cells shape) (memory_of most spans written shape)

pub cleared : (most live : ℕ) (spans : List Span) (cells written : List Cell) (shape : List (Scalar × Guard)) (number : ℕ)
    → IsStored most live spans cells shape → (span_at spans number).alive ≡ true
    → written ≡ filled cells (span_at spans number).first (span_at spans number).count Unset → Cleared most live spans cells written shape number
cleared most live spans cells written shape number s alive w =
    let span = span_at spans number in
    let memory = memory_of most spans cells shape in
    let within = s.room.within number alive in
    let values = repeated span.count (Unset ∷ []) in
    let size : length values ≡ span.count = length-one span.count Unset in
    let from : span.first ≡ span.first + 0 = omega arith in
    let e : written ≡ overwritten cells (span.first + 0) values =
    w ∙ filled-overwritten cells span.first span.count Unset within ∙ ap (λ n. overwritten cells n values) from in
    let same_length : length written ≡ length cells = ap length e ∙ length-overwritten cells (span.first + 0) values in
    let object = live_object-memory_of most spans cells shape number ∙ object_of-live cells shape span alive in
    let count : count_of (live_object memory number) ≡ span.count = ap count_of object ∙ length-whole_of cells shape span within in
    let unset : values ≡ replicate (count_of (live_object memory number)) Unset = replicated span.count Unset ∙ ap (λ n. replicate n Unset) (sym count) in
    record {
      stored = stored_with most live spans cells written shape s same_length
          (rw e (held_overwritten spans cells shape (span.first + 0) values s.holds (unset_held spans shape (span.first + 0) span.count)));
      seen = ap (λ xs. memory_of most spans xs shape) e
          ∙ memory_of-overwritten most live spans cells shape number 0 values s (entered_if_alive spans number alive) alive (omega arith)
          ∙ ap (λ vs. with_cells memory number 0 vs) unset;
      kept = same_pointers most spans cells written shape s.room same_length;
      continues = written-continues most spans cells written shape s.room same_length;
    }
