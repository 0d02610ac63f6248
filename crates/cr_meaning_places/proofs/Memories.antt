-- Memories that are written, and objects that are entered and left: all pointers in them stay declared places.
use Rattle.std.proofs.Common.{◌≡◌, ◌≢◌, ℕ, false, ◌⊎◌, inl, inr, Some, None, IfOk, List, [], ◌∷◌, length, get_or, sym, ap, ◌∙◌, subst, get_or-set_other, get_or-set_same}
use Rattle.std.specs.List.{list_any}
use Rattle.std.proofs.lemmas.Bool.{cases_eq}
use Rattle.cr_memory.specs.declared.value.Pointer.{Pointer}
use Rattle.cr_memory.specs.declared.value.Scalar.{Scalar}
use Rattle.cr_memory.specs.declared.value.Cell.{Cell}
use Rattle.cr_memory.specs.Kind.{is_same}
use Rattle.cr_memory.specs.Memory.{Object, Memory, live_object, has_ended, with_object, without_object}
use Rattle.cr_memory.specs.Access.{is_null_or_end, is_literal, is_constant, number_of, cell_of, shape_at, shape_run_at, have_kinds, overwritten, with_cells, save_of, put_of}
use Rattle.cr_memory.specs.Continues.{Continues}
use Rattle.cr_memory.proofs.Continuing.{entered_if_some, continues-refl, with_object-continues}
use Rattle.cr_memory.proofs.Overwriting.{length-overwritten}
use Rattle.cr_memory.proofs.Storing.{writing-ok}
use Rattle.cr_memory.proofs.Writing.{same_or_not}
use Rattle.cr_memory.specs.declared.value.Pointer.TheVariants.{Null, At}
use Rattle.cr_meaning.specs.World.{Program}
use Rattle.cr_meaning_soundness.proofs.Cells.{written_in, written_continues, some_there}
use Rattle.cr_meaning_soundness.proofs.Worlds.{some_is_one, is_pushed, gone}
use Rattle.cr_meaning_places.proofs.Lasting.{Lasts, lasts_by, lasts_without}
use Rattle.cr_meaning_places.proofs.Good.{GoodCell, GoodCells, AreGood, cells_later, good_overwritten}

-- what a write leaves
pub record Changed (p : Program) (old new : Memory) : Type 0 where
  pub good : AreGood p new
  pub continues : Continues old new

pub unchanged : (p : Program) (memory : Memory) → AreGood p memory → Changed p memory memory
unchanged p memory good = record { good = good; continues = continues-refl memory }

pub good_written : (p : Program) (memory : Memory) (number place : ℕ) (live : Object) (values : List Cell) → live_object memory number ≡ Some live → AreGood p memory
    → GoodCells p memory values → Changed p memory (with_cells memory number place values)
good_written p memory number place live values e good v = rw e (record { good = λ n now f. at_each n now (same_or_not n number) f; continues = goes_on })
  where
    cells : List Cell
    cells = overwritten live.cells place values

    goes_on : Continues memory (written_in memory number live cells)
    goes_on = written_continues memory number live cells e (length-overwritten live.cells place values)

    at_each : (n : ℕ) (now : Object) → (n ≡ number) ⊎ (n ≢ number) → live_object (written_in memory number live cells) n ≡ Some now
        → GoodCells p (written_in memory number live cells) now.cells
    at_each n now (inl same) f =
        let there = get_or-set_same memory.objects number (Some (record { cells = cells; shape = live.shape })) None (entered_if_some memory.objects number live e) in
        let is : (let o : Object = record { cells = cells; shape = live.shape } in o) ≡ now = some_is_one (sym there ∙ (ap (λ k. live_object (written_in memory number live cells) k) (sym same) ∙ f)) in
        let F : Object → Type 0 = λ o. GoodCells p (written_in memory number live cells) o.cells in
        subst F is (cells_later p memory _ cells (lasts_by memory _ goes_on) (good_overwritten p memory live.cells place values (good number live e) v))
    at_each n now (inr other) f =
        cells_later p memory _ now.cells (lasts_by memory _ goes_on)
        (good n now (sym (get_or-set_other memory.objects number n (Some (record { cells = cells; shape = live.shape })) None other) ∙ f))

-- a pointer of an object that lives
lives_at : (memory : Memory) (at : Pointer) → has_ended memory at ≡ false → is_null_or_end at ≡ false → (live : Object) × (live_object memory (number_of at) ≡ Some live)
lives_at memory Null alive inside = absurd (cc inside)
lives_at memory (At object cell low high stride) alive inside = some_there (live_object memory object) alive

pub good_saved : (p : Program) (memory : Memory) (at : Pointer) (kind : Scalar) (value : Cell) → AreGood p memory → GoodCell p memory value → IfOk (save_of memory at kind value) (Changed p memory)
good_saved p memory at kind value good v =
    writing-ok (Changed p memory) (has_ended memory at) (is_null_or_end at) (is_literal (shape_at memory at).1) (is_constant (shape_at memory at).1)
    (is_same (shape_at memory at).0 kind) (with_cells memory (number_of at) (cell_of at) (value ∷ []))
    (λ alive inside same. let o = lives_at memory at alive inside in good_written p memory (number_of at) (cell_of at) o.0 (value ∷ []) o.1 good (v, tt))

pub good_put : (p : Program) (memory : Memory) (at : Pointer) (kinds : List Scalar) (values : List Cell) → AreGood p memory → GoodCells p memory values
    → IfOk (put_of memory at kinds values) (Changed p memory)
good_put p memory at kinds values good v =
    writing-ok (Changed p memory) (has_ended memory at) (is_null_or_end at) (list_any (λ s. is_literal s.1) (shape_run_at memory at (length kinds)))
    (list_any (λ s. is_constant s.1) (shape_run_at memory at (length kinds))) (have_kinds (shape_run_at memory at (length kinds)) kinds)
    (with_cells memory (number_of at) (cell_of at) values)
    (λ alive inside same. let o = lives_at memory at alive inside in good_written p memory (number_of at) (cell_of at) o.0 values o.1 good v)

-- ---- one more object, or one less

pub good_with : (p : Program) (memory : Memory) (object : Object) → AreGood p memory → GoodCells p memory object.cells → AreGood p (with_object memory object)
good_with p memory object good h n live e = at_each (is_pushed memory.objects object live n e)
  where
    later : Lasts memory (with_object memory object)
    later = lasts_by memory (with_object memory object) (with_object-continues memory object)

    at_each : (get_or memory.objects n None ≡ Some live) ⊎ (object ≡ live) → GoodCells p (with_object memory object) live.cells
    at_each (inl old) = cells_later p memory (with_object memory object) live.cells later (good n live old)
    at_each (inr same) =
        let F : Object → Type 0 = λ o. GoodCells p (with_object memory object) o.cells in
        subst F same (cells_later p memory (with_object memory object) object.cells later h)

pub good_without : (p : Program) (memory : Memory) (number : ℕ) → AreGood p memory → AreGood p (without_object memory number)
good_without p memory number good n live e =
    cells_later p memory (without_object memory number) live.cells (lasts_without memory number) (good n live (gone memory.objects number n live (cases_eq n number) e))
