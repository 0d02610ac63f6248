-- Cells that hold values of their kinds: what is read from them, and what a write leaves.
use Rattle.std.proofs.Common.{◌≡◌, ◌≢◌, ℕ, zero, suc, ◌+◌, ◌^◌, ◌<◌, ◌≤◌, Bool, true, false, not, is_none, is_some, ◌⊎◌, inl, inr, Option, Some, None, Ok, Err, IfOk, List, [], ◌∷◌, length, map, get_or, set, take, drop, if◌then◌else◌, refl, sym, ap, ◌∙◌, subst, arith, length-set, get_or-set_other, get_or-set_same}
use Rattle.std.specs.List.{list_any}
use Rattle.std.proofs.lemmas.Bool.{leb-false}
use Rattle.std.proofs.lemmas.List.{drop_more, length-map}
use Rattle.cr_memory.specs.declared.value.Pointer.{Pointer}
use Rattle.cr_memory.specs.declared.value.Pointer.TheVariants.{Null, At}
use Rattle.cr_memory.specs.declared.value.Scalar.{Scalar}
use Rattle.cr_memory.specs.declared.value.Scalar.TheVariants.{Int as IntegerKind, Pointer as PointerKind}
use Rattle.cr_memory.specs.declared.value.Cell.{Cell}
use Rattle.cr_memory.specs.declared.value.Cell.TheVariants.{Unset, Number, Pointer as PointerCell}
use Rattle.cr_memory.specs.declared.value.Guard.{Guard}
use Rattle.cr_memory.specs.declared.value.Guard.TheVariants.{Free}
use Rattle.cr_memory.specs.declared.value.Trap.TheVariants.{Undefined, Left}
use Rattle.cr_memory.specs.declared.value.TheConstants.{NULL_OR_END, ENDED, OTHER_TYPE}
use Rattle.cr_memory.specs.Kind.{is_same}
use Rattle.cr_memory.specs.Memory.{Object, Memory, IsPointer, Holds, AllHold, live_object, count_of, has_ended}
use Rattle.cr_memory.specs.Access.{some_object, is_null_or_end, is_literal, is_constant, is_unset, holds_ended, number_of, cell_of, cell_at, shape_at, cells_at, shape_run_at, have_kinds, overwritten, with_cells, load_of, save_of, put_of, cells_of, HasStride}
use Rattle.cr_memory.specs.Continues.{IsAsBefore, Continues}
use Rattle.cr_memory.proofs.Continuing.{entered_if_some, pointers-last}
use Rattle.cr_memory.proofs.Overwriting.{length-overwritten}
use Rattle.cr_memory.proofs.Reaching.{same_kinds, stride_fits, both_true, loaded_by}
use Rattle.cr_memory.proofs.Storing.{writing-ok}
use Rattle.cr_memory.proofs.Writing.{same_or_not}
use Rattle.cr_meaning_soundness.specs.Sorts.{IsSound}

abbrev pub free : Scalar × Guard
free = (PointerKind 0, Free)

abbrev pub kinds_of : List (Scalar × Guard) → List Scalar
kinds_of shape = map (λ own. own.0) shape

-- ---- what fitted before

pub holds_later : (old new : Memory) (kind : Scalar) (cell : Cell) → Continues old new → Holds old kind cell → Holds new kind cell
holds_later old new kind Unset c h = tt
holds_later old new (IntegerKind kind) (Number value) c h = h
holds_later old new (IntegerKind kind) (PointerCell pointer) c h = absurd h
holds_later old new (PointerKind to) (Number value) c h = absurd h
holds_later old new (PointerKind to) (PointerCell pointer) c h = pointers-last old new pointer c h

pub all_hold_later : (old new : Memory) (kinds : List Scalar) (cells : List Cell) → Continues old new → AllHold old kinds cells → AllHold new kinds cells
all_hold_later old new [] [] c h = tt
all_hold_later old new [] (cell ∷ cells) c h = absurd h
all_hold_later old new (kind ∷ kinds) [] c h = absurd h
all_hold_later old new (kind ∷ kinds) (cell ∷ cells) c h = (holds_later old new kind cell c h.0, all_hold_later old new kinds cells c h.1)

-- ---- lists of cells

pub as_many : (memory : Memory) (kinds : List Scalar) (cells : List Cell) → AllHold memory kinds cells → length cells ≡ length kinds
as_many memory [] [] h = refl
as_many memory [] (cell ∷ cells) h = absurd h
as_many memory (kind ∷ kinds) [] h = absurd h
as_many memory (kind ∷ kinds) (cell ∷ cells) h = ap suc (as_many memory kinds cells h.1)

pub holds_at : (memory : Memory) (shape : List (Scalar × Guard)) (cells : List Cell) (place : ℕ) → AllHold memory (kinds_of shape) cells → place < length cells
    → Holds memory (get_or shape place free).0 (get_or cells place Unset)
holds_at memory [] [] place h below = absurd (omega arith)
holds_at memory [] (cell ∷ cells) place h below = absurd h
holds_at memory (own ∷ shape) [] place h below = absurd h
holds_at memory (own ∷ shape) (cell ∷ cells) zero h below = h.0
holds_at memory (own ∷ shape) (cell ∷ cells) (suc place) h below = holds_at memory shape cells place h.1 (omega arith)

-- a part of them
pub hold_taken : (memory : Memory) (kinds : List Scalar) (cells : List Cell) (count : ℕ) → AllHold memory kinds cells → AllHold memory (take count kinds) (take count cells)
hold_taken memory kinds cells zero h = tt
hold_taken memory [] [] (suc count) h = tt
hold_taken memory [] (cell ∷ cells) (suc count) h = absurd h
hold_taken memory (kind ∷ kinds) [] (suc count) h = absurd h
hold_taken memory (kind ∷ kinds) (cell ∷ cells) (suc count) h = (h.0, hold_taken memory kinds cells count h.1)

pub hold_dropped : (memory : Memory) (kinds : List Scalar) (cells : List Cell) (count : ℕ) → AllHold memory kinds cells → AllHold memory (drop count kinds) (drop count cells)
hold_dropped memory kinds cells zero h = h
hold_dropped memory [] [] (suc count) h = tt
hold_dropped memory [] (cell ∷ cells) (suc count) h = absurd h
hold_dropped memory (kind ∷ kinds) [] (suc count) h = absurd h
hold_dropped memory (kind ∷ kinds) (cell ∷ cells) (suc count) h = hold_dropped memory kinds cells count h.1

-- ---- a write

abbrev pub RunHolds : Memory → List (Scalar × Guard) → ℕ → List Cell → Type 0
RunHolds memory shape place [] = Unit {0}
RunHolds memory shape place (value ∷ values) = Holds memory (get_or shape place free).0 value × RunHolds memory shape (suc place) values

hold_set : (memory : Memory) (shape : List (Scalar × Guard)) (cells : List Cell) (place : ℕ) (value : Cell) → AllHold memory (kinds_of shape) cells
    → Holds memory (get_or shape place free).0 value → AllHold memory (kinds_of shape) (set cells place value)
hold_set memory [] [] place value h v = tt
hold_set memory [] (cell ∷ cells) place value h v = absurd h
hold_set memory (own ∷ shape) [] place value h v = absurd h
hold_set memory (own ∷ shape) (cell ∷ cells) zero value h v = (v, h.1)
hold_set memory (own ∷ shape) (cell ∷ cells) (suc place) value h v = (h.0, hold_set memory shape cells place value h.1 v)

hold_overwritten : (memory : Memory) (shape : List (Scalar × Guard)) (cells : List Cell) (place : ℕ) (values : List Cell) → AllHold memory (kinds_of shape) cells
    → RunHolds memory shape place values → AllHold memory (kinds_of shape) (overwritten cells place values)
hold_overwritten memory shape cells place [] h run = h
hold_overwritten memory shape cells place (value ∷ values) h run =
    hold_overwritten memory shape (set cells place value) (suc place) values (hold_set memory shape cells place value h run.0) run.1

-- values of the kinds may stand in cells of these kinds
pub run_of_kinds : (memory : Memory) (shape : List (Scalar × Guard)) (kinds : List Scalar) (values : List Cell) (place : ℕ)
    → place + length kinds ≤ length shape → have_kinds (take (length kinds) (drop place shape)) kinds ≡ true → AllHold memory kinds values
    → RunHolds memory shape place values
run_of_kinds memory shape [] [] place b e h = tt
run_of_kinds memory shape [] (value ∷ values) place b e h = absurd h
run_of_kinds memory shape (kind ∷ kinds) [] place b e h = absurd h
run_of_kinds memory shape (kind ∷ kinds) (value ∷ values) place b e h =
    let first_shape = drop_more shape place free (omega arith) in
    let rest : place + 1 + length kinds ≤ length shape = omega arith in
    let next : place + 1 ≡ suc place = omega arith in
    let tests = both_true _ _ (rw first_shape at e) in
    let K : Scalar → Type 0 = λ k. Holds memory k value in
    let R : ℕ → Type 0 = λ n. RunHolds memory shape n values in (
      subst K (sym (same_kinds _ _ tests.0)) h.0,
      subst R next (run_of_kinds memory shape kinds values (place + 1) rest tests.1 h.1),
    )

-- what a write to cells leaves
pub record Written (old new : Memory) : Type 0 where
  pub sound : IsSound new
  pub continues : Continues old new

same_object : (old new : Option Object) → new ≡ old → IsAsBefore old new
same_object old new e = record { lives = ap is_some e; shape = ap (λ o. (some_object o).shape) e; count = ap count_of e }

abbrev pub written_in : Memory → ℕ → Object → List Cell → Memory
written_in memory number live cells = record { most = memory.most; objects = set memory.objects number (Some (record { cells = cells; shape = live.shape })) }

pub written_continues : (memory : Memory) (number : ℕ) (live : Object) (cells : List Cell) → live_object memory number ≡ Some live → length cells ≡ length live.cells
    → Continues memory (written_in memory number live cells)
written_continues memory number live cells e size = record {
  entered = omega (arith, length-set memory.objects number (Some (record { cells = cells; shape = live.shape })));
  objects = λ n h. at_each n (same_or_not n number);
}
  where
    at_each : (n : ℕ) → (n ≡ number) ⊎ (n ≢ number) → IsAsBefore (live_object memory n) (live_object (written_in memory number live cells) n)
    at_each n (inl same) =
        rw (same, e, get_or-set_same memory.objects number (Some (record { cells = cells; shape = live.shape })) None (entered_if_some memory.objects number live e))
        (record { lives = refl; shape = refl; count = size })
    at_each n (inr other) = same_object _ _ (get_or-set_other memory.objects number n (Some (record { cells = cells; shape = live.shape })) None other)

some_is_one : {A : Type 0} {a b : A} → Some a ≡ Some b → a ≡ b
some_is_one e = cc

pub written : (memory : Memory) (number place : ℕ) (live : Object) (values : List Cell) → live_object memory number ≡ Some live → IsSound memory
    → RunHolds memory live.shape place values → Written memory (with_cells memory number place values)
written memory number place live values e sound run =
    rw e (record { sound = record { kinds = λ n now f. at_each n now (same_or_not n number) f; small = λ n now f. size_at n now (same_or_not n number) f; most = sound.most }; continues = goes_on })
  where
    cells : List Cell
    cells = overwritten live.cells place values

    goes_on : Continues memory (written_in memory number live cells)
    goes_on = written_continues memory number live cells e (length-overwritten live.cells place values)

    at_each : (n : ℕ) (now : Object) → (n ≡ number) ⊎ (n ≢ number) → live_object (written_in memory number live cells) n ≡ Some now
        → AllHold (written_in memory number live cells) (kinds_of now.shape) now.cells
    at_each n now (inl same) f =
        let there = get_or-set_same memory.objects number (Some (record { cells = cells; shape = live.shape })) None (entered_if_some memory.objects number live e) in
        let is : (let o : Object = record { cells = cells; shape = live.shape } in o) ≡ now = some_is_one (sym there ∙ (ap (λ k. live_object (written_in memory number live cells) k) (sym same) ∙ f)) in
        let F : Object → Type 0 = λ o. AllHold (written_in memory number live cells) (kinds_of o.shape) o.cells in
        subst F is
        (all_hold_later memory _ (kinds_of live.shape) cells goes_on (hold_overwritten memory live.shape live.cells place values (sound.kinds number live e) run))
    at_each n now (inr other) f =
        all_hold_later memory _ (kinds_of now.shape) now.cells goes_on
        (sound.kinds n now (sym (get_or-set_other memory.objects number n (Some (record { cells = cells; shape = live.shape })) None other) ∙ f))

    size_at : (n : ℕ) (now : Object) → (n ≡ number) ⊎ (n ≢ number) → live_object (written_in memory number live cells) n ≡ Some now → length now.cells < 2 ^ 63
    size_at n now (inl same) f =
        let there = get_or-set_same memory.objects number (Some (record { cells = cells; shape = live.shape })) None (entered_if_some memory.objects number live e) in
        let is : (let o : Object = record { cells = cells; shape = live.shape } in o) ≡ now = some_is_one (sym there ∙ (ap (λ k. live_object (written_in memory number live cells) k) (sym same) ∙ f)) in
        let few = sound.small number live e in
        let size : length now.cells ≡ length live.cells = sym (ap (λ o. length o.cells) is) ∙ length-overwritten live.cells place values in
        rw size few
    size_at n now (inr other) f =
        sound.small n now (sym (get_or-set_other memory.objects number n (Some (record { cells = cells; shape = live.shape })) None other) ∙ f)

-- ---- what a pointer reaches

-- a pointer to cells of a live object
pub record Reached (memory : Memory) (at : Pointer) (size : ℕ) : Type 0 where
  pub live : Object
  pub lives : live_object memory (number_of at) ≡ Some live
  pub within : cell_of at + size ≤ length live.cells

pub some_there : (o : Option Object) → is_none o ≡ false → (live : Object) × (o ≡ Some live)
some_there None e = absurd (cc e)
some_there (Some live) e = (live, refl)

pub reached : (memory : Memory) (at : Pointer) (size : ℕ) → IsPointer memory at → HasStride at size → has_ended memory at ≡ false → is_null_or_end at ≡ false → Reached memory at size
reached memory Null size h stride alive inside = absurd (cc inside)
reached memory (At object cell low high stride) size h same alive inside =
    let o = some_there (live_object memory object) alive in
    let w = h.within o.0 o.1 in
    let below = leb-false high cell inside in
    let element = stride_fits cell high stride.cells h.stride_above below h.whole_after in
    record { live = o.0; lives = o.1; within = omega arith }

-- the same of a pointer to a cell
pub reached_cell : (memory : Memory) (at : Pointer) → IsPointer memory at → has_ended memory at ≡ false → is_null_or_end at ≡ false → Reached memory at 1
reached_cell memory Null h alive inside = absurd (cc inside)
reached_cell memory (At object cell low high stride) h alive inside =
    let o = some_there (live_object memory object) alive in
    let w = h.within o.0 o.1 in
    let below = leb-false high cell inside in
    record { live = o.0; lives = o.1; within = omega arith }

-- ---- what is loaded

pub loaded_holds : (memory : Memory) (at : Pointer) (kind : Scalar) → IsSound memory → IsPointer memory at → IfOk (load_of memory at kind) (Holds memory kind)
loaded_holds memory at kind sound h =
    loaded_by (Holds memory kind) (has_ended memory at) (is_null_or_end at) (holds_ended memory (cell_at memory at)) (is_same (shape_at memory at).0 kind)
    (is_unset (cell_at memory at)) (cell_at memory at)
    (λ alive inside same. let r = reached_cell memory at h alive inside in
    let w = r.within in
    let K : Scalar → Type 0 = λ k. Holds memory k (cell_at memory at) in
    let there : Holds memory (shape_at memory at).0 (cell_at memory at) =
    rw r.lives (holds_at memory r.live.shape r.live.cells (cell_of at) (sound.kinds _ r.live r.lives) (omega arith)) in
    subst K (same_kinds (shape_at memory at).0 kind same) there)

-- cells of the kinds that they are read as
all_hold : (memory : Memory) (shape : List (Scalar × Guard)) (cells : List Cell) (kinds : List Scalar) (place : ℕ) → AllHold memory (kinds_of shape) cells
    → place + length kinds ≤ length cells → have_kinds (take (length kinds) (drop place shape)) kinds ≡ true → AllHold memory kinds (take (length kinds) (drop place cells))
all_hold memory shape cells [] place h room e = tt
all_hold memory shape cells (kind ∷ kinds) place h room e =
    let size = as_many memory (kinds_of shape) cells h in
    let first_cell = drop_more cells place Unset (omega arith) in
    let first_shape = drop_more shape place free (omega (arith, length-map shape (λ (own : Scalar × Guard). own.0))) in
    let tests = both_true _ _ (rw first_shape at e) in
    rw first_cell (
      let K : Scalar → Type 0 = λ k. Holds memory k (get_or cells place Unset) in subst K (same_kinds _ _ tests.0) (holds_at memory shape cells place h (omega arith)),
      all_hold memory shape cells kinds (place + 1) h (omega arith) tests.1,
    )

read_by : (P : List Cell → Type 0) (ended end same : Bool) (cells : List Cell) → (ended ≡ false → end ≡ false → same ≡ true → P cells)
    → IfOk (if ended then Err (Undefined ENDED) else (if end then Err (Undefined NULL_OR_END) else (if not same then Err (Left OTHER_TYPE) else Ok cells))) P
read_by P true end same cells h = tt
read_by P false true same cells h = tt
read_by P false false false cells h = tt
read_by P false false true cells h = h refl refl refl

pub read_hold : (memory : Memory) (at : Pointer) (kinds : List Scalar) → IsSound memory → IsPointer memory at → HasStride at (length kinds)
    → IfOk (cells_of memory at kinds) (AllHold memory kinds)
read_hold memory at kinds well h stride =
    read_by (AllHold memory kinds) (has_ended memory at) (is_null_or_end at) (have_kinds (shape_run_at memory at (length kinds)) kinds) (cells_at memory at (length kinds))
    (λ alive inside same. let r = reached memory at (length kinds) h stride alive inside in
    let e = rw r.lives at same in
    rw r.lives (all_hold memory r.live.shape r.live.cells kinds (cell_of at) (well.kinds _ r.live r.lives) r.within e))

-- ---- what is stored

pub saved : (memory : Memory) (at : Pointer) (kind : Scalar) (value : Cell) → IsSound memory → IsPointer memory at → Holds memory kind value
    → IfOk (save_of memory at kind value) (Written memory)
saved memory at kind value well h v =
    writing-ok (Written memory) (has_ended memory at) (is_null_or_end at) (is_literal (shape_at memory at).1) (is_constant (shape_at memory at).1)
    (is_same (shape_at memory at).0 kind) (with_cells memory (number_of at) (cell_of at) (value ∷ []))
    (λ alive inside same. let r = reached_cell memory at h alive inside in
    let k = rw r.lives at same in
    let K : Scalar → Type 0 = λ x. Holds memory x value in
    written memory (number_of at) (cell_of at) r.live (value ∷ []) r.lives well (subst K (sym (same_kinds (get_or r.live.shape (cell_of at) free).0 kind k)) v, tt))

pub put : (memory : Memory) (at : Pointer) (kinds : List Scalar) (values : List Cell) → IsSound memory → IsPointer memory at → HasStride at (length kinds)
    → AllHold memory kinds values → IfOk (put_of memory at kinds values) (Written memory)
put memory at kinds values well h stride v =
    writing-ok (Written memory) (has_ended memory at) (is_null_or_end at) (list_any (λ s. is_literal s.1) (shape_run_at memory at (length kinds)))
    (list_any (λ s. is_constant s.1) (shape_run_at memory at (length kinds))) (have_kinds (shape_run_at memory at (length kinds)) kinds)
    (with_cells memory (number_of at) (cell_of at) values)
    (λ alive inside same. let r = reached memory at (length kinds) h stride alive inside in
    let size = as_many memory (kinds_of r.live.shape) r.live.cells (well.kinds _ r.live r.lives) in
    let w = r.within in
    let k = rw r.lives at same in
    written memory (number_of at) (cell_of at) r.live values r.lives well
    (run_of_kinds memory r.live.shape kinds values (cell_of at) (omega (arith, length-map r.live.shape (λ (own : Scalar × Guard). own.0))) k v))
