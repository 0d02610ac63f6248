-- What is read from the flat store is what the memory's operations give.
use Rattle.std.proofs.Common.{◌≡◌, ℕ, zero, suc, ◌+◌, ◌-◌, ◌%◌, ◌&&◌, ◌<◌, ◌≤◌, Bool, true, false, not, nat_le, Result, Ok, Err, IfOk, List, [], ◌∷◌, length, get_or, take, drop, if◌then◌else◌, refl, sym, ap, ◌∙◌, subst, arith}
use Rattle.std.proofs.lemmas.List.{get_or-take, get_or-drop, drop-take, take-take, drop-drop, drop_more}
use Rattle.std.proofs.Math.Nat.{mod-eq_of_lt}
use Rattle.std.proofs.lemmas.Bool.{eqb-true, leb-false, leb-true}
use Rattle.std.specs.Global.{Vec}
use Rattle.cr_ints.specs.declared.kind.IntKind.{IntKind}
use Rattle.cr_ints.specs.declared.kind.IntKind.TheVariants.{Bool as BoolKind, Char, SChar, UChar, Short, UShort, Int, UInt, Long, ULong, LLong, ULLong}
use Rattle.cr_memory.specs.declared.value.Pointer.{Pointer}
use Rattle.cr_memory.specs.declared.value.Pointer.TheVariants.{Null, At}
use Rattle.cr_memory.specs.declared.value.Scalar.{Scalar}
use Rattle.cr_memory.specs.declared.value.Scalar.TheVariants.{Int as IntegerKind, Pointer as PointerKind}
use Rattle.cr_memory.specs.declared.value.Cell.{Cell}
use Rattle.cr_memory.specs.declared.value.Cell.TheVariants.{Unset}
use Rattle.cr_memory.specs.declared.value.Guard.{Guard}
use Rattle.cr_memory.specs.declared.value.Guard.TheVariants.{Free}
use Rattle.cr_memory.specs.declared.value.Trap.{Trap}
use Rattle.cr_memory.specs.declared.value.Trap.TheVariants.{Undefined, Left}
use Rattle.cr_memory.specs.declared.value.TheConstants.{NULL_OR_END, ENDED, UNSET, OTHER_TYPE}
use Rattle.cr_memory.specs.declared.span.Span.{Span}
use Rattle.cr_memory.specs.Kind.{is_same, place_of}
use Rattle.cr_memory.specs.Memory.{Holds, AllHold, live_object, has_ended}
use Rattle.cr_memory.specs.Access.{is_null_or_end, is_unset, reaching, some_object, cell_at, shape_at, cells_at, shape_run_at, have_kinds, Reads, load_of, cells_of, HasStride}
use Rattle.cr_memory.specs.Flat.{span_at, memory_of, ended_in, held_ended_in, index_of, cell_or, shape_or, PointerIn, HoldsIn, HasRoom, IsStored, flat_load, flat_cells}
use Rattle.cr_memory.proofs.View.{whole_of, object_of-live, live_object-memory_of, has_ended-memory_of, holds_ended-memory_of, holds}

-- ---- kinds

kind_at : ℕ → IntKind
kind_at zero = BoolKind
kind_at (suc zero) = Char
kind_at (suc (suc zero)) = SChar
kind_at (suc (suc (suc zero))) = UChar
kind_at (suc (suc (suc (suc zero)))) = Short
kind_at (suc (suc (suc (suc (suc zero))))) = UShort
kind_at (suc (suc (suc (suc (suc (suc zero)))))) = Int
kind_at (suc (suc (suc (suc (suc (suc (suc zero))))))) = UInt
kind_at (suc (suc (suc (suc (suc (suc (suc (suc zero)))))))) = Long
kind_at (suc (suc (suc (suc (suc (suc (suc (suc (suc zero))))))))) = ULong
kind_at (suc (suc (suc (suc (suc (suc (suc (suc (suc (suc zero)))))))))) = LLong
kind_at (suc (suc (suc (suc (suc (suc (suc (suc (suc (suc (suc n))))))))))) = ULLong

kind_at-place_of : (kind : IntKind) → kind_at (place_of kind) ≡ kind
unfolding kind_at
kind_at-place_of BoolKind = refl
kind_at-place_of Char = refl
kind_at-place_of SChar = refl
kind_at-place_of UChar = refl
kind_at-place_of Short = refl
kind_at-place_of UShort = refl
kind_at-place_of Int = refl
kind_at-place_of UInt = refl
kind_at-place_of Long = refl
kind_at-place_of ULong = refl
kind_at-place_of LLong = refl
kind_at-place_of ULLong = refl

pub same_kinds : (left right : Scalar) → is_same left right ≡ true → left ≡ right
same_kinds (IntegerKind left) (IntegerKind right) e =
    ap IntegerKind (sym (kind_at-place_of left) ∙ ap kind_at (eqb-true (place_of left) (place_of right) e) ∙ kind_at-place_of right)
same_kinds (PointerKind left) (PointerKind right) e = ap PointerKind (eqb-true left right e)
same_kinds (IntegerKind left) (PointerKind right) e = cc
same_kinds (PointerKind left) (IntegerKind right) e = cc

-- ---- what a pointer to a live object reaches

-- what the memory has where a pointer points to, in terms of the flat store
pub record Reached (most : ℕ) (spans : List Span) (cells : List Cell) (shape : List (Scalar × Guard)) (at : Pointer) : Type 0 where
  pub cell : cell_at (memory_of most spans cells shape) at ≡ cell_or cells (index_of spans at)
  pub own : shape_at (memory_of most spans cells shape) at ≡ shape_or shape (index_of spans at)
  pub inside : index_of spans at < length cells

whole_reached : (most : ℕ) (spans : List Span) (cells : List Cell) (shape : List (Scalar × Guard)) (number : ℕ) → (span_at spans number).alive ≡ true
    → some_object (live_object (memory_of most spans cells shape) number) ≡ whole_of cells shape (span_at spans number)
whole_reached most spans cells shape number alive =
    ap some_object (live_object-memory_of most spans cells shape number ∙ object_of-live cells shape (span_at spans number) alive)

pub alive_from : (b : Bool) → not b ≡ false → b ≡ true
alive_from true e = refl
alive_from false e = cc

pub reached : (most : ℕ) (spans : List Span) (cells : List Cell) (shape : List (Scalar × Guard)) (at : Pointer)
    → HasRoom spans (length cells) → PointerIn spans at → ended_in spans at ≡ false → is_null_or_end at ≡ false → Reached most spans cells shape at
reached most spans cells shape Null room h live inside = cc
reached most spans cells shape (At object cell low high stride) room h live inside =
    let span = span_at spans object in
    let alive = alive_from span.alive live in
    let before : cell < high = leb-false high cell inside in
    let fits = h.within alive in
    let bound = room.within object alive in
    let below : cell < span.count = omega arith in
    let whole = whole_reached most spans cells shape object alive in
    let free : Scalar × Guard = (PointerKind 0, Free) in
    record {
      cell = ap (λ x. get_or x.cells cell Unset) whole ∙ get_or-take span.count (drop span.first cells) cell Unset below ∙ get_or-drop span.first cells cell Unset;
      own = ap (λ x. get_or x.shape cell free) whole ∙ get_or-take span.count (drop span.first shape) cell free below ∙ get_or-drop span.first shape cell free;
      inside = omega arith;
    }

-- ---- an access

-- the two cases that each access has first; the rest is compared only where neither holds
pub same_access : {A : Type 0} (ended ended' end : Bool) (rest rest' : Result A Trap) → ended ≡ ended'
    → (ended ≡ false → end ≡ false → rest ≡ rest')
    → (if ended then Err (Undefined ENDED) else (if end then Err (Undefined NULL_OR_END) else rest))
    ≡ (if ended' then Err (Undefined ENDED) else (if end then Err (Undefined NULL_OR_END) else rest'))
same_access true ended' end rest rest' e same = rw (← e) refl
same_access false ended' true rest rest' e same = rw (← e) refl
same_access false ended' false rest rest' e same = rw (← e) (same refl refl)

-- what a place that was found tells of the two cases
pub was_reached : (ended end : Bool) (place found : ℕ) → Ok found ≡ reaching ended end (Ok place) → (ended ≡ false) × (end ≡ false) × (found ≡ place)
was_reached true end place found e = absurd (cc e)
was_reached false true place found e = absurd (cc e)
was_reached false false place found e = (refl, refl, cc e)

-- the rest of an access, where the two cases don't hold
pub past_reaching : {A : Type 0} (ended end : Bool) (rest : Result A Trap) → ended ≡ false → end ≡ false → reaching ended end rest ≡ rest
past_reaching ended end rest live inside = rw (live, inside) refl

pub flat_load-is : (most : ℕ) (spans : List Span) (cells : List Cell) (shape : List (Scalar × Guard)) (at : Pointer) (kind : Scalar)
    → HasRoom spans (length cells) → PointerIn spans at → flat_load spans cells shape at kind ≡ load_of (memory_of most spans cells shape) at kind
flat_load-is most spans cells shape at kind room h =
    same_access (ended_in spans at) (has_ended (memory_of most spans cells shape) at) (is_null_or_end at) _ _ (sym (has_ended-memory_of most spans cells shape at))
    (λ live inside. let r = reached most spans cells shape at room h live inside in
    rw (r.cell, r.own, holds_ended-memory_of most spans cells shape (cell_or cells (index_of spans at))) refl)

pub loaded_by : (P : Cell → Type 0) (ended end held same unset : Bool) (cell : Cell)
    → (ended ≡ false → end ≡ false → same ≡ true → P cell)
    → IfOk (if ended then Err (Undefined ENDED)
    else (if end then Err (Undefined NULL_OR_END)
    else (if held then Err (Undefined ENDED)
    else (if not same then Err (Left OTHER_TYPE)
    else (if unset then Err (Undefined UNSET)
    else Ok cell))))) P
loaded_by P true end held same unset cell h = tt
loaded_by P false true held same unset cell h = tt
loaded_by P false false true same unset cell h = tt
loaded_by P false false false false unset cell h = tt
loaded_by P false false false true true cell h = tt
loaded_by P false false false true false cell h = h refl refl refl

-- what is loaded is a value of the kind
pub flat_load-holds : (most live : ℕ) (spans : List Span) (cells : List Cell) (shape : List (Scalar × Guard)) (at : Pointer) (kind : Scalar)
    → IsStored most live spans cells shape → PointerIn spans at → IfOk (flat_load spans cells shape at kind) (Holds (memory_of most spans cells shape) kind)
flat_load-holds most live spans cells shape at kind s h =
    loaded_by (Holds (memory_of most spans cells shape) kind) (ended_in spans at) (is_null_or_end at) (held_ended_in spans (cell_or cells (index_of spans at)))
    (is_same (shape_or shape (index_of spans at)).0 kind) (is_unset (cell_or cells (index_of spans at))) (cell_or cells (index_of spans at))
    (λ alive inside same. let r = reached most spans cells shape at s.room h alive inside in
    holds most spans cells shape kind _ s.room
    (let P : Scalar → Type 0 = λ k. HoldsIn spans k (cell_or cells (index_of spans at)) in
    subst P (same_kinds _ _ same) (s.holds (index_of spans at) r.inside)))

-- ---- runs of cells

run-whole : {X : Type 0} (xs : List X) (first count place size : ℕ) → place + size ≤ count
    → take size (drop place (take count (drop first xs))) ≡ take size (drop (first + place) xs)
run-whole xs first count place size h =
    let rest : count ≡ place + (count - place) = omega arith in
    ap (λ n. take size (drop place (take n (drop first xs)))) rest
    ∙ ap (take size) (drop-take place (count - place) (drop first xs))
    ∙ take-take size (count - place) (drop place (drop first xs)) (omega arith)
    ∙ ap (take size) (drop-drop place first xs)

-- a whole element lies before the end
pub stride_fits : (cell high stride : ℕ) → 1 ≤ stride → cell < high → (high - cell) % stride ≡ 0 → cell + stride ≤ high
stride_fits cell high stride one below whole = by_test (nat_le (cell + stride) high) refl
  where
    by_test : (b : Bool) → nat_le (cell + stride) high ≡ b → cell + stride ≤ high
    by_test true e = leb-true (cell + stride) high e
    by_test false e =
        let short : high - cell < stride = omega (arith, leb-false (cell + stride) high e) in
        absurd (omega (arith, mod-eq_of_lt {n = high - cell} {m = stride} short))

pub record ReachedRun (most : ℕ) (spans : List Span) (cells : List Cell) (shape : List (Scalar × Guard)) (at : Pointer) (size : ℕ) : Type 0 where
  pub cells_run : cells_at (memory_of most spans cells shape) at size ≡ take size (drop (index_of spans at) cells)
  pub shape_run : shape_run_at (memory_of most spans cells shape) at size ≡ take size (drop (index_of spans at) shape)
  pub inside : index_of spans at + size ≤ length cells

pub reached_run : (most : ℕ) (spans : List Span) (cells : List Cell) (shape : List (Scalar × Guard)) (at : Pointer) (size : ℕ)
    → HasRoom spans (length cells) → PointerIn spans at → HasStride at size → ended_in spans at ≡ false → is_null_or_end at ≡ false
    → ReachedRun most spans cells shape at size
reached_run most spans cells shape Null size room h stride live inside = cc
reached_run most spans cells shape (At object cell low high stride) size room h wide live inside =
    let span = span_at spans object in
    let alive = alive_from span.alive live in
    let before : cell < high = leb-false high cell inside in
    let whole_element = stride_fits cell high stride.cells h.stride_above before h.whole_after in
    let fits = h.within alive in
    let bound = room.within object alive in
    let below : cell + size ≤ span.count = omega arith in
    let whole = whole_reached most spans cells shape object alive in
    record {
      cells_run = ap (λ x. take size (drop cell x.cells)) whole ∙ run-whole cells span.first span.count cell size below;
      shape_run = ap (λ x. take size (drop cell x.shape)) whole ∙ run-whole shape span.first span.count cell size below;
      inside = omega arith;
    }

pub flat_cells-is : (most : ℕ) (spans : List Span) (cells : List Cell) (shape : List (Scalar × Guard)) (from : Pointer) (kinds : List Scalar)
    → HasRoom spans (length cells) → PointerIn spans from → HasStride from (length kinds)
    → flat_cells spans cells shape from kinds ≡ cells_of (memory_of most spans cells shape) from kinds
flat_cells-is most spans cells shape from kinds room h stride =
    same_access (ended_in spans from) (has_ended (memory_of most spans cells shape) from) (is_null_or_end from) _ _ (sym (has_ended-memory_of most spans cells shape from))
    (λ live inside. let r = reached_run most spans cells shape from (length kinds) room h stride live inside in rw (r.cells_run, r.shape_run) refl)

pub both_true : (a b : Bool) → (a && b) ≡ true → (a ≡ true) × (b ≡ true)
both_true true b e = (refl, e)
both_true false b e = absurd (cc e)

-- the cells of a run hold values of their own kinds
all_hold : (most live : ℕ) (spans : List Span) (cells : List Cell) (shape : List (Scalar × Guard)) (kinds : List Scalar) (index : ℕ)
    → IsStored most live spans cells shape → index + length kinds ≤ length cells
    → have_kinds (take (length kinds) (drop index shape)) kinds ≡ true
    → AllHold (memory_of most spans cells shape) kinds (take (length kinds) (drop index cells))
all_hold most live spans cells shape [] index s room e = tt
all_hold most live spans cells shape (kind ∷ kinds) index s room e =
    let free : Scalar × Guard = (PointerKind 0, Free) in
    let first_cell = drop_more cells index Unset (omega arith) in
    let first_shape = drop_more shape index free (omega (arith, s.same_length)) in
    let tests = both_true _ _ (rw first_shape at e) in
    rw first_cell (
      holds most spans cells shape kind (cell_or cells index) s.room
          (let P : Scalar → Type 0 = λ k. HoldsIn spans k (cell_or cells index) in subst P (same_kinds _ _ tests.0) (s.holds index (omega arith))),
      all_hold most live spans cells shape kinds (index + 1) s (omega arith) tests.1,
    )

read_by : (P : List Cell → Type 0) (ended end same : Bool) (cells : List Cell) (result : Result (Vec Cell) Trap)
    → (ended ≡ false → end ≡ false → same ≡ true → P cells)
    → Reads (if ended then Err (Undefined ENDED)
    else (if end then Err (Undefined NULL_OR_END)
    else (if not same then Err (Left OTHER_TYPE)
    else Ok cells))) result → IfOk result (λ v. P v.items)
read_by P ended end same cells (Err e) h r = tt
read_by P true end same cells (Ok v) h r = absurd (cc r)
read_by P false true same cells (Ok v) h r = absurd (cc r)
read_by P false false false cells (Ok v) h r = absurd (cc r)
read_by P false false true cells (Ok v) h r = let e : cells ≡ v.items = cc r in subst P e (h refl refl refl)

-- the cells that are read hold values of the kinds
pub flat_cells-hold : (most live : ℕ) (spans : List Span) (cells : List Cell) (shape : List (Scalar × Guard)) (from : Pointer) (kinds : List Scalar)
    → IsStored most live spans cells shape → PointerIn spans from → HasStride from (length kinds) → (result : Result (Vec Cell) Trap)
    → Reads (flat_cells spans cells shape from kinds) result → IfOk result (λ v. AllHold (memory_of most spans cells shape) kinds v.items)
flat_cells-hold most live spans cells shape from kinds s h stride result r =
    read_by (AllHold (memory_of most spans cells shape) kinds) (ended_in spans from) (is_null_or_end from)
    (have_kinds (take (length kinds) (drop (index_of spans from) shape)) kinds) (take (length kinds) (drop (index_of spans from) cells)) result
    (λ alive inside same. all_hold most live spans cells shape kinds (index_of spans from) s
    (reached_run most spans cells shape from (length kinds) s.room h stride alive inside).inside same) r
