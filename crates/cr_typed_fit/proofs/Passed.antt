-- What passes the tests fits.
use Rattle.std.proofs.Common.{◌≡◌, ℕ, zero, suc, ◌<◌, ◌≤◌, Bool, true, List, [], ◌∷◌, Some, length, slice_get, slice_index_or, inl, inr, refl, sym, ap, ◌∙◌, arith}
use Rattle.std.specs.List.{All, list_all, sum_by}
use Rattle.std.proofs.lemmas.Bool.{and_parts, cases_lt, le-leb, leb-true, lt-ltb, ltb-true}
use Rattle.std.proofs.lemmas.List.{get_or_past}
use Rattle.std.proofs.lemmas.List.Sums.{sum_by-cons}
use Rattle.cr_syntax.specs.declared.ctype.CType.TheVariants.{Void, Int, Pointer, Array, Struct, Function, Unknown}
use Rattle.cr_check_types.specs.Types.{Qualified, plain, pointer, array, type_at}
use Rattle.cr_check_types.specs.Layouts.{layout_of}
use Rattle.cr_typed.specs.declared.typed.Typed.{Typed}
use Rattle.cr_typed.specs.Typed.{IsBefore, row_cells, MOST_CELLS}
use Rattle.cr_typed_fit.specs.declared.extents.Extent.{Extent}
use Rattle.cr_typed_fit.specs.Fits.{HasRoom, IsFitting, AreExtents, AreSuited, is_small, is_before, structure_within, extent_of, no_extent, cells_in}
use Rattle.cr_check_types.proofs.Tables.{beyond}

-- ---- tests of all items

pub at_all : {X : Type 0} (p : X → Bool) (xs : List X) (k : ℕ) (x : X) → list_all p xs ≡ true → slice_get xs k ≡ Some x → p x ≡ true
at_all p [] k x h e = absurd (cc e)
at_all p (y ∷ ys) zero x h e = let is : y ≡ x = cc e in ap p (sym is) ∙ (and_parts (p y) (list_all p ys) h).0
at_all p (y ∷ ys) (suc k) x h e = at_all p ys k x (and_parts (p y) (list_all p ys) h).1 e

pub all_from : {X : Type 0} (p : X → Bool) (xs : List X) (d : X) → ((k : ℕ) → k < length xs → p (slice_index_or xs k d) ≡ true) → list_all p xs ≡ true
all_from p [] d h = refl
all_from p (x ∷ xs) d h =
    let first : p x ≡ true = h zero (omega arith) in
    let rest = all_from p xs d (λ k lt. h (suc k) (omega (arith, lt))) in
    rw first rest

-- ---- cells and structures

read : {X : Type 0} (xs : List X) (k : ℕ) (d : X) → k < length xs → slice_get xs k ≡ Some (slice_index_or xs k d)
read [] k d h = absurd (omega (arith, h))
read (x ∷ xs) zero d h = refl
read (x ∷ xs) (suc k) d h = read xs k d (omega (arith, h))

-- what any row takes, one that isn't there too
taken : (t : Typed) (extents : List Extent) → AreExtents t.shapes t.layouts (length t.shapes) extents → (row : ℕ)
    → slice_index_or extents row no_extent ≡ extent_of t.layouts (type_at t.shapes row)
taken t extents made row = elim (cases_lt row (length t.shapes)) [
  | inl there ↦ made.each row there
  | inr gone ↦
      (let count = made.count in get_or_past extents row no_extent (omega (arith, count, gone)) ∙ sym (ap (extent_of t.layouts) (beyond t.shapes row gone)))
]

small_row : (t : Typed) (extents : List Extent) → AreExtents t.shapes t.layouts (length t.shapes) extents → list_all is_small extents ≡ true
    → (row : ℕ) → row < length t.shapes → row_cells t row ≤ MOST_CELLS
small_row t extents made small row lt =
    let count = made.count in
    let own = slice_index_or extents row no_extent in
    let e = leb-true own.cells MOST_CELLS (at_all is_small extents row own small (read extents row no_extent (omega (arith, count, lt)))) in
    let is : (slice_index_or extents row no_extent).cells ≡ row_cells t row = ap (λ x. x.cells) (made.each row lt) in
    omega (arith, e, is)

small : (t : Typed) (extents : List Extent) → AreExtents t.shapes t.layouts (length t.shapes) extents → list_all is_small extents ≡ true
    → (row : ℕ) → row_cells t row ≤ MOST_CELLS
small t extents made tests row = elim (cases_lt row (length t.shapes)) [
  | inl there ↦ small_row t extents made tests row there
  | inr gone ↦
      let e : row_cells t row ≡ 0 = ap (λ type. (layout_of t.layouts type).cells) (beyond t.shapes row gone) in omega (arith, e)
]

sum_is : (t : Typed) (extents : List Extent) → AreExtents t.shapes t.layouts (length t.shapes) extents → (rows : List ℕ)
    → sum_by (cells_in extents) rows ≡ sum_by (row_cells t) rows
sum_is t extents made [] = refl
sum_is t extents made (row ∷ rows) =
    let here : cells_in extents row ≡ row_cells t row = ap (λ x. x.cells) (taken t extents made row) in
    let rest = sum_is t extents made rows in
    let one = sum_by-cons (cells_in extents) row rows in
    let other = sum_by-cons (row_cells t) row rows in
    omega (arith, here, rest, one, other)

before_by : (node : ℕ) (type : Qualified) → is_before node (structure_within type) ≡ true → IsBefore node type
before_by node (plain (Struct inner) c v) h = ltb-true inner node h
before_by node (plain Void c v) h = tt
before_by node (plain (Int kind) c v) h = tt
before_by node (plain (Pointer row) c v) h = tt
before_by node (plain (Array row n) c v) h = tt
before_by node (plain (Function function) c v) h = tt
before_by node (plain Unknown c v) h = tt
before_by node (pointer c v type) h = tt
before_by node (array n type) h = before_by node type h

before_is : (t : Typed) (extents : List Extent) → AreExtents t.shapes t.layouts (length t.shapes) extents → (node : ℕ) (rows : List ℕ)
    → list_all (λ row. is_before node (slice_index_or extents row no_extent).structure) rows ≡ true
    → All (λ row. IsBefore node (type_at t.shapes row)) rows
before_is t extents made node rows h = λ k d lt.
    let row = slice_index_or rows k d in
    before_by node (type_at t.shapes row)
    (ap (λ x. is_before node x.structure) (sym (taken t extents made row))
    ∙ at_all (λ own. is_before node (slice_index_or extents own no_extent).structure) rows k row h (read rows k d lt))

pub all_fit : (t : Typed) (extents : List Extent) → AreExtents t.shapes t.layouts (length t.shapes) extents → HasRoom t extents → IsFitting t
all_fit t extents made room = record {
  cells_fit = small t extents made room.small;
  members_fit = λ k rows e. let few = (room.members k rows e).few in let is = sum_is t extents made rows in omega (arith, few, is);
  members_before = λ k rows e. before_is t extents made k rows (room.members k rows e).before;
}

-- ---- and what fits passes

all_small : (t : Typed) (extents : List Extent) → AreExtents t.shapes t.layouts (length t.shapes) extents → IsFitting t → list_all is_small extents ≡ true
all_small t extents made fit = all_from is_small extents no_extent (λ row lt.
    let own = slice_index_or extents row no_extent in
    let count = made.count in
    let is : (slice_index_or extents row no_extent).cells ≡ row_cells t row = ap (λ x. x.cells) (made.each row (omega (arith, count, lt))) in
    let fits = fit.cells_fit row in
    le-leb own.cells MOST_CELLS (omega (arith, is, fits)))

behind : (node : ℕ) (type : Qualified) → IsBefore node type → is_before node (structure_within type) ≡ true
behind node (plain (Struct inner) c v) h = lt-ltb inner node h
behind node (plain Void c v) h = refl
behind node (plain (Int kind) c v) h = refl
behind node (plain (Pointer row) c v) h = refl
behind node (plain (Array row n) c v) h = refl
behind node (plain (Function function) c v) h = refl
behind node (plain Unknown c v) h = refl
behind node (pointer c v type) h = refl
behind node (array n type) h = behind node type h

are_suited : (t : Typed) (extents : List Extent) → AreExtents t.shapes t.layouts (length t.shapes) extents → IsFitting t → (node : ℕ) (rows : List ℕ)
    → slice_get t.members node ≡ Some rows → AreSuited extents node rows
are_suited t extents made fit node rows e = record {
  few = let few = fit.members_fit node rows e in let is = sum_is t extents made rows in omega (arith, few, is);
  before = all_from (λ row. is_before node (slice_index_or extents row no_extent).structure) rows 0 (λ k lt.
      let row = slice_index_or rows k 0 in
      ap (λ x. is_before node x.structure) (taken t extents made row) ∙ behind node (type_at t.shapes row) (fit.members_before node rows e k 0 lt));
}

pub all_pass : (t : Typed) (extents : List Extent) → AreExtents t.shapes t.layouts (length t.shapes) extents → IsFitting t → HasRoom t extents
all_pass t extents made fit = record { small = all_small t extents made fit; members = are_suited t extents made fit }
