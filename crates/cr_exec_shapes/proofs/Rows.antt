-- The rows of a table of types: those that it doesn't have, and the first one of a compatible type.
use Rattle.std.proofs.Common.{◌≡◌, ℕ, zero, suc, ◌+◌, ◌*◌, ◌<◌, ◌≤◌, true, false, List, [], ◌∷◌, ◌++◌, length, fold, map, take, get_or, slice_get, slice_index_or, Some, inl, inr, refl, sym, ap, ◌∙◌, arith}
use Rattle.std.proofs.lemmas.Bool.{cases_lt}
use Rattle.std.proofs.Math.ListN.{get_or-append}
use Rattle.std.proofs.Math.Seq.{get_or-append_seam}
use Rattle.std.proofs.lemmas.List.{get_or_past, length-map}
use Rattle.std.specs.Prelude.{sum_by}
use Rattle.std.proofs.lemmas.List.Sums.{sum_by_more_le}
use Rattle.cr_check_types.specs.declared.shape.Shape.{Shape}
use Rattle.cr_check_types.specs.Types.{Qualified, array, unknown, with_row, types_of, type_at}
use Rattle.cr_check_types.specs.Relations.{are_compatible, IsLeastRow}
use Rattle.cr_check_types.proofs.Tables.{beyond, made_length}
use Rattle.cr_typed.specs.declared.typed.Typed.{Typed}
use Rattle.cr_typed.specs.Typed.{IsTyped, row_cells, MOST_CELLS}
use Rattle.cr_meaning_operations.specs.Shapes.{first_row, unqualified, name_in}

first_by : (xs : List Qualified) (type : Qualified) (at k : ℕ) → k < length xs → are_compatible (slice_index_or xs k unknown) type ≡ true
    → ((j : ℕ) → j < k → are_compatible (slice_index_or xs j unknown) type ≡ false) → first_row xs type at ≡ at + k
first_by [] type at k lt is before = absurd (omega (arith, lt))
first_by (x ∷ xs) type at zero lt is before = rw is (omega arith)
first_by (x ∷ xs) type at (suc k) lt is before =
    let here : are_compatible x type ≡ false = before 0 (omega arith) in
    let rest = first_by xs type (suc at) k (omega (arith, lt)) is (λ j b. before (suc j) (omega (arith, b))) in
    rw here (omega (arith, rest))

pub first_is_least : (ss : List Shape) (row least : ℕ) → row < length ss → IsLeastRow (λ r. are_compatible (type_at ss r) (type_at ss row)) row least
    → first_row (types_of ss) (type_at ss row) 0 ≡ least
unfolding type_at types_of
first_is_least ss row least lt h =
    let e = made_length ss [] in
    let w = h.within in
    first_by (fold with_row [] ss) (type_at ss row) 0 least (omega (arith, lt, w)) h.is h.first ∙ omega arith

-- the types of the rows without qualifiers
bare_at : (xs : List Qualified) (k : ℕ) → slice_index_or (map unqualified xs) k unknown ≡ unqualified (slice_index_or xs k unknown)
bare_at [] k = refl
bare_at (x ∷ xs) zero = refl
bare_at (x ∷ xs) (suc k) = bare_at xs k

pub first_alike : (ss : List Shape) (row least : ℕ) → row < length ss
    → IsLeastRow (λ r. are_compatible (unqualified (type_at ss r)) (unqualified (type_at ss row))) row least
    → first_row (map unqualified (types_of ss)) (unqualified (type_at ss row)) 0 ≡ least
unfolding type_at types_of
first_alike ss row least lt h =
    let e = made_length ss [] in
    let f = length-map (fold with_row [] ss) unqualified in
    let w = h.within in
    let own : Qualified = unqualified (slice_index_or (fold with_row [] ss) row unknown) in
    first_by (map unqualified (fold with_row [] ss)) own 0 least (omega (arith, lt, w, e, f))
    (ap (λ x. are_compatible x own) (bare_at (fold with_row [] ss) least) ∙ h.is)
    (λ j low. ap (λ x. are_compatible x own) (bare_at (fold with_row [] ss) j) ∙ h.first j low)
    ∙ omega arith

-- what names an array, by the first row that is alike
pub array_named : (t : Typed) (row least n : ℕ) (below : Qualified) → row < length t.shapes → type_at t.shapes row ≡ array n below
    → IsLeastRow (λ r. are_compatible (unqualified (type_at t.shapes r)) (unqualified (type_at t.shapes row))) row least
    → 14 + 3 * least ≡ name_in t (type_at t.shapes row)
array_named t row least n below lt is h =
    let types = map unqualified (types_of t.shapes) in
    let first = ap (λ type. first_row types (unqualified type) 0) (sym is) ∙ first_alike t.shapes row least lt h in
    ap (λ k. 14 + 3 * k) (sym first) ∙ ap (name_in t) (sym is)

-- no type is that of the first row
pub first_of_none : (ss : List Shape) → type_at ss 0 ≡ unknown → first_row (types_of ss) unknown 0 ≡ 0
unfolding type_at types_of
first_of_none ss h = by (fold with_row [] ss) h
  where
    by : (xs : List Qualified) → slice_index_or xs 0 unknown ≡ unknown → first_row xs unknown 0 ≡ 0
    by [] e = refl
    by (x ∷ xs) e = rw e refl

-- what a list has, or what stands for what it hasn't
pub or_default : {X : Type 0} (P : X → Type 0) (xs : List X) (k : ℕ) (d : X) → ((x : X) → slice_get xs k ≡ Some x → P x) → P d → P (slice_index_or xs k d)
or_default P [] k d h e = e
or_default P (x ∷ xs) zero d h e = h x refl
or_default P (x ∷ xs) (suc k) d h e = or_default P xs k d h e

pub members_sum : (t : Typed) (node : ℕ) → IsTyped t → sum_by (row_cells t) (slice_index_or t.members node []) ≤ MOST_CELLS
members_sum t node typed = or_default (λ rows. sum_by (row_cells t) rows ≤ MOST_CELLS) t.members node [] (λ rows is. typed.members_fit node rows is) (omega arith)

-- what holds of the rows that are there holds of all
pub numbers_all : (ss : List Shape) (numbers : List ℕ) → type_at ss 0 ≡ unknown → length numbers ≡ length ss
    → ((k : ℕ) → k < length ss → slice_index_or numbers k 0 ≡ first_row (types_of ss) (type_at ss k) 0)
    → (row : ℕ) → slice_index_or numbers row 0 ≡ first_row (types_of ss) (type_at ss row) 0
numbers_all ss numbers none count each row = elim (cases_lt row (length ss)) [
  | inl there ↦ each row there
  | inr past ↦
      get_or_past numbers row 0 (omega (arith, count, past))
      ∙ sym (first_of_none ss none)
      ∙ sym (ap (λ type. first_row (types_of ss) type 0) (beyond ss row past))
]

-- a list that grows at its end by what belongs to its next place
pub grown : {X : Type 0} (f : ℕ → X) (xs : List X) (n : ℕ) (d x : X) → length xs ≡ n → ((k : ℕ) → k < n → slice_index_or xs k d ≡ f k) → x ≡ f n
    → (k : ℕ) → k < n + 1 → slice_index_or (xs ++ x ∷ []) k d ≡ f k
grown f xs n d x count each is k lt = elim (cases_lt k n) [
  | inl older ↦ get_or-append xs (x ∷ []) d k (omega (arith, count, older)) ∙ each k older
  | inr newest ↦
      let here : k ≡ length xs = omega (arith, count, lt, newest) in
      let last : k ≡ n = omega (arith, lt, newest) in
      ap (λ i. slice_index_or (xs ++ x ∷ []) i d) here ∙ get_or-append_seam xs x [] d ∙ is ∙ ap f (sym last)
]

-- past its end it has nothing, where nothing is wanted
pub past_is : {X : Type 0} (f : ℕ → X) (xs : List X) (d : X) → ((k : ℕ) → k < length xs → slice_index_or xs k d ≡ f k) → ((k : ℕ) → length xs ≤ k → f k ≡ d)
    → (k : ℕ) → slice_index_or xs k d ≡ f k
past_is f xs d each past k = elim (cases_lt k (length xs)) [
  | inl there ↦ each k there
  | inr gone ↦ get_or_past xs k d gone ∙ sym (past k gone)
]

-- a sum so far and one more number are within the whole sum
pub sum_fits : (f : ℕ → ℕ) (xs : List ℕ) (i cells cell most : ℕ) → i < length xs → cells ≡ sum_by f (take i xs) → cell ≡ f (get_or xs i 0) → sum_by f xs ≤ most
    → cells + cell ≤ most
sum_fits f xs i cells cell most lt e g h = let s = sum_by_more_le f xs i 0 lt in omega (arith, s, e, g, h)
