-- Lemmas on cells in order, and on lists of them that rise.
use Rattle.std.proofs.Common.{◌≡◌, ℕ, zero, suc, ◌+◌, ◌<◌, ◌≤◌, Bool, true, false, ◌&&◌, ◌||◌, cond, List, [], ◌∷◌, ◌++◌, length, get_or, take, drop, refl, sym, ◌∙◌, ap, subst, arith, nat_eq, ◌⊎◌, inl, inr}
use Rattle.std.specs.Prelude.{Option, Some, None, find, Result, Ok, Err, is_ok, OnOk, OnErr}
use Rattle.std.specs.declared.cmp.Ordering.{Ordering}
use Rattle.std.specs.declared.cmp.Ordering.TheVariants.{Less, Equal, Greater}
use Rattle.std.specs.Ordering.{ordering_index, ordering_reverse, is_gt, is_lt, is_eq, ord_min}
use Rattle.std.specs.Cmp.{IsTotalOrder, then_total, on_total, tied_itself}
use Rattle.std.proofs.lemmas.Cmp.{nat_cmp_total}
use Rattle.std.specs.List.{insert, AllWithin, HoldsAt}
use Rattle.std.specs.List.Sorted.{IsSearchInRange, IsBinarySearchResult}
use Rattle.std.proofs.lemmas.Bool.{eqb-true, eq-eqb, or_cases, or_left, or_right, and_parts, true≢false}
use Rattle.std.proofs.lemmas.Bool.Decides.{nat_tests}
use Rattle.std.proofs.Math.Seq.{drop-length, take-length}
use Rattle.std.proofs.lemmas.List.{take-append-drop}
use Rattle.std.proofs.lemmas.List.Folds.{list_any-append, list_any_at, list_any_none}
use Rattle.std.specs.List.Sorted.{IsNonDecreasingBy}
use Rattle.cr_footprint.specs.Cell.{Cell, cell_cmp, same_cell, span, holds, IsRising, IsLeast, IsLeastOf, Spans}

pub cell_total : IsTotalOrder cell_cmp
cell_total = then_total (on_total (λ (c : Cell). c.0) nat_cmp_total) (on_total (λ (c : Cell). c.1) nat_cmp_total)

-- the test of equality and the order agree
pub same_cell-cell_cmp : (c d : Cell) → same_cell c d ≡ is_eq (cell_cmp d c)
same_cell-cell_cmp c d = grind (arith, nat_tests)

pub same_cell-equal : (c d : Cell) → same_cell c d ≡ true → c ≡ d
same_cell-equal c d same =
    let parts : (nat_eq c.0 d.0 ≡ true) × (nat_eq c.1 d.1 ≡ true) = and_parts (nat_eq c.0 d.0) (nat_eq c.1 d.1) same in
    let object : c.0 ≡ d.0 = eqb-true c.0 d.0 parts.0 in
    let cell : c.1 ≡ d.1 = eqb-true c.1 d.1 parts.1 in
    λ i. (object i, cell i)

-- what is above stands no lower against any cell
pub above_below : (a b c : Cell) → cell_cmp a b ≡ Less → cell_cmp b c ≡ Less → cell_cmp a c ≡ Less
above_below a b c = cell_total.trans a b c

above_same : (a b c : Cell) → cell_cmp a b ≡ Less → cell_cmp b c ≡ Equal → cell_cmp a c ≡ Less
above_same a b c low same =
    cell_total.antisymm a c ∙ ap ordering_reverse (sym (cell_total.congr b c a same) ∙ cell_total.antisymm b a ∙ ap ordering_reverse low)

index_within : (x y : Ordering) → (y ≡ Less → x ≡ Less) → (y ≡ Equal → x ≡ Less) → ordering_index x ≤ ordering_index y
index_within x Less below same = rw (below refl) (omega arith)
index_within x Equal below same = rw (same refl) (omega arith)
index_within Less Greater below same = omega arith
index_within Equal Greater below same = omega arith
index_within Greater Greater below same = omega arith

pub index_rises : (a b c : Cell) → cell_cmp a b ≡ Less → ordering_index (cell_cmp a c) ≤ ordering_index (cell_cmp b c)
index_rises a b c low =
    index_within (cell_cmp a c) (cell_cmp b c) (above_below a b c low) (above_same a b c low)

pub flipped : (a b : Cell) → cell_cmp a b ≡ Greater → cell_cmp b a ≡ Less
flipped a b high = cell_total.antisymm b a ∙ ap ordering_reverse high

-- what a search finds, or doesn't find, is in the list, or not
pub holds-found : (cells : List Cell) (c : Cell) (i : ℕ) → i < length cells → HoldsAt (λ d. cell_cmp d c ≡ Equal) cells i → holds cells c ≡ true
holds-found cells c i within equal =
    list_any_at (same_cell c) cells i c within (same_cell-cell_cmp c (get_or cells i c) ∙ ap is_eq (equal c))

differ : (c d : Cell) → (cell_cmp d c ≡ Less) ⊎ (cell_cmp d c ≡ Greater) → same_cell c d ≡ false
differ c d (inl low) = same_cell-cell_cmp c d ∙ ap is_eq low
differ c d (inr high) = same_cell-cell_cmp c d ∙ ap is_eq high

pub holds-absent : (cells : List Cell) (c : Cell) (i : ℕ) → AllWithin (λ d. cell_cmp d c ≡ Less) cells 0 i → AllWithin (λ d. cell_cmp d c ≡ Greater) cells i (length cells) → holds cells c ≡ false
holds-absent cells c i below above =
    list_any_none (same_cell c) cells
    (λ k d within. differ c (get_or cells k d) (elim (side k i) [ inl low ↦ inl (below k d (omega arith) low) | inr high ↦ inr (above k d high within) ]))
  where
    side : (k i : ℕ) → (k < i) ⊎ (i ≤ k)
    side k i = grind arith

-- a cell put in its place
pub holds-insert : (cells : List Cell) (i : ℕ) (cell c : Cell) → holds (insert cells i cell) c ≡ (holds cells c || same_cell c cell)
holds-insert cells i cell c =
    list_any-append (same_cell c) (take i cells) (cell ∷ drop i cells)
    ∙ middle (holds (take i cells) c) (same_cell c cell) (holds (drop i cells) c)
    ∙ ap (λ b. b || same_cell c cell) (sym (list_any-append (same_cell c) (take i cells) (drop i cells)) ∙ ap (λ l. holds l c) (take-append-drop i cells))
  where
    middle : (x y z : Bool) → (x || (y || z)) ≡ ((x || z) || y)
    middle true y z = refl
    middle false true true = refl
    middle false true false = refl
    middle false false true = refl
    middle false false false = refl

same_cell-itself : (c : Cell) → same_cell c c ≡ true
same_cell-itself c = same_cell-cell_cmp c c ∙ ap is_eq (tied_itself cell_total c)

-- where a cell of the list stands
place_of : (cells : List Cell) (c : Cell) → holds cells c ≡ true → (k : ℕ) × (k < length cells) × ((d : Cell) → get_or cells k d ≡ c)
place_of [] c there = cc
place_of (cell ∷ cells) c there =
    elim (or_cases (same_cell c cell) (holds cells c) there) [
      | inl here ↦ (0, omega arith, λ d. sym (same_cell-equal c cell here))
      | inr later ↦ (let (k, within, same) = place_of cells c later in (suc k, omega arith, same))
    ]

-- a cell below all of a rising list, put before it, and the other way round
abbrev pub AllAbove : Cell → List Cell → Type 0
AllAbove cell cells = (d : Cell) → holds cells d ≡ true → cell_cmp cell d ≡ Less

pub IsRising-head : (cell : Cell) (cells : List Cell) → IsRising (cell ∷ cells) → AllAbove cell cells
IsRising-head cell cells rising d there =
    let (k, within, same) = place_of cells d there in
    let P : Cell → Type 0 = λ x. cell_cmp cell x ≡ Less in
    subst P (same d) (rising 0 (suc k) d (omega arith) (omega arith))

pub IsRising-tail : (cell : Cell) (cells : List Cell) → IsRising (cell ∷ cells) → IsRising cells
IsRising-tail cell cells rising i j d below within = rising (suc i) (suc j) d (omega arith) (omega arith)

held : (cells : List Cell) (k : ℕ) (d : Cell) → k < length cells → holds cells (get_or cells k d) ≡ true
held cells k d within = list_any_at (same_cell (get_or cells k d)) cells k d within (same_cell-itself (get_or cells k d))

pub IsRising-cons : (cell : Cell) (cells : List Cell) → AllAbove cell cells → IsRising cells → IsRising (cell ∷ cells)
IsRising-cons cell cells above rising zero zero d below within = absurd (omega arith)
IsRising-cons cell cells above rising zero (suc j) d below within = above (get_or cells j d) (held cells j d (omega arith))
IsRising-cons cell cells above rising (suc i) zero d below within = absurd (omega arith)
IsRising-cons cell cells above rising (suc i) (suc j) d below within = rising i j d (omega arith) (omega arith)

-- such a list can be searched
pub searchable : (cells : List Cell) → IsRising cells → (c : Cell) → IsNonDecreasingBy (λ d. ordering_index (cell_cmp d c)) cells
searchable cells rising c i j d below within =
    elim (order i j below) [
      | inl same ↦ (let P : ℕ → Type 0 = λ k. ordering_index (cell_cmp (get_or cells i d) c) ≤ ordering_index (cell_cmp (get_or cells k d) c) in subst P same (omega arith))
      | inr low ↦ index_rises (get_or cells i d) (get_or cells j d) c (rising i j d low within)
    ]
  where
    order : (i j : ℕ) → i ≤ j → (i ≡ j) ⊎ (i < j)
    order i j h = grind arith

pub IsRising-insert : (cells : List Cell) (i : ℕ) (cell : Cell) → IsRising cells → i ≤ length cells → AllWithin (λ d. cell_cmp d cell ≡ Less) cells 0 i → AllWithin (λ d. cell_cmp d cell ≡ Greater) cells i (length cells) → IsRising (insert cells i cell)
IsRising-insert cells zero cell rising within below above =
    IsRising-cons cell cells
    (λ d there. (let (k, short, same) = place_of cells d there in
    let P : Cell → Type 0 = λ x. cell_cmp cell x ≡ Less in
    subst P (same d) (flipped (get_or cells k d) cell (above k d (omega arith) short))))
    rising
IsRising-insert [] (suc i) cell rising within below above = absurd (omega arith)
IsRising-insert (x ∷ cells) (suc i) cell rising within below above =
    IsRising-cons x (insert cells i cell)
    (λ d there. elim (or_cases (holds cells d) (same_cell d cell) (sym (holds-insert cells i cell d) ∙ there)) [
      | inl old ↦ IsRising-head x cells rising d old
      | inr new ↦ (let P : Cell → Type 0 = λ y. cell_cmp x y ≡ Less in subst P (sym (same_cell-equal d cell new)) (below 0 x (omega arith) (omega arith)))
    ])
    (IsRising-insert cells i cell (IsRising-tail x cells rising) (omega arith) (λ k d low short. below (suc k) d (omega arith) (omega arith)) (λ k d low short. above (suc k) d (omega arith) (omega arith)))

-- what a binary search answers of a rising list
pub held_where_found : (cells : List Cell) (c : Cell) (r : Result ℕ ℕ) → IsRising cells → IsSearchInRange r (length cells) → IsBinarySearchResult (λ d. cell_cmp d c) cells r → is_ok r ≡ holds cells c
held_where_found cells c (Ok i) rising within position = sym (holds-found cells c i within position)
held_where_found cells c (Err i) rising within position =
    let parts : AllWithin (λ d. cell_cmp d c ≡ Less) cells 0 i × AllWithin (λ d. cell_cmp d c ≡ Greater) cells i (length cells) = position (searchable cells rising c) in
    sym (holds-absent cells c i parts.0 parts.1)

-- a set with one more cell that it has
pub holds-again : (cells : List Cell) (cell c : Cell) → holds cells cell ≡ true → holds cells c ≡ (holds cells c || same_cell c cell)
holds-again cells cell c there = joined (holds cells c) (same_cell c cell) (λ same. ap (holds cells) (same_cell-equal c cell same) ∙ there)
  where
    joined : (x y : Bool) → (y ≡ true → x ≡ true) → x ≡ (x || y)
    joined true y h = refl
    joined false true h = h refl
    joined false false h = refl

-- the least cell of a rising list that passes a test is the first that does
below_not_above : (a b : Cell) → is_lt (cell_cmp a b) ≡ true → is_gt (cell_cmp a b) ≡ false
below_not_above a b low = grind (arith, nat_tests)

head_least : (cell : Cell) (cells : List Cell) (d : Cell) → IsRising (cell ∷ cells) → holds (cell ∷ cells) d ≡ true → is_gt (cell_cmp cell d) ≡ false
head_least cell cells d rising there =
    elim (or_cases (same_cell d cell) (holds cells d) there) [
      | inl here ↦ (let P : Cell → Type 0 = λ x. is_gt (cell_cmp cell x) ≡ false in subst P (sym (same_cell-equal d cell here)) (ap is_gt (tied_itself cell_total cell)))
      | inr later ↦ below_not_above cell d (ap is_lt (IsRising-head cell cells rising d later))
    ]

-- a set that has the same cells has the same least one
pub IsLeastOf-same : (p q : Cell → Bool) (r : Option Cell) → ((c : Cell) → p c ≡ q c) → IsLeastOf p r → IsLeastOf q r
IsLeastOf-same p q None same none = λ c. sym (same c) ∙ none c
IsLeastOf-same p q (Some cell) same least = record {
  inside = sym (same cell) ∙ least.inside;
  least = λ d there. least.least d (same d ∙ there);
}

skipped : (p : Cell → Bool) (cell : Cell) (cells : List Cell) → p cell ≡ false → (c : Cell) → (holds cells c && p c) ≡ (holds (cell ∷ cells) c && p c)
skipped p cell cells fails c =
    alike (same_cell c cell) (holds cells c) (p c) (λ same. ap p (same_cell-equal c cell same) ∙ fails)
  where
    alike : (x y z : Bool) → (x ≡ true → z ≡ false) → (y && z) ≡ ((x || y) && z)
    alike false y z h = refl
    alike true true z h = refl
    alike true false z h = sym (h refl)

first_or_later : (p : Cell → Bool) (cell : Cell) (cells : List Cell) → IsRising (cell ∷ cells) → IsLeastOf (λ c. holds cells c && p c) (find p cells) → (b : Bool) → p cell ≡ b → IsLeastOf (λ c. holds (cell ∷ cells) c && p c) (cond b (Some cell) (find p cells))
first_or_later p cell cells rising later true passes = record {
  inside = rw (same_cell-itself cell, passes) refl;
  least = λ d there. head_least cell cells d rising (and_parts (holds (cell ∷ cells) d) (p d) there).0;
}
first_or_later p cell cells rising later false fails =
    IsLeastOf-same (λ c. holds cells c && p c) (λ c. holds (cell ∷ cells) c && p c) (find p cells) (skipped p cell cells fails) later

pub find-least : (p : Cell → Bool) (cells : List Cell) → IsRising cells → IsLeastOf (λ c. holds cells c && p c) (find p cells)
find-least p [] rising = λ c. refl
find-least p (cell ∷ cells) rising =
    first_or_later p cell cells rising (find-least p cells (IsRising-tail cell cells rising)) (p cell) refl

pub and-swap : (x y : Bool) → (x && y) ≡ (y && x)
and-swap true true = refl
and-swap true false = refl
and-swap false true = refl
and-swap false false = refl

-- an insert that may have failed
pub IsRising-kept : {A E : Type 0} (before now : List Cell) (i : ℕ) (cell : Cell) (r : Result A E) → OnOk r (now ≡ insert before i cell) → OnErr r (now ≡ before)
    → IsRising (insert before i cell) → IsRising before → IsRising now
IsRising-kept before now i cell (Ok _) ok err first second = (let P : List Cell → Type 0 = IsRising in subst P (sym ok) first)
IsRising-kept before now i cell (Err _) ok err first second = (let P : List Cell → Type 0 = IsRising in subst P (sym err) second)

-- what a search of a rising list says of the place where it found nothing
pub IsRising-searched : (cells given : List Cell) (cell : Cell) (i : ℕ) → given ≡ cells → IsRising cells → i ≤ length given → IsBinarySearchResult {X = Cell} (λ d. cell_cmp d cell) given (Err i) → IsRising (insert cells i cell)
IsRising-searched cells given cell i same rising within position =
    let P : List Cell → Type 0 = λ l. i ≤ length l in
    let Q : List Cell → Type 0 = λ l. IsBinarySearchResult (λ d. cell_cmp d cell) l (Err i) in
    let parts : AllWithin (λ d. cell_cmp d cell ≡ Less) cells 0 i × AllWithin (λ d. cell_cmp d cell ≡ Greater) cells i (length cells) = subst Q same position (searchable cells rising cell) in
    IsRising-insert cells i cell rising (subst P same within) parts.0 parts.1

-- the lesser of the least cells of two sets is the least of both
not_above_trans : (a b c : Cell) → is_gt (cell_cmp a b) ≡ false → is_gt (cell_cmp b c) ≡ false → is_gt (cell_cmp a c) ≡ false
not_above_trans a b c low high = grind (arith, nat_tests)

not_below_above : (a b : Cell) → is_lt (cell_cmp b a) ≡ false → is_gt (cell_cmp a b) ≡ false
not_below_above a b high = grind (arith, nat_tests)

either_least : (p q : Cell → Bool) (a b : Cell) → IsLeast p a → IsLeast q b → (low : Bool) → is_lt (cell_cmp b a) ≡ low → IsLeast (λ c. p c || q c) (cond low b a)
either_least p q a b first second true low = record {
  inside = or_right (p b) (q b) second.inside;
  least = λ d there. elim (or_cases (p d) (q d) there) [
    | inl here ↦ not_above_trans b a d (below_not_above b a low) (first.least d here)
    | inr here ↦ second.least d here
  ];
}
either_least p q a b first second false high = record {
  inside = or_left (p a) (q a) first.inside;
  least = λ d there. elim (or_cases (p d) (q d) there) [
    | inl here ↦ first.least d here
    | inr here ↦ not_above_trans a b d (not_below_above a b high) (second.least d here)
  ];
}

pub least-lesser : (p q : Cell → Bool) (first second : Option Cell) (a b lesser : Cell) → first ≡ Some a → second ≡ Some b → lesser ≡ ord_min cell_cmp a b → IsLeastOf p first → IsLeastOf q second → IsLeast (λ c. p c || q c) lesser
least-lesser p q first second a b lesser is_a is_b is_min at_first at_second =
    let P : Option Cell → Type 0 = IsLeastOf p in
    let Q : Option Cell → Type 0 = IsLeastOf q in
    let R : Cell → Type 0 = IsLeast (λ c. p c || q c) in
    subst R (sym is_min) (either_least p q a b (subst P is_a at_first) (subst Q is_b at_second) (is_lt (cell_cmp b a)) refl)

-- the cells that two evaluations share in an event of each, and a write or touch of one, kind by kind
pub written : (w r v : Bool) → (w && r || w && v) ≡ (w && (r || v))
written true r v = refl
written false r v = refl

pub met : (r w s v : Bool) → ((w && (s || v)) || r && v) ≡ ((w && (s || v)) || (v && (r || w)))
met true true s true = refl
met true true true false = refl
met true true false false = refl
met true false s true = refl
met true false s false = refl
met false true true v = refl
met false true false true = refl
met false true false false = refl
met false false s true = refl
met false false s false = refl

-- a range of cells that goes one further
pub span-more : (object first at : ℕ) (c : Cell) → first ≤ at → (span object first at c || same_cell c (object, at)) ≡ span object first (at + 1) c
span-more object first at c low = grind (arith, nat_tests)

pub IsRising-one : (cell : Cell) → IsRising (cell ∷ [])
IsRising-one cell = IsRising-cons cell [] (λ d (there : false ≡ true). cc there) (λ i j d below within. absurd (omega arith))

-- a cell put behind all
pub insert-last : (cells : List Cell) (cell : Cell) → insert cells (length cells) cell ≡ cells ++ cell ∷ []
insert-last cells cell = rw (take-length cells) (rw (drop-length cells) refl)

-- the cells of a range, and the next one behind them
below_end : (object first at : ℕ) (c : Cell) → span object first at c ≡ true → cell_cmp c (object, at) ≡ Less
below_end object first at c there = grind (arith, nat_tests)

pub Spans-more : (object first at : ℕ) (cells : List Cell) → first ≤ at → Spans object first at cells → Spans object first (at + 1) (cells ++ (object, at) ∷ [])
Spans-more object first at cells low (rising, same) =
    let cell : Cell = (object, at) in
    let P : List Cell → Type 0 = IsRising in (
      subst P (insert-last cells cell) (IsRising-insert cells (length cells) cell rising (omega arith)
          (λ k d from within. below_end object first at (get_or cells k d) (sym (same (get_or cells k d)) ∙ held cells k d within))
          (λ k d from within. absurd (omega arith))),
      λ c. ap (λ l. holds l c) (sym (insert-last cells cell))
          ∙ holds-insert cells (length cells) cell c
          ∙ ap (λ b. b || same_cell c cell) (same c)
          ∙ span-more object first at c low,
    )

-- the list without cells holds none
pub holds_none : (cells : List Cell) → length cells ≡ 0 → (c : Cell) → holds cells c ≡ false
holds_none [] e c = refl
holds_none (x ∷ xs) e c = absurd (omega (arith, e))

-- a list that holds no cell has none
pub none_held : (cells : List Cell) → ((c : Cell) → holds cells c ≡ false) → length cells ≡ 0
none_held [] h = refl
none_held (x ∷ xs) h = absurd (true≢false (rw (eq-eqb x.0 x.0 refl, eq-eqb x.1 x.1 refl) at (h x)))
