-- The cells of a member are among those of its structure, by their kinds (C11 6.2.5p20, 6.7.2.1p15).
use Rattle.std.proofs.Common.{◌≡◌, ℕ, zero, suc, ◌+◌, ◌*◌, ◌<◌, ◌≤◌, Bool, false, ◌||◌, List, [], ◌∷◌, ◌++◌, Option, None, Some, drop, length, map, take, sum_by, refl, sym, ap, ◌∙◌, slice_get, slice_index_or, arith}
use Rattle.std.specs.List.{All, flat_map}
use Rattle.std.proofs.lemmas.List.{length-append, length-map, map-append}
use Rattle.std.proofs.lemmas.List.Sums.{sum_by-cons}
use Rattle.std.proofs.lemmas.List.Elements.{All-head, All-tail}
use Rattle.std.proofs.lemmas.Option.{slice_get_within, slice_get-get_or}
use Rattle.cr_memory.specs.declared.value.Scalar.{Scalar}
use Rattle.cr_memory.specs.declared.value.Guard.{Guard}
use Rattle.cr_syntax.specs.declared.ctype.CType.TheVariants.{Int, Struct}
use Rattle.cr_syntax.specs.declared.node.Kind.TheVariants as kind
use Rattle.cr_syntax.specs.declared.node.Node.{Node}
use Rattle.cr_scopes_events.specs.Scripts as scripts
use Rattle.cr_check_types.specs.Types.{Qualified, plain, pointer as to, array, type_at}
use Rattle.cr_check_types.specs.Layouts.{count_of, element_of, single_of, nothing}
use Rattle.cr_typed.specs.declared.typed.Typed.{Typed}
use Rattle.cr_typed.specs.Typed.{IsBefore, MOST_CELLS, row_cells}
use Rattle.cr_meaning.specs.Values.{kinds_in}
use Rattle.cr_meaning.specs.declared.run.Limits.{Limits}
use Rattle.cr_meaning_operations.specs.Shapes.{cells_of, cells_with, structure_cells, shape_of, repeated, form_by, form_of, offset_in}
use Rattle.cr_meaning_operations.specs.Operations.{kind_if, kind_at, chosen_row, program_of}
use Rattle.cr_meaning_declarations.specs.Declared.Files.{IsUnitOfFile}
use Rattle.cr_meaning_files.specs.Structures.{IsWhole, AreMembersWhole}
use Rattle.cr_meaning_files.proofs.Cells.{elements, elements_few, Structured, all_structured, before_structured}
use Rattle.cr_meaning_files.proofs.Members.{IsChosen}
use Rattle.cr_meaning_files.proofs.Made.{content_at, rows_at, sum_is}

-- ---- lists

pub map_flat_map : {X A B : Type 0} (h : A → B) (f : X → List A) (xs : List X) → map h (flat_map f xs) ≡ flat_map (λ x. map h (f x)) xs
map_flat_map h f [] = refl
map_flat_map h f (x ∷ xs) = map-append h (f x) (flat_map f xs) ∙ ap (λ r. map h (f x) ++ r) (map_flat_map h f xs)

flat_map_same : {X A : Type 0} (f g : X → List A) (xs : List X) → All (λ x. f x ≡ g x) xs → flat_map f xs ≡ flat_map g xs
flat_map_same f g [] h = refl
flat_map_same f g (x ∷ xs) h =
    ap (λ a. a ++ flat_map f xs) (All-head (λ x. f x ≡ g x) x xs h)
    ∙ ap (λ b. g x ++ b) (flat_map_same f g xs (All-tail (λ x. f x ≡ g x) x xs h))

pub map_repeated : {X A : Type 0} (f : X → A) (n : ℕ) (xs : List X) → map f (repeated n xs) ≡ repeated n (map f xs)
map_repeated f zero xs = refl
map_repeated f (suc n) xs = map-append f xs (repeated n xs) ∙ ap (λ r. map f xs ++ r) (map_repeated f n xs)

length_repeated : {X : Type 0} (n : ℕ) (xs : List X) → length (repeated n xs) ≡ n * length xs
length_repeated zero xs = omega arith
length_repeated (suc n) xs = let rest = length_repeated n xs in let all = length-append xs (repeated n xs) in omega (arith, rest, all)

take_first : {X : Type 0} (xs ys : List X) (n : ℕ) → length xs ≡ n → take n (xs ++ ys) ≡ xs
take_first [] ys zero e = refl
take_first [] ys (suc n) e = absurd (omega (arith, e))
take_first (x ∷ xs) ys zero e = absurd (omega (arith, e))
take_first (x ∷ xs) ys (suc n) e = ap (λ r. x ∷ r) (take_first xs ys n (omega (arith, e)))

drop_first : {X : Type 0} (xs ys : List X) (n m : ℕ) → n ≡ length xs + m → drop n (xs ++ ys) ≡ drop m ys
drop_first [] ys n m e = let same : n ≡ m = omega (arith, e) in ap (λ k. drop k ys) same
drop_first (x ∷ xs) ys zero m e = absurd (omega (arith, e))
drop_first (x ∷ xs) ys (suc n) m e = drop_first xs ys n m (omega (arith, e))

-- one of many parts, behind those before it
one_of : {X : Type 0} (g : ℕ → List X) (f : ℕ → ℕ) (rows : List ℕ) (k : ℕ) → k < length rows → All (λ row. length (g row) ≡ f row) rows
    → take (f (slice_index_or rows k 0)) (drop (sum_by f (take k rows)) (flat_map g rows)) ≡ g (slice_index_or rows k 0)
one_of g f [] k low same = absurd (omega (arith, low))
one_of g f (row ∷ rows) zero low same = take_first (g row) (flat_map g rows) (f row) (All-head (λ row. length (g row) ≡ f row) row rows same)
one_of g f (row ∷ rows) (suc k) low same =
    let head = All-head (λ row. length (g row) ≡ f row) row rows same in
    let sum = sum_by-cons f row (take k rows) in
    ap (take (f (slice_index_or rows k 0))) (drop_first (g row) (flat_map g rows) (sum_by f (row ∷ take k rows)) (sum_by f (take k rows)) (omega (arith, sum, head)))
    ∙ one_of g f rows k (omega (arith, low)) (All-tail (λ row. length (g row) ≡ f row) row rows same)

-- ---- the kinds of cells

-- they are the same whether an object is constant
abbrev pub kinds_of : List (Scalar × Guard) → List Scalar
kinds_of cells = map (λ own. own.0) cells

same_kinds : (f g : Bool → ℕ → List (Scalar × Guard)) (t : Typed) (node : ℕ) → ((c d : Bool) (j : ℕ) → j < node → kinds_of (f c j) ≡ kinds_of (g d j))
    → (c d : Bool) (type : Qualified) → IsBefore node type → kinds_of (cells_with f t c type) ≡ kinds_of (cells_with g t d type)
same_kinds f g t node h c d (plain (Int k) e v) b = refl
same_kinds f g t node h c d (plain (Struct inner) e v) b = h (c || e) (d || e) inner b
same_kinds f g t node h c d (to e v below) b = refl
same_kinds f g t node h c d (array n below) b =
    map_repeated (λ own. own.0) n (cells_with f t c below) ∙ ap (repeated n) (same_kinds f g t node h c d below b) ∙ sym (map_repeated (λ own. own.0) n (cells_with g t d below))
same_kinds f g t node h c d (plain of e v) b = refl

-- ---- of types of objects they are as many as their layouts say

abbrev IsCounted : Typed → ℕ → Type 0
IsCounted t node = kind_at t node ≡ kind.StructContent → (c : Bool) → length (kinds_of (structure_cells (length t.nodes) t c node)) ≡ (slice_index_or t.layouts node nothing).cells

counted_type : (t : Typed) (c : Bool) (type : Qualified) → IsWhole t type → Structured (IsCounted t) type → cells_of t type ≤ MOST_CELLS
    → length (kinds_of (cells_with (structure_cells (length t.nodes) t) t c type)) ≡ cells_of t type
counted_type t c (plain (Int k) d w) whole h few = omega arith
counted_type t c (plain (Struct node) d w) whole h few = let own = h whole (c || d) in omega (arith, own, few)
counted_type t c (plain of d w) whole h few = absurd whole
counted_type t c (to d w below) whole h few = omega arith
counted_type t c (array n below) whole h few =
    let size : ℕ = (single_of t.layouts (element_of below)).cells in
    let rest = counted_type t c below whole.1 h (elements_few n (count_of below) size whole.0 few) in
    ap length (map_repeated (λ (own : Scalar × Guard). own.0) n (cells_with (structure_cells (length t.nodes) t) t c below))
    ∙ length_repeated n (kinds_of (cells_with (structure_cells (length t.nodes) t) t c below)) ∙ ap (λ m. n * m) rest ∙ sym (elements n (count_of below) size whole.0 few)

total : {X : Type 0} (g : ℕ → List X) (f : ℕ → ℕ) (rows : List ℕ) → All (λ row. length (g row) ≡ f row) rows → length (flat_map g rows) ≡ sum_by f rows
total g f [] same = omega arith
total g f (row ∷ rows) same =
    let head = All-head (λ row. length (g row) ≡ f row) row rows same in
    let rest = total g f rows (All-tail (λ row. length (g row) ≡ f row) row rows same) in
    let all = length-append (g row) (flat_map g rows) in
    let sum = sum_by-cons f row rows in
    omega (arith, head, rest, all, sum)

-- a value of a type has the cells of an object of it
pub form_kinds : (t : Typed) (limits : Limits) (row : ℕ) (type : Qualified) → type_at t.shapes row ≡ type → IsWhole t type → kinds_in (program_of t limits) (form_by t row type) ≡ kinds_of (shape_of t type)
form_kinds t limits row (plain (Int k) c v) e whole = refl
form_kinds t limits row (plain (Struct node) c v) e whole = ap (λ x. kinds_of (shape_of t x)) e
form_kinds t limits row (plain of c v) e whole = absurd whole
form_kinds t limits row (to c v below) e whole = refl
form_kinds t limits row (array n below) e whole = ap (λ x. kinds_of (shape_of t x)) e

module _ (file : List ℕ) (t : Typed) (it : IsUnitOfFile file t) where
  before : (d : ℕ) → d < length t.nodes → All (λ row. IsBefore d (type_at t.shapes row)) (slice_index_or t.members d [])
  before d low = it.checked.by.fits.members_before d (slice_index_or t.members d []) (rows_at file t it d low)

  -- a number above the structure's node is enough
  enough : (m k d : ℕ) → d < length t.nodes → d < m → d < k → (c e : Bool) → kinds_of (structure_cells m t c d) ≡ kinds_of (structure_cells k t e d)
  enough zero k d low a b c e = absurd (omega (arith, a))
  enough (suc m) zero d low a b c e = absurd (omega (arith, b))
  enough (suc m) (suc k) d low a b c e =
      map_flat_map (λ (own : Scalar × Guard). own.0) (λ row. cells_with (structure_cells m t) t c (type_at t.shapes row)) (slice_index_or t.members d [])
      ∙ flat_map_same (λ row. kinds_of (cells_with (structure_cells m t) t c (type_at t.shapes row))) (λ row. kinds_of (cells_with (structure_cells k t) t e (type_at t.shapes row))) (slice_index_or t.members d [])
      (λ i x lt. same_kinds (structure_cells m t) (structure_cells k t) t d (λ c e j less. enough m k j (omega (arith, less, low)) (omega (arith, less, a)) (omega (arith, less, b)) c e) c e
      (type_at t.shapes (slice_index_or (slice_index_or t.members d []) i x)) (before d low i x lt))
      ∙ sym (map_flat_map (λ (own : Scalar × Guard). own.0) (λ row. cells_with (structure_cells k t) t e (type_at t.shapes row)) (slice_index_or t.members d []))

  -- those of a structure are those of its members
  pub parts_are : (m d : ℕ) → d < length t.nodes → d < m → (c : Bool) → kinds_of (structure_cells m t c d) ≡ flat_map (λ row. kinds_of (shape_of t (type_at t.shapes row))) (slice_index_or t.members d [])
  parts_are zero d low a c = absurd (omega (arith, a))
  parts_are (suc m) d low a c =
      map_flat_map (λ (own : Scalar × Guard). own.0) (λ row. cells_with (structure_cells m t) t c (type_at t.shapes row)) (slice_index_or t.members d [])
      ∙ flat_map_same (λ row. kinds_of (cells_with (structure_cells m t) t c (type_at t.shapes row))) (λ row. kinds_of (shape_of t (type_at t.shapes row))) (slice_index_or t.members d [])
      (λ i x lt. same_kinds (structure_cells m t) (structure_cells (length t.nodes) t) t d (λ c e j less. enough m (length t.nodes) j (omega (arith, less, low)) (omega (arith, less, a)) (omega (arith, less, low)) c e) c false
      (type_at t.shapes (slice_index_or (slice_index_or t.members d []) i x)) (before d low i x lt))

  module _ (made : AreMembersWhole t) where
    rows_counted : (d : ℕ) → d < length t.nodes → ((inner : ℕ) → inner < d → IsCounted t inner)
        → All (λ row. length (kinds_of (shape_of t (type_at t.shapes row))) ≡ row_cells t row) (slice_index_or t.members d [])
    rows_counted d low h k x lt =
        let row : ℕ = slice_index_or (slice_index_or t.members d []) k x in
        counted_type t false (type_at t.shapes row) (made d k row (slice_get-get_or (slice_index_or t.members d []) k x lt)) (before_structured (IsCounted t) d h (type_at t.shapes row) (before d low k x lt))
        (it.checked.by.fits.cells_fit row)

    counted_below : (m d : ℕ) → d < m → IsCounted t d
    counted_below zero d less content c = absurd (omega (arith, less))
    counted_below (suc m) d less content c = of_node (slice_get t.nodes d) refl (λ inner below. counted_below m inner (omega (arith, less, below)))
      where
        of_node : (o : Option Node) → slice_get t.nodes d ≡ o → ((inner : ℕ) → inner < d → IsCounted t inner) → length (kinds_of (structure_cells (length t.nodes) t c d)) ≡ (slice_index_or t.layouts d nothing).cells
        of_node None at h = absurd (cc (sym (ap kind_if at) ∙ content))
        of_node (Some n) at h =
            let low = slice_get_within t.nodes d n at in
            ap length (parts_are (length t.nodes) d low low c)
            ∙ total (λ row. kinds_of (shape_of t (type_at t.shapes row))) (row_cells t) (slice_index_or t.members d []) (rows_counted d low h)
            ∙ sym (sum_is file t it d low (ap (λ ns. scripts.kind_at ns d) (sym it.checked.by.elaborated.nodes_are) ∙ content_at (slice_get t.nodes d) content))

    -- what has a type of objects has as many cells as its layout says
    pub counted : (type : Qualified) → IsWhole t type → cells_of t type ≤ MOST_CELLS → length (kinds_of (shape_of t type)) ≡ cells_of t type
    counted type whole few = counted_type t false type whole (all_structured (IsCounted t) (λ d. counted_below (suc d) d (omega arith)) type) few

    pub among : (limits : Limits) (i at : ℕ) (type : Qualified) → IsChosen it.unit.nodes t i (type_at t.shapes at) type
        → take (row_cells t (chosen_row t i (type_at t.shapes at))) (drop (offset_in t (type_at t.shapes at) (slice_index_or t.chosen i 0)) ((program_of t limits).kinds at))
        ≡ kinds_in (program_of t limits) (form_of t (chosen_row t i (type_at t.shapes at)))
    among limits i at type c = by (type_at t.shapes at) c
      where
        by : (whole : Qualified) → IsChosen it.unit.nodes t i whole type
            → take (row_cells t (chosen_row t i whole)) (drop (offset_in t whole (slice_index_or t.chosen i 0)) (kinds_of (shape_of t whole))) ≡ kinds_in (program_of t limits) (form_of t (chosen_row t i whole))
        by (plain (Struct own) d w) c =
            let node : own ≡ c.node = cc c.structure in
            let rows : List ℕ = slice_index_or t.members own [] in
            let k : ℕ = slice_index_or t.chosen i 0 in
            let row : ℕ = slice_index_or rows k 0 in
            let named : slice_get (map (type_at t.shapes) rows) k ≡ Some type = ap (λ s. slice_get (map (type_at t.shapes) (slice_index_or t.members s [])) k) node ∙ c.at in
            let within = slice_get_within (map (type_at t.shapes) rows) k type named in
            let lengths = length-map rows (type_at t.shapes) in
            let low : own < length t.nodes = (let l = c.low in omega (arith, node, l)) in
            let few : k < length rows = omega (arith, within, lengths) in
            ap (λ (ks : List Scalar). take (row_cells t row) (drop (sum_by (row_cells t) (take k rows)) ks)) (parts_are (length t.nodes) own low low (false || d))
            ∙ one_of (λ r. kinds_of (shape_of t (type_at t.shapes r))) (row_cells t) rows k few (rows_counted own low (λ inner less. counted_below (suc inner) inner (omega arith)))
            ∙ sym (form_kinds t limits row (type_at t.shapes row) refl (made own k row (slice_get-get_or rows k 0 few)))
        by (plain of d w) c = absurd (cc c.structure)
        by (to d w below) c = absurd (cc c.structure)
        by (array n below) c = absurd (cc c.structure)
