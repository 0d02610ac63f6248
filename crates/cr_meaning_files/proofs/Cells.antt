-- The cells of types: an array has those of its elements, and what has a type of objects has some (C11 6.2.5p20).
use Rattle.std.proofs.Common.{◌≡◌, ℕ, zero, suc, ◌+◌, ◌*◌, ◌<◌, ◌≤◌, Bool, List, refl, sym, ap, subst, ◌∙◌, slice_index_or, arith, mul_assoc, suc-mul, mul-pos, ◌%◌}
use Rattle.std.proofs.Math.Nat.{add-mul-mod_self_right}
use Rattle.cr_syntax.specs.declared.ctype.CType.TheVariants.{Int, Struct}
use Rattle.cr_syntax.specs.declared.node.Kind.TheVariants as kind
use Rattle.cr_check_types.specs.declared.layout.Layout.{Layout}
use Rattle.cr_check_types.specs.Types.{Qualified, plain, pointer as to, array}
use Rattle.cr_check_types.specs.Relations.{qualified}
use Rattle.cr_check_types.specs.Layouts.{fitted, count_of, element_of, single_of, times, layout_of, nothing}
use Rattle.cr_typed.specs.declared.typed.Typed.{Typed}
use Rattle.cr_typed.specs.Typed.{IsBefore, MOST_CELLS}
use Rattle.cr_meaning_operations.specs.Shapes.{cells_of}
use Rattle.cr_meaning_operations.specs.Operations.{kind_at}
use Rattle.cr_meaning_typing.specs.Typed.Placed.{IsObject}
use Rattle.cr_meaning_files.specs.Structures.{IsWhole}

-- ---- so many cells are counted as they are

pub exact : (x : ℕ) → fitted x ≤ MOST_CELLS → fitted x ≡ x
exact x few = omega (arith, few)

pub exact_within : (x : ℕ) → x ≤ MOST_CELLS → fitted x ≡ x
exact_within x few = omega (arith, few)

pub less_exact : (x y rest : ℕ) → x ≡ rest + y → fitted x ≤ MOST_CELLS → fitted y ≡ y
less_exact x y rest e few = omega (arith, e, few)

-- those of an array are those of its elements
pub elements : (n c s : ℕ) → 1 ≤ n → fitted (n * c * s) ≤ MOST_CELLS → fitted (n * c * s) ≡ n * fitted (c * s)
elements zero c s some few = absurd (omega (arith, some))
elements (suc m) c s some few =
    let whole : suc m * c * s ≡ suc m * (c * s) = mul_assoc (suc m) c s in
    let apart : suc m * c * s ≡ m * (c * s) + c * s = whole ∙ suc-mul m (c * s) in
    exact (suc m * c * s) few ∙ whole ∙ ap (λ y. suc m * y) (sym (less_exact (suc m * c * s) (c * s) (m * (c * s)) apart few))

pub elements_few : (n c s : ℕ) → 1 ≤ n → fitted (n * c * s) ≤ MOST_CELLS → fitted (c * s) ≤ MOST_CELLS
elements_few zero c s some few = absurd (omega (arith, some))
elements_few (suc m) c s some few =
    let apart : suc m * c * s ≡ m * (c * s) + c * s = mul_assoc (suc m) c s ∙ suc-mul m (c * s) in
    omega (arith, apart, few)

pub no_rest : (n : ℕ) → 0 % n ≡ 0
no_rest n = omega arith

pub multiple : (x n y : ℕ) → x ≡ n * y → x % y ≡ 0
multiple x n y e = let zeroed : x ≡ 0 + n * y = e ∙ omega arith in ap (λ m. m % y) zeroed ∙ add-mul-mod_self_right 0 n y ∙ no_rest y

-- ---- a type has its cells whatever qualifies it

counts : (c v : Bool) (type : Qualified) → count_of (qualified c v type) ≡ count_of type
counts c v (plain of d w) = refl
counts c v (to d w below) = refl
counts c v (array n below) = ap (λ m. n * m) (counts c v below)

singles : (layouts : List Layout) (c v : Bool) (type : Qualified) → single_of layouts (element_of (qualified c v type)) ≡ single_of layouts (element_of type)
singles layouts c v (plain of d w) = refl
singles layouts c v (to d w below) = refl
singles layouts c v (array n below) = singles layouts c v below

same_layout : (layouts : List Layout) (c v : Bool) (type : Qualified) → layout_of layouts (qualified c v type) ≡ layout_of layouts type
same_layout layouts c v type = (λ j. times (counts c v type j) (singles layouts c v type j))

pub qualified_object : (t : Typed) (count : ℕ) (c v : Bool) (type : Qualified) → IsObject t count type → IsObject t count (qualified c v type)
qualified_object t count c v (plain (Int k) d w) h = tt
qualified_object t count c v (plain (Struct node) d w) h = tt
qualified_object t count c v (plain of d w) h = absurd h
qualified_object t count c v (to d w below) h = tt
qualified_object t count c v (array n below) h =
    subst (λ (l : Layout). (1 ≤ l.cells) × (count % l.cells ≡ 0)) (sym (same_layout t.layouts c v below)) h

-- ---- what a structure is, so is an array of it

-- the structure of a type
abbrev pub Structured : (ℕ → Type 0) → Qualified → Type 0
Structured P (plain (Struct node) c v) = P node
Structured P (plain of c v) = Unit {0}
Structured P (to c v below) = Unit {0}
Structured P (array n below) = Structured P below

pub all_structured : (P : ℕ → Type 0) → ((node : ℕ) → P node) → (type : Qualified) → Structured P type
all_structured P h (plain (Struct node) c v) = h node
all_structured P h (plain of c v) = tt
all_structured P h (to c v below) = tt
all_structured P h (array n below) = all_structured P h below

pub before_structured : (P : ℕ → Type 0) (bound : ℕ) → ((node : ℕ) → node < bound → P node) → (type : Qualified) → IsBefore bound type → Structured P type
before_structured P bound h (plain (Struct node) c v) low = h node low
before_structured P bound h (plain of c v) low = tt
before_structured P bound h (to c v below) low = tt
before_structured P bound h (array n below) low = before_structured P bound h below low

module _ (t : Typed) where
  -- the structure has cells, if it has its content
  abbrev pub IsFull : ℕ → Type 0
  IsFull node = kind_at t node ≡ kind.StructContent → 1 ≤ (slice_index_or t.layouts node nothing).cells

  some_single : (type : Qualified) → IsWhole t type → Structured IsFull type → 1 ≤ (single_of t.layouts (element_of type)).cells
  some_single (plain (Int k) c v) whole full = omega arith
  some_single (plain (Struct node) c v) whole full = full whole
  some_single (plain of c v) whole full = absurd whole
  some_single (to c v below) whole full = omega arith
  some_single (array n below) whole full = some_single below whole.1 full

  some_elements : (type : Qualified) → IsWhole t type → 1 ≤ count_of type
  some_elements (plain of c v) whole = omega arith
  some_elements (to c v below) whole = omega arith
  some_elements (array n below) whole = mul-pos whole.0 (some_elements below whole.1)

  pub some_cells : (type : Qualified) → IsWhole t type → Structured IsFull type → 1 ≤ cells_of t type
  some_cells type whole full =
      let product : 1 ≤ count_of type * (single_of t.layouts (element_of type)).cells = mul-pos (some_elements type whole) (some_single type whole full) in
      omega (arith, product)

  -- what has a type of objects has its whole cells
  pub object : (type : Qualified) → IsWhole t type → Structured IsFull type → cells_of t type ≤ MOST_CELLS → IsObject t (cells_of t type) type
  object (plain (Int k) c v) whole full few = tt
  object (plain (Struct node) c v) whole full few = tt
  object (plain of c v) whole full few = absurd whole
  object (to c v below) whole full few = tt
  object (array n below) whole full few = (
    some_cells below whole.1 full,
    multiple (cells_of t (array n below)) n (cells_of t below) (elements n (count_of below) (single_of t.layouts (element_of below)).cells whole.0 few),
  )
