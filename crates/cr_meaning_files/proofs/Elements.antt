-- The cells of an object are whole elements of an array that its name is, since the composite type has the same elements.
use Rattle.std.proofs.Common.{◌≡◌, ℕ, zero, suc, ◌+◌, ◌*◌, ◌≤◌, List, length, Bool, refl, sym, ap, subst, ◌∙◌, arith, if◌then◌else◌, mul_assoc, suc-mul, ◌%◌}
use Rattle.std.proofs.lemmas.Bool.{ne_eqb}
use Rattle.cr_syntax.specs.declared.ctype.CType.{CType}
use Rattle.cr_syntax.specs.declared.ctype.CType.TheVariants.{Int, Struct}
use Rattle.cr_check_types.specs.declared.layout.Layout.{Layout}
use Rattle.cr_check_types.specs.Types.{Qualified, plain, pointer as to, array}
use Rattle.cr_check_types.specs.Relations.{composite_of}
use Rattle.cr_check_types.specs.Layouts.{fitted, count_of, element_of, single_of, times}
use Rattle.cr_typed.specs.declared.typed.Typed.{Typed}
use Rattle.cr_typed.specs.Typed.{MOST_CELLS}
use Rattle.cr_meaning_operations.specs.Shapes.{type_of_node, named_type, cells_of}
use Rattle.cr_meaning_operations.specs.Operations.{entity_of}
use Rattle.cr_meaning_typing.specs.Typed.Placed.{IsObject}
use Rattle.cr_meaning_objects.specs.Initialised.Composites.{IsSized}
use Rattle.cr_meaning_files.specs.Celled as Laws
use Rattle.cr_meaning_files.specs.Celled.{HasSizedElements}
use Rattle.cr_meaning_files.proofs.Cells.{exact, less_exact, multiple}

-- ---- a type of known size has its cells

counts : (one other : Qualified) → IsSized one → count_of (composite_of one other) ≡ count_of one
counts (plain of c v) other h = refl
counts (to c v below) (plain of d w) h = refl
counts (to c v below) (to d w u) h = refl
counts (to c v below) (array m u) h = refl
counts (array n below) (plain of d w) h = refl
counts (array n below) (to d w u) h = refl
counts (array n below) (array m u) h =
    let some = h.0 in
    ap (λ b. (if b then m else n) * count_of (composite_of below u)) (ne_eqb n 0 (λ e. absurd (omega (arith, some, e)))) ∙ ap (λ k. n * k) (counts below u h.1)

singles : (layouts : List Layout) (one other : Qualified) → single_of layouts (element_of (composite_of one other)) ≡ single_of layouts (element_of one)
singles layouts (plain of c v) other = refl
singles layouts (to c v below) (plain of d w) = refl
singles layouts (to c v below) (to d w u) = refl
singles layouts (to c v below) (array m u) = refl
singles layouts (array n below) (plain of d w) = refl
singles layouts (array n below) (to d w u) = refl
singles layouts (array n below) (array m u) = singles layouts below u

same_cells : (t : Typed) (one other : Qualified) → IsSized one → cells_of t (composite_of one other) ≡ cells_of t one
same_cells t one other h = (λ j. (times (counts one other h j) (singles t.layouts one other j)).cells)

-- ---- those of an array are those of its elements

elements : (n c s : ℕ) → fitted (n * c * s) ≤ MOST_CELLS → 1 ≤ n → fitted (n * c * s) ≡ n * fitted (c * s)
elements zero c s few some = absurd (omega (arith, some))
elements (suc m) c s few some =
    let whole : suc m * c * s ≡ suc m * (c * s) = mul_assoc (suc m) c s in
    let apart : suc m * c * s ≡ m * (c * s) + c * s = whole ∙ suc-mul m (c * s) in
    exact (suc m * c * s) few ∙ whole ∙ ap (λ y. suc m * y) (sym (less_exact (suc m * c * s) (c * s) (m * (c * s)) apart few))

some_elements : (n c s : ℕ) → 1 ≤ fitted (n * c * s) → 1 ≤ n
some_elements zero c s some = absurd (omega (arith, some))
some_elements (suc m) c s some = omega arith

some_factor : (x n y : ℕ) → x ≡ n * y → 1 ≤ x → 1 ≤ y
some_factor x n zero e some = let none : n * 0 ≡ 0 = omega arith in absurd (omega (arith, e, none, some))
some_factor x n (suc y) e some = omega arith

module _ (t : Typed) (count : ℕ) (some : 1 ≤ count) (few : count ≤ MOST_CELLS) where
  whole_elements : (n : ℕ) (below whole : Qualified) → IsSized below → composite_of (array n below) whole ≡ whole → count ≡ cells_of t whole
      → (1 ≤ cells_of t below) × (count % cells_of t below ≡ 0)
  whole_elements n below (plain of c v) sized e same = absurd cc
  whole_elements n below (to c v u) sized e same = absurd cc
  whole_elements n below (array m u) sized e same = (some_factor count m (cells_of t below) product some, multiple count m (cells_of t below) product)
    where
      inner : composite_of below u ≡ u
      inner = cc

      product : count ≡ m * cells_of t below
      product =
          same
          ∙ elements m (count_of u) (single_of t.layouts (element_of u)).cells (subst (λ x. x ≤ MOST_CELLS) same few) (some_elements m (count_of u) (single_of t.layouts (element_of u)).cells (subst (λ x. 1 ≤ x) same some))
          ∙ ap (λ x. m * x) (ap (cells_of t) (sym inner) ∙ same_cells t below u sized)

  -- what is no object has no cells
  cell_less : (of : CType) (c v : Bool) → count ≡ cells_of t (plain of c v) → IsObject t count (plain of c v)
  cell_less (Int k) c v e = tt
  cell_less (Struct node) c v e = tt
  cell_less of c v e = absurd (omega (arith, e, some))

  object : (type whole : Qualified) → HasSizedElements type → composite_of type whole ≡ whole → count ≡ cells_of t whole → IsObject t count type
  object (plain (Int k) c v) whole h e same = tt
  object (plain (Struct node) c v) whole h e same = tt
  object (plain of c v) whole h e same = cell_less of c v (same ∙ ap (cells_of t) (sym e))
  object (to c v below) whole h e same = tt
  object (array n below) whole h e same = whole_elements n below whole h e same

pub celled : Laws.NamesHaveWholeCells
celled p t i sized e same some few = record {
  some = some;
  object = object t (length (p.shape (entity_of t i))) some few (type_of_node t i) (named_type t (entity_of t i)) sized e same;
}
