-- What declarators and composites make of types that are bounded.
use Rattle.std.proofs.Common.{◌≡◌, ℕ, ◌≤◌, ◌*◌, ◌-◌, ◌^◌, ◌==◌, ◌&&◌, ◌||◌, Bool, true, false, not, List, min, nat_lt, take, refl, sym, ap, subst, ◌∙◌, arith, if◌then◌else◌}
use Rattle.std.proofs.Math.Nat.{mul_assoc}
use Rattle.std.proofs.lemmas.Bool.{false≢true, and_parts, or_parts, eqb-true, ltb-true, ltb-false, lt-ltb}
use Rattle.std.proofs.lemmas.List.{get_or-take}
use Rattle.cr_syntax.specs.declared.ctype.CType.{CType}
use Rattle.cr_syntax.specs.declared.ctype.CType.TheVariants.{Void, Int, Pointer, Array, Struct, Function, Unknown}
use Rattle.cr_syntax.specs.declared.node.Node.{Node}
use Rattle.cr_check_types.specs.declared.layout.Layout.{Layout}
use Rattle.cr_check_types.specs.Types.{Qualified, plain, pointer, array, unknown}
use Rattle.cr_check_types.specs.Relations.{are_same, same, sizes_agree, known_size, are_compatible, bare, composite_of, qualified, turned, is_whole, is_complete_at}
use Rattle.cr_check_types.specs.Layouts.{nothing, count_of, element_of, layout_by, single_of, layout_of}
use Rattle.cr_check_declarators.specs.declared.declarator.Declarator.{Declarator}
use Rattle.cr_check_declarators.specs.Declarators.{most_cells, is_unjudged, declared_type, are_whole}
use Rattle.cr_check_declarators.specs.Functions.{adjusted_type}
use Rattle.cr_check_declarators.specs.Cells.{has_large}
use Rattle.cr_check_declarations.specs.Named.{adjusted_if}
use Rattle.cr_check_initialisers.specs.Known.{cells_of}
use Rattle.cr_check_initialisers.specs.Places as places
use Rattle.cr_check_initialisers.specs.Plans.{is_open}
use Rattle.cr_typed.specs.Typed.{MOST_CELLS}
use Rattle.cr_meaning_types.specs.Fitting.Bounded.{IsBounded}

pub both : (a b : Bool) → a ≡ true → b ≡ true → (a && b) ≡ true
both true b e f = f
both false b e f = absurd (false≢true e)

-- ---- later nodes

whole_later : (nodes : List Node) (at later : ℕ) → at ≤ later → (of : CType) → is_whole nodes at of ≡ true → is_whole nodes later of ≡ true
whole_later nodes at later less (Int kind) e = refl
whole_later nodes at later less (Struct node) e =
    let parts = and_parts (nat_lt node at) _ e in
    let low = ltb-true node at parts.0 in
    both (nat_lt node later) _ (lt-ltb node later (omega (arith, low, less))) parts.1
whole_later nodes at later less other e = absurd (false≢true e)

pub complete_later : (nodes : List Node) (at later : ℕ) → at ≤ later → (t : Qualified) → is_complete_at nodes at t ≡ true → is_complete_at nodes later t ≡ true
complete_later nodes at later less (plain of c v) e = whole_later nodes at later less of e
complete_later nodes at later less (pointer c v t) e = refl
complete_later nodes at later less (array n t) e =
    let parts = and_parts (not (n == 0)) (is_complete_at nodes at t) e in both (not (n == 0)) _ parts.0 (complete_later nodes at later less t parts.1)

pub bounded_later : (nodes : List Node) (layouts : List Layout) (at later : ℕ) → at ≤ later → (t : Qualified) → IsBounded nodes layouts at t → IsBounded nodes layouts later t
bounded_later nodes layouts at later less (plain of c v) h = tt
bounded_later nodes layouts at later less (pointer c v t) h = bounded_later nodes layouts at later less t h
bounded_later nodes layouts at later less (array n t) h = (bounded_later nodes layouts at later less t h.0, (complete_later nodes at later less t h.1.0, h.1.1))

-- ---- the layouts before a node

early_leaf : (nodes : List Node) (layouts : List Layout) (i : ℕ) (of : CType) → is_whole nodes i of ≡ true → layout_by (take i layouts) of ≡ layout_by layouts of
early_leaf nodes layouts i (Int kind) e = refl
early_leaf nodes layouts i (Struct node) e = let parts = and_parts (nat_lt node i) _ e in get_or-take i layouts node nothing (ltb-true node i parts.0)
early_leaf nodes layouts i other e = refl

-- of a complete type they are those of all nodes
pub cells_early : (nodes : List Node) (layouts : List Layout) (i : ℕ) (t : Qualified) → is_complete_at nodes i t ≡ true → cells_of (take i layouts) t ≡ cells_of layouts t
cells_early nodes layouts i (plain of c v) e = ap (λ (l : Layout). 1 * l.cells) (early_leaf nodes layouts i of e)
cells_early nodes layouts i (pointer c v t) e = refl
cells_early nodes layouts i (array n t) e =
    let parts = and_parts (not (n == 0)) (is_complete_at nodes i t) e in
    mul_assoc n (count_of t) (single_of (take i layouts) (element_of t)).cells ∙ ap (λ x. n * x) (cells_early nodes layouts i t parts.1)
    ∙ sym (mul_assoc n (count_of t) (single_of layouts (element_of t)).cells)

module _ (nodes : List Node) (layouts : List Layout) (at : ℕ) where
  abbrev P : Qualified → Type 0
  P = IsBounded nodes layouts at

  abbrev complete : Qualified → Bool
  complete = is_complete_at nodes at

  abbrev cells : Qualified → ℕ
  cells = cells_of layouts

  pub array_cells : (n : ℕ) (t : Qualified) → cells (array n t) ≡ n * cells t
  array_cells n t = mul_assoc n (count_of t) (single_of layouts (element_of t)).cells

  -- ---- qualifiers

  cells_qualified : (c v : Bool) (t : Qualified) → cells (qualified c v t) ≡ cells t
  cells_qualified c v (plain of d w) = refl
  cells_qualified c v (pointer d w t) = refl
  cells_qualified c v (array n t) = array_cells n (qualified c v t) ∙ ap (λ x. n * x) (cells_qualified c v t) ∙ sym (array_cells n t)

  complete_qualified : (c v : Bool) (t : Qualified) → complete (qualified c v t) ≡ complete t
  complete_qualified c v (plain of d w) = refl
  complete_qualified c v (pointer d w t) = refl
  complete_qualified c v (array n t) = ap (λ x. not (n == 0) && x) (complete_qualified c v t)

  pub qualified_bounded : (c v : Bool) (t : Qualified) → P t → P (qualified c v t)
  qualified_bounded c v (plain of d w) h = tt
  qualified_bounded c v (pointer d w t) h = h
  qualified_bounded c v (array n t) h =
      (qualified_bounded c v t h.0, (complete_qualified c v t ∙ h.1.0, subst (λ x. n * x ≤ MOST_CELLS) (sym (cells_qualified c v t)) h.1.1))

  pub bare_bounded : (t : Qualified) → P t → P (bare t)
  bare_bounded (plain of c v) h = tt
  bare_bounded (pointer c v t) h = h
  bare_bounded (array n t) h = h

  -- ---- composites (6.2.7p3)

  same_cells : (of other : CType) → are_same of other ≡ true → (layout_by layouts of).cells ≡ (layout_by layouts other).cells
  same_cells Void Void e = refl
  same_cells (Int kind) (Int k) e = refl
  same_cells (Struct node) (Struct other) e = ap (λ k. (layout_by layouts (Struct k)).cells) (eqb-true node other e)
  same_cells (Function node) (Function other) e = refl
  same_cells Unknown Unknown e = refl
  same_cells (Pointer row) (Pointer other) e = refl
  same_cells (Array row n) (Array other m) e = refl
  same_cells of other e = absurd (false≢true e)

  sized_left : (n m : ℕ) → not (n == 0) ≡ true → known_size n m ≡ n
  sized_left n m e = by (n == 0) e
    where
      by : (b : Bool) → not b ≡ true → (if b then m else n) ≡ n
      by true e = absurd (false≢true e)
      by false e = refl

  sized_right : (n m : ℕ) → sizes_agree n m ≡ true → not (n == 0) ≡ true → not (m == 0) ≡ true → known_size n m ≡ m
  sized_right n m e f g = by (n == 0) (m == 0) (n == m) refl f g e
    where
      by : (a b c : Bool) → (n == m) ≡ c → not a ≡ true → not b ≡ true → (a || (b || c)) ≡ true → (if a then m else n) ≡ m
      by true b c s f g e = absurd (false≢true f)
      by false true c s f g e = absurd (false≢true g)
      by false false true s f g e = eqb-true n m s
      by false false false s f g e = absurd (false≢true e)

  composite_complete : (t u : Qualified) → are_compatible t u ≡ true → complete t ≡ true → complete u ≡ true → complete (composite_of t u) ≡ true
  composite_complete (plain of c v) u e h g = h
  composite_complete (pointer c v t) (plain other d w) e h g = refl
  composite_complete (pointer c v t) (pointer d w u) e h g = refl
  composite_complete (pointer c v t) (array m u) e h g = refl
  composite_complete (array n t) (plain other d w) e h g = h
  composite_complete (array n t) (pointer d w u) e h g = h
  composite_complete (array n t) (array m u) e h g =
      let one = and_parts (not (n == 0)) (complete t) h in
      let other = and_parts (not (m == 0)) (complete u) g in
      both (not (known_size n m == 0)) (complete (composite_of t u)) (ap (λ k. not (k == 0)) (sized_left n m one.0) ∙ one.0)
      (composite_complete t u (and_parts (sizes_agree n m) (are_compatible t u) e).1 one.1 other.1)

  cells_left : (t u : Qualified) → are_compatible t u ≡ true → complete t ≡ true → complete u ≡ true → cells (composite_of t u) ≡ cells t
  cells_left (plain of c v) u e h g = refl
  cells_left (pointer c v t) (plain other d w) e h g = refl
  cells_left (pointer c v t) (pointer d w u) e h g = refl
  cells_left (pointer c v t) (array m u) e h g = refl
  cells_left (array n t) (plain other d w) e h g = refl
  cells_left (array n t) (pointer d w u) e h g = refl
  cells_left (array n t) (array m u) e h g =
      let one = and_parts (not (n == 0)) (complete t) h in
      let other = and_parts (not (m == 0)) (complete u) g in
      array_cells (known_size n m) (composite_of t u) ∙ ap (λ k. k * cells (composite_of t u)) (sized_left n m one.0)
      ∙ ap (λ x. n * x) (cells_left t u (and_parts (sizes_agree n m) (are_compatible t u) e).1 one.1 other.1) ∙ sym (array_cells n t)

  cells_right : (t u : Qualified) → are_compatible t u ≡ true → complete t ≡ true → complete u ≡ true → cells (composite_of t u) ≡ cells u
  cells_right (plain of c v) (plain other d w) e h g = ap (λ x. 1 * x) (same_cells of other (and_parts (are_same of other) (same c d && same v w) e).0)
  cells_right (plain of c v) (pointer d w u) e h g = absurd (false≢true e)
  cells_right (plain of c v) (array m u) e h g = absurd (false≢true e)
  cells_right (pointer c v t) (plain other d w) e h g = absurd (false≢true e)
  cells_right (pointer c v t) (pointer d w u) e h g = refl
  cells_right (pointer c v t) (array m u) e h g = absurd (false≢true e)
  cells_right (array n t) (plain other d w) e h g = absurd (false≢true e)
  cells_right (array n t) (pointer d w u) e h g = absurd (false≢true e)
  cells_right (array n t) (array m u) e h g =
      let one = and_parts (not (n == 0)) (complete t) h in
      let other = and_parts (not (m == 0)) (complete u) g in
      let agree = and_parts (sizes_agree n m) (are_compatible t u) e in
      array_cells (known_size n m) (composite_of t u) ∙ ap (λ k. k * cells (composite_of t u)) (sized_right n m agree.0 one.0 other.0)
      ∙ ap (λ x. m * x) (cells_right t u agree.1 one.1 other.1) ∙ sym (array_cells m u)

  pub composite_bounded : (t u : Qualified) → are_compatible t u ≡ true → P t → P u → P (composite_of t u)
  composite_bounded (plain of c v) u e h g = tt
  composite_bounded (pointer c v t) (plain other d w) e h g = h
  composite_bounded (pointer c v t) (pointer d w u) e h g = composite_bounded t u (and_parts (same c d && same v w) (are_compatible t u) e).1 h g
  composite_bounded (pointer c v t) (array m u) e h g = h
  composite_bounded (array n t) (plain other d w) e h g = h
  composite_bounded (array n t) (pointer d w u) e h g = h
  composite_bounded (array n t) (array m u) e h g =
      let alike = (and_parts (sizes_agree n m) (are_compatible t u) e).1 in
      (composite_bounded t u alike h.0 g.0, (composite_complete t u alike h.1.0 g.1.0, by (n == 0) alike))
    where
      by : (b : Bool) → are_compatible t u ≡ true → (if b then m else n) * cells (composite_of t u) ≤ MOST_CELLS
      by true alike = subst (λ x. m * x ≤ MOST_CELLS) (sym (cells_right t u alike h.1.0 g.1.0)) g.1.1
      by false alike = subst (λ x. n * x ≤ MOST_CELLS) (sym (cells_left t u alike h.1.0 g.1.0)) h.1.1

  -- whatever their own qualifiers are
  pub alike_bounded : (t u : Qualified) → are_compatible (bare t) (bare u) ≡ true → P t → P u → P (composite_of t u)
  alike_bounded (plain of c v) u e h g = tt
  alike_bounded (pointer c v t) (plain other d w) e h g = h
  alike_bounded (pointer c v t) (pointer d w u) e h g = composite_bounded t u (and_parts (same false false && same false false) (are_compatible t u) e).1 h g
  alike_bounded (pointer c v t) (array m u) e h g = h
  alike_bounded (array n t) (plain other d w) e h g = h
  alike_bounded (array n t) (pointer d w u) e h g = h
  alike_bounded (array n t) (array m u) e h g = composite_bounded (array n t) (array m u) e h g

  -- ---- declarators (6.7.6)

  -- K6 and K7 of all arrays that are derived
  pub turned_bounded : (t base : Qualified) → P base → are_whole (complete base) t ≡ true → has_large (cells base) t ≡ false → P (turned t base)
  turned_bounded (plain of c v) base h w g = h
  turned_bounded (pointer c v t) base h w g = turned_bounded t (pointer c v base) h w g
  turned_bounded (array n t) base h w g =
      let whole = and_parts (complete base) (are_whole (not (n == 0)) t) w in
      let few = or_parts (nat_lt most_cells (n * cells base)) (has_large (n * cells base) t) g in
      turned_bounded t (array n base) (h, (whole.0, ltb-false most_cells (n * cells base) few.0))
      (ap (λ b. are_whole b t) (all (not (n == 0)) (complete base) whole.0) ∙ whole.1)
      (ap (λ x. has_large x t) (array_cells n base) ∙ few.1)
    where
      all : (a b : Bool) → b ≡ true → (a && b) ≡ a
      all true b e = e
      all false b e = refl

  pub adjusted_bounded : (t : Qualified) → P t → P (adjusted_type t)
  adjusted_bounded (plain of c v) h = h
  adjusted_bounded (pointer c v t) h = h
  adjusted_bounded (array n t) h = h.0

  pub declared_bounded : (parameter : Bool) (own : Declarator) (derived base : Qualified) → P base
      → (is_unjudged own base ≡ false → (are_whole (complete base) derived ≡ true) × (has_large (cells base) derived ≡ false)) → P (adjusted_if parameter (declared_type own derived base))
  declared_bounded parameter own derived base h judged = adjusts parameter (declared_type own derived base) (by (is_unjudged own base) judged)
    where
      by : (b : Bool) → (b ≡ false → (are_whole (complete base) derived ≡ true) × (has_large (cells base) derived ≡ false)) → P (if b then unknown else turned derived base)
      by true j = tt
      by false j = let facts = j refl in turned_bounded derived base h facts.0 facts.1

      adjusts : (b : Bool) (t : Qualified) → P t → P (adjusted_if b t)
      adjusts true t h = adjusted_bounded t h
      adjusts false t h = h

  -- ---- initialised arrays of unknown size (6.7.9p22, K7)

  fitted_few : (x : ℕ) → min x (2 ^ 64 - 1) ≤ 1048576 → x ≤ 1048576
  fitted_few x h = omega (arith, h)

  -- by the layouts before a node at which the elements are complete
  pub sized_bounded : (i : ℕ) → at ≤ i → (t : Qualified) (most : ℕ) → P t
      → (is_open t && nat_lt most_cells (layout_of (take i layouts) (places.sized t most)).cells) ≡ false → P (places.sized t most)
  sized_bounded i less (plain of c v) most h few = tt
  sized_bounded i less (pointer c v t) most h few = h
  sized_bounded i less (array n t) most h few = by (n == 0) few
    where
      early : cells_of (take i layouts) t ≡ cells t
      early = cells_early nodes layouts i t (complete_later nodes at i less t h.1.0)

      by : (b : Bool) → (b && nat_lt most_cells (layout_of (take i layouts) (array (if b then most else n) t)).cells) ≡ false → P (array (if b then most else n) t)
      by true e =
          let low = ltb-false most_cells (layout_of (take i layouts) (array most t)).cells e in
          let few = fitted_few (most * count_of t * (single_of (take i layouts) (element_of t)).cells) low in
          (h.0, (h.1.0, subst (λ x. x ≤ MOST_CELLS) (mul_assoc most (count_of t) (single_of (take i layouts) (element_of t)).cells ∙ ap (λ x. most * x) early) few))
      by false e = h
