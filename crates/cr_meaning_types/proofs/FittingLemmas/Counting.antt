-- The arrays that a declarator derives have elements of complete types, and not too many cells (C11 6.7.6, K6, K7).
use Rattle.std.proofs.Common.{◌≡◌, ℕ, zero, suc, ◌+◌, ◌*◌, ◌-◌, ◌^◌, ◌<◌, ◌≤◌, ◌==◌, ◌&&◌, ◌||◌, inr, pos, negsuc, Bool, true, false, not, List, [], ◌∷◌, Option, None, Some, nat_lt, take, slice_get, slice_index_or, refl, sym, ap, subst, ◌∙◌, arith, if◌then◌else◌}
use Rattle.std.specs.Option.{is_some}
use Rattle.std.proofs.lemmas.Bool.{false≢true, and_parts, or_parts, not-false, ltb-false}
use Rattle.std.proofs.lemmas.List.{get_or-take}
use Rattle.cr_syntax.specs.declared.node.Kind.{Kind}
use Rattle.cr_syntax.specs.declared.node.Kind.TheVariants as kind
use Rattle.cr_syntax.specs.declared.node.Node.{Node}
use Rattle.cr_check_constants.specs.declared.constant.Constant.{Constant}
use Rattle.cr_check_constants.specs.declared.constant.Constant.TheVariants.{NotConstant, Undefined, Value}
use Rattle.cr_check_types.specs.declared.layout.Layout.{Layout}
use Rattle.cr_check_types.specs.declared.shape.Shape.{Shape}
use Rattle.cr_check_types.specs.Types.{Qualified, plain, pointer, array, type_at}
use Rattle.cr_check_types.specs.Relations.{is_complete_at}
use Rattle.cr_check_types.specs.Layouts.{fitted, nothing, layout_of}
use Rattle.cr_check_operands.specs.Values.{Seen}
use Rattle.cr_check_expressions.specs.declared.least.Break.{Break}
use Rattle.cr_check_expressions.specs.Breaks.{fault}
use Rattle.cr_check_expressions.specs.Ruled.{is_typed}
use Rattle.cr_check_declarators.specs.declared.words.Class.{Class}
use Rattle.cr_check_declarators.specs.declared.declarator.Size.{Size}
use Rattle.cr_check_declarators.specs.declared.declarator.Size.TheVariants as size
use Rattle.cr_check_declarators.specs.declared.declarator.Declarator.{Declarator}
use Rattle.cr_check_declarators.specs.Specifiers.{first_of, volatile_fault_of}
use Rattle.cr_check_declarators.specs.Declarators.{most_cells, name_alone, hole, is_hole_type, is_unknown, is_refused, is_object_of, size_of, constant_size, array_of, function_by, function_of, function_fault_of, cells_fault_of, are_whole, whole_elements, whole_object}
use Rattle.cr_check_declarators.specs.Cells.{Derives, named, starred, sized, unsized, called, has_large}
use Rattle.cr_check_declarators.specs.Structures.{is_too_large_of}
use Rattle.cr_check_declarators.proofs.Counted.{counted as cells_counted}
use Rattle.cr_check_enclosing.specs.declared.context.Place.{Place}
use Rattle.cr_check_declarations.specs.declared.tree.Tree.{Tree}
use Rattle.cr_check_declarations.specs.Before.{Before, kind_in, type_in, specified_in, declarator_in}
use Rattle.cr_check_declarations.specs.Declarators.{size_in, count_of, inner_derived, bracket_before, resulting, derived_by, declarator_by}
use Rattle.cr_check_declarations.specs.Contents.{layout_by}
use Rattle.cr_check_declarations.specs.Named.{is_declarator, is_initialised, is_typedef, class_of, declaration_of, specifiers_in}
use Rattle.cr_check_declarations.specs.Faults.{Has, has_at, fault_at, token_if, place_of, name_token, is_incomplete, is_whole, is_specifier, brace_before, declarator_faults, whole_faults}
use Rattle.cr_check_initialisers.specs.Known.{cells_of}
use Rattle.cr_check_unit.specs.declared.typing.Typing.{Typing}
use Rattle.cr_check_unit.specs.Typing.{cut, entry_at, before_in, IsTyping}
use Rattle.cr_check_unit.specs.Breaks.{IsBroken}
use Rattle.cr_meaning_typing.specs.Typed.Laws.{HoldsAll}
use Rattle.cr_meaning_typing.proofs.TypedLemmas.Worth.{unbroken}
use Rattle.cr_meaning_types.specs.Known.Shaped.{fits, IsShaped}
use Rattle.cr_meaning_types.proofs.KnownLemmas.Naming.{holds_all, ruled, declarator_early, specifier_holds}
use Rattle.cr_meaning_types.proofs.KnownLemmas.Declaring.{declarator_holds, unplaced, later_faults}
use Rattle.cr_meaning_types.proofs.FittingLemmas.Types.{cells_early}
use Rattle.cr_meaning_types.proofs.FittingLemmas.Names.{IsDerived}

-- ---- declarators and what they derive are made together

-- where no size is wrong and no function is misplaced
abbrev Made : Declarator → Qualified → Type 0
Made d t = is_refused d ≡ false → Derives d t

refused_second : (a b : Bool) → (a || (true || b)) ≡ false → ⊥
refused_second false b e = false≢true (sym e)
refused_second true b e = false≢true (sym e)

refused_third : (a b : Bool) (o : Option ℕ) (token : ℕ) → (a || (b || is_some (first_of o (Some token)))) ≡ false → ⊥
refused_third false false None token e = false≢true (sym e)
refused_third false false (Some x) token e = false≢true (sym e)
refused_third false true o token e = false≢true (sym e)
refused_third true b o token e = false≢true (sym e)

-- a size that is known isn't 0
abbrev IsCounted : Size → Type 0
IsCounted (size.Known count) = 0 < count
IsCounted s = Unit {0}

positive : (n : ℕ) → (n == 0) ≡ false → 0 < n
positive zero e = absurd (false≢true (sym e))
positive (suc n) e = omega arith

constant_counted : (c : Constant) → IsCounted (constant_size c)
constant_counted NotConstant = tt
constant_counted Undefined = tt
constant_counted (Value (negsuc number)) = tt
constant_counted (Value (pos number)) = by (number == 0) refl (nat_lt (2 ^ 64 - 1) number)
  where
    by : (a : Bool) → (number == 0) ≡ a → (b : Bool) → IsCounted (if a then size.Wrong else (if b then size.Wrong else size.Known number))
    by true e b = tt
    by false e true = tt
    by false e false = positive number e

size_counted : (typed : Bool) (c : Constant) → IsCounted (size_of typed c)
size_counted true c = constant_counted c
size_counted false c = tt

counts : (at : ℕ → Seen) (o : Option ℕ) → IsCounted (size_in at o)
counts at None = tt
counts at (Some part) = size_counted (is_typed (at part)) (at part).constant

array_made : (d : Declarator) (bracket : ℕ) (s : Size) (inner : Qualified) → IsCounted s → Made d inner → Made (array_of d bracket s) (array (count_of s) inner)
array_made d bracket size.Open inner e h = λ r. unsized d inner bracket (h r)
array_made d bracket size.Untyped inner e h = λ r. absurd (refused_second d.misplaced (is_some d.wrong) r)
array_made d bracket size.Wrong inner e h = λ r. absurd (refused_third d.misplaced d.untyped d.wrong bracket r)
array_made d bracket (size.Known count) inner e h = λ r. sized d inner bracket count e (h r)

function_refused : (o : Option ℕ) (d : Declarator) (node : ℕ) (empty : Bool) → is_refused (function_by o true d node empty) ≡ false → is_refused d ≡ false
function_refused None d node empty e = e
function_refused (Some other) d node empty e = absurd (false≢true (sym e))

function_misplaced : (o : Option ℕ) (d : Declarator) (node : ℕ) (empty : Bool) → is_refused (function_by o false d node empty) ≡ false → ⊥
function_misplaced None d node empty e = false≢true (sym e)
function_misplaced (Some other) d node empty e = false≢true (sym e)

function_made : (d : Declarator) (inner : Qualified) (node : ℕ) (empty : Bool) → Made d inner → Made (function_of d (is_hole_type inner) node empty) (resulting inner)
function_made d (plain of c v) node empty h = λ r. called d (plain of c v) node empty refl (h (function_refused d.function d node empty r))
function_made d (pointer c v t) node empty h = λ r. absurd (function_misplaced d.function d node empty r)
function_made d (array n t) node empty h = λ r. absurd (function_misplaced d.function d node empty r)

-- ---- cells by the layouts before a node

few_fitted : (n x : ℕ) → n * fitted x ≤ 1048576 → n * fitted x ≡ n * x
few_fitted zero x h = let a : zero * fitted x ≡ 0 = omega arith in let b : zero * x ≡ 0 = omega arith in a ∙ sym b
few_fitted (suc n) x h =
    let p : suc n * fitted x ≡ fitted x + n * fitted x = omega arith in
    let low : fitted x ≤ 1048576 = omega (arith, p, h) in
    let same : fitted x ≡ x = omega (arith, low) in
    ap (λ k. suc n * k) same

few_large : (n x : ℕ) (t : Qualified) → (nat_lt most_cells (n * fitted x) || has_large (n * fitted x) t) ≡ false → (nat_lt most_cells (n * x) || has_large (n * x) t) ≡ false
few_large n x t e =
    let parts = or_parts (nat_lt most_cells (n * fitted x)) (has_large (n * fitted x) t) e in
    sym (ap (λ k. nat_lt most_cells k || has_large k t) (few_fitted n x (ltb-false most_cells (n * fitted x) parts.0))) ∙ e

few_cells : (nodes : List Node) (layouts : List Layout) (i : ℕ) (base t : Qualified) → are_whole (is_complete_at nodes i base) t ≡ true → has_large (layout_of (take i layouts) base).cells t ≡ false
    → has_large (cells_of layouts base) t ≡ false
few_cells nodes layouts i base (plain of c v) w g = refl
few_cells nodes layouts i base (pointer c v t) w g = g
few_cells nodes layouts i base (array n t) w g =
    ap (λ x. nat_lt most_cells (n * x) || has_large (n * x) t) (sym (cells_early nodes layouts i base (and_parts (is_complete_at nodes i base) (are_whole (not (n == 0)) t) w).0))
    ∙ few_large n (cells_of (take i layouts) base) t g

whole_anyhow : (b : Bool) (t : Qualified) → are_whole b t ≡ true → are_whole true t ≡ true
whole_anyhow b (plain of c v) e = refl
whole_anyhow b (pointer c v t) e = e
whole_anyhow b (array n t) e = (and_parts b (are_whole (not (n == 0)) t) e).1

-- ---- constraints

-- K6 of elements
elements_whole : (own : Has) (b : Before) (nodes : List Node) (i : ℕ) (at : Place) (storage : Option Class) (initialised : Bool) (of : Qualified) (name : ℕ)
    → HoldsAll (declarator_faults own b nodes i at storage initialised of name) → whole_elements (is_complete_at nodes i) own.derived of ≡ true
elements_whole own b nodes i at storage initialised of name h =
    let six = unbroken 6 name (is_incomplete own nodes i at storage of)
    (fault_at 7 own.declarator.wrong ∷ fault_at 7 (cells_fault_of own.declarator (layout_of b.layouts of)) ∷ fault 8 name (function_fault_of own.declarator at (is_typedef storage) own.named) ∷ later_faults own at storage initialised) h in
    not-false (whole_elements (is_complete_at nodes i) own.derived of)
    (or_parts (not (whole_elements (is_complete_at nodes i) own.derived of)) (is_object_of at storage (is_some own.declarator.function) && not (whole_object (is_complete_at nodes i) own.named)) six).0

-- K7
cells_few : (own : Has) (b : Before) (nodes : List Node) (i : ℕ) (at : Place) (storage : Option Class) (initialised : Bool) (of : Qualified) (name : ℕ)
    → HoldsAll (declarator_faults own b nodes i at storage initialised of name) → is_some (cells_fault_of own.declarator (layout_of b.layouts of)) ≡ false
cells_few own b nodes i at storage initialised of name h =
    unplaced 7 (cells_fault_of own.declarator (layout_of b.layouts of)) (fault 8 name (function_fault_of own.declarator at (is_typedef storage) own.named) ∷ later_faults own at storage initialised)
    (λ x among. h x (inr (inr among)))

known_whole : (a b : Bool) → a ≡ false → (a || b) ≡ true → b ≡ true
known_whole false b e f = f
known_whole true b e f = absurd (false≢true (sym e))

-- ---- in a unit

module _ (u : Tree) (texts : List (List ℕ)) (shapes : List Shape) (t : Typing) (h : IsTyping u texts shapes t) (holds : (b : Break) → IsBroken u texts shapes t b → ⊥)
    (shaped : IsShaped u) where
  abbrev IsMade : ℕ → Type 0
  IsMade i = Made (entry_at t i).own.declarator (type_at shapes (entry_at t i).own.derivations)

  module _ (i : ℕ) (n : Node) (at : slice_get u.nodes.now i ≡ Some n) (below : (p : ℕ) → p < i → (m : Node) → slice_get u.nodes.now p ≡ Some m → is_declarator m.kind ≡ true → IsMade p) where
    abbrev b : Before
    b = before_in shapes (cut i t)

    inner_made : ((own : Kind) → fits n.kind 0 own ≡ is_declarator own) → Made (declarator_in b.declarator (slice_get n.parts 0)) (inner_derived b (slice_get n.parts 0))
    inner_made stands = by (slice_get n.parts 0) refl
      where
        by : (o : Option ℕ) → slice_get n.parts 0 ≡ o → Made (declarator_in b.declarator o) (inner_derived b o)
        by None is = λ r. named
        by (Some part) is =
            let p = shaped.parts i n at 0 part is in
            subst (λ row. Made (b.declarator part) (type_at shapes row)) (sym (get_or-take i t.derivations part 0 p.below))
            (subst (λ d. Made d (type_at shapes (entry_at t part).own.derivations)) (sym (declarator_early u texts shapes t h holds i n at part p.below))
            (below part p.below p.own p.at (sym (stands p.own.kind) ∙ p.fits)))

    made_by : (k : Kind) (spelling : ℕ → List ℕ) → n.kind ≡ k → is_declarator k ≡ true → Made (declarator_by k spelling u.nodes.now b i n) (derived_by k spelling u.nodes.now b n)
    made_by kind.NameDeclarator spelling is e = λ r. named
    made_by kind.GroupDeclarator spelling is e = inner_made (λ own. ap (λ c. fits c 0 own) is)
    made_by kind.AbstractGroup spelling is e = inner_made (λ own. ap (λ c. fits c 0 own) is)
    made_by kind.PointerDeclarator spelling is e = λ r. starred (declarator_in b.declarator (slice_get n.parts 0)) (inner_derived b (slice_get n.parts 0)) _ _ _ (inner_made (λ own. ap (λ c. fits c 0 own) is) r)
    made_by kind.AbstractPointer spelling is e = λ r. starred (declarator_in b.declarator (slice_get n.parts 0)) (inner_derived b (slice_get n.parts 0)) _ _ _ (inner_made (λ own. ap (λ c. fits c 0 own) is) r)
    made_by kind.FunctionDeclarator spelling is e =
        function_made (declarator_in b.declarator (slice_get n.parts 0)) (inner_derived b (slice_get n.parts 0)) i (not (is_some (slice_get n.parts 1))) (inner_made (λ own. ap (λ c. fits c 0 own) is))
    made_by kind.ArrayDeclarator spelling is e =
        array_made (declarator_in b.declarator (slice_get n.parts 0)) (bracket_before u.nodes.now n (slice_get n.parts 1)) (size_in b.seen (slice_get n.parts 1)) (inner_derived b (slice_get n.parts 0))
        (counts b.seen (slice_get n.parts 1)) (inner_made (λ own. ap (λ c. fits c 0 own) is))
    made_by kind.AbstractArrayOf spelling is e =
        array_made (declarator_in b.declarator (slice_get n.parts 0)) (bracket_before u.nodes.now n (slice_get n.parts 1)) (size_in b.seen (slice_get n.parts 1)) (inner_derived b (slice_get n.parts 0))
        (counts b.seen (slice_get n.parts 1)) (inner_made (λ own. ap (λ c. fits c 0 own) is))
    made_by kind.AbstractArray spelling is e =
        array_made name_alone (bracket_before u.nodes.now n (slice_get n.parts 0)) (size_in b.seen (slice_get n.parts 0)) hole (counts b.seen (slice_get n.parts 0)) (λ r. named)
    made_by k spelling is e = absurd (false≢true e)

    node_made : is_declarator n.kind ≡ true → IsMade i
    node_made e =
        let r = ruled u texts shapes t h holds i n at in
        subst (λ d. Made d (type_at shapes (entry_at t i).own.derivations)) (sym r.declarator) (subst (Made _) (sym r.derived) (made_by n.kind _ refl e))

  all_below : (m i : ℕ) → i < m → (n : Node) → slice_get u.nodes.now i ≡ Some n → is_declarator n.kind ≡ true → IsMade i
  all_below zero i low n at e = absurd (omega (arith, low))
  all_below (suc m) i low n at e = node_made i n at (λ p less. all_below m p (omega (arith, low, less))) e

  -- what a declarator derives
  pub derived_there : (i d : ℕ) (n : Node) → slice_get u.nodes.now i ≡ Some n → is_declarator n.kind ≡ true → declaration_of u.nodes.now u.above.now i ≡ Some d
      → IsDerived u.nodes.now t.layouts i (entry_at t i).own.declarator (type_at shapes (entry_at t i).own.derivations) (type_in (before_in shapes (cut i t)).named (specifiers_in u.nodes.now (Some d)))
  derived_there i d n at e declared unjudged =
      let own = has_at shapes (entry_at t i).own in
      let b = before_in shapes (cut i t) in
      let base = type_in b.named (specifiers_in u.nodes.now (Some d)) in
      let name = name_token u.nodes.now i (Some d) in
      let storage = class_of (specified_in b.specified (specifiers_in u.nodes.now (Some d))).storage in
      let initialised = is_initialised (kind_in u.nodes.now (slice_index_or u.above.now i None)) in
      let parts = or_parts (is_refused own.declarator) (is_unknown base) unjudged in
      let all = subst (λ o. HoldsAll (whole_faults own b u i o)) declared (declarator_holds n.kind own b u i n e (holds_all u texts shapes t h holds i n at)) in
      let elements = elements_whole own b u.nodes.now i (place_of u i) storage initialised base name all in
      let whole = known_whole (is_unknown base) (are_whole (is_complete_at u.nodes.now i base) own.derived) parts.1 elements in
      let made = all_below (suc i) i (omega arith) n at e parts.0 in
      let large = sym (cells_counted own.declarator own.derived (layout_of b.layouts base).cells made (whole_anyhow (is_complete_at u.nodes.now i base) own.derived whole))
      ∙ cells_few own b u.nodes.now i (place_of u i) storage initialised base name all in
      (whole, few_cells u.nodes.now t.layouts i base own.derived whole large)

module _ (u : Tree) (texts : List (List ℕ)) (shapes : List Shape) (t : Typing) (h : IsTyping u texts shapes t) (holds : (b : Break) → IsBroken u texts shapes t b → ⊥) where
  -- a structure has no more cells than an array may have (K7)
  layout_small : (i : ℕ) (n : Node) → slice_get u.nodes.now i ≡ Some n → (k : Kind) → n.kind ≡ k → (members : List Qualified) → (entry_at t i).own.layout ≡ layout_by k (before_in shapes (cut i t)) members
      → (entry_at t i).own.layout.cells ≤ 1048576
  layout_small i n at kind.StructContent is members e =
      let own = has_at shapes (entry_at t i).own in
      let all = specifier_holds n.kind own (before_in shapes (cut i t)) u i n (ap is_specifier is) (holds_all u texts shapes t h holds i n at) in
      ltb-false most_cells own.layout.cells
      (unbroken 7 (brace_before u.nodes.now n) (is_too_large_of own.layout) (fault_at 41 (token_if (is_whole u i) (volatile_fault_of own.specified (place_of u i) own.named)) ∷ [])
      (λ x among. all x (inr (inr (inr (inr among))))))
  layout_small i n at k is members e = let none : (entry_at t i).own.layout.cells ≡ 0 = ap (λ (l : Layout). l.cells) e in omega (arith, none)

  pub structure_small : (i : ℕ) (n : Node) → slice_get u.nodes.now i ≡ Some n → (slice_index_or t.layouts i nothing).cells ≤ 1048576
  structure_small i n at = layout_small i n at n.kind refl _ (ruled u texts shapes t h holds i n at).layout
