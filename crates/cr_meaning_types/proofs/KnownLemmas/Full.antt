-- Where no bracket of a declarator is without a size, what it derives has no array of unknown size (C11 6.7.6.2, K7).
use Rattle.std.proofs.Common.{◌≡◌, ℕ, zero, suc, ◌<◌, ◌==◌, pos, negsuc, Bool, true, false, not, List, Option, None, Some, nat_lt, slice_get, refl, sym, ap, ◌∙◌, ◌-◌, ◌^◌, arith, if◌then◌else◌}
use Rattle.std.specs.Option.{is_some}
use Rattle.std.proofs.lemmas.Bool.{false≢true}
use Rattle.std.proofs.lemmas.List.{get_or-take}
use Rattle.cr_syntax.specs.declared.node.Kind.{Kind}
use Rattle.cr_syntax.specs.declared.node.Kind.TheVariants as kind
use Rattle.cr_syntax.specs.declared.node.Node.{Node}
use Rattle.cr_check_constants.specs.declared.constant.Constant.{Constant}
use Rattle.cr_check_constants.specs.declared.constant.Constant.TheVariants.{NotConstant, Undefined, Value}
use Rattle.cr_check_types.specs.declared.shape.Shape.{Shape}
use Rattle.cr_check_types.specs.Types.{Qualified, plain, pointer, array, type_at}
use Rattle.cr_check_operands.specs.Values.{Seen}
use Rattle.cr_check_expressions.specs.declared.least.Break.{Break}
use Rattle.cr_check_expressions.specs.Ruled.{is_typed}
use Rattle.cr_check_declarators.specs.declared.declarator.Size.{Size}
use Rattle.cr_check_declarators.specs.declared.declarator.Size.TheVariants as size
use Rattle.cr_check_declarators.specs.declared.declarator.Declarator.{Declarator}
use Rattle.cr_check_declarators.specs.Declarators.{name_alone, hole, is_hole_type, size_of, constant_size, array_of, function_by}
use Rattle.cr_check_declarations.specs.declared.tree.Tree.{Tree}
use Rattle.cr_check_declarations.specs.Before.{Before, declarator_in}
use Rattle.cr_check_declarations.specs.Declarators.{size_in, count_of, inner_derived, bracket_before, resulting, derived_by, declarator_by}
use Rattle.cr_check_unit.specs.declared.typing.Typing.{Typing}
use Rattle.cr_check_unit.specs.Typing.{cut, entry_at, before_in, IsTyping}
use Rattle.cr_check_unit.specs.Breaks.{IsBroken}
use Rattle.cr_meaning_types.specs.Known.Shaped.{IsShaped}
use Rattle.cr_meaning_types.proofs.KnownLemmas.Naming.{ruled, declarator_early}
use Rattle.cr_meaning_types.proofs.KnownLemmas.Open.{is_full}
use Rattle.cr_meaning_types.proofs.FittingLemmas.Types.{both as both_true}
use Rattle.cr_meaning_types.proofs.KnownLemmas.Classes.{first_some as behind_some}

-- ---- sizes

-- a size that is known isn't 0
abbrev is_counted : Size → Bool
is_counted (size.Known count) = not (count == 0)
is_counted s = true

constant_counted : (c : Constant) → is_counted (constant_size c) ≡ true
constant_counted NotConstant = refl
constant_counted Undefined = refl
constant_counted (Value (negsuc number)) = refl
constant_counted (Value (pos number)) = by (number == 0) refl (nat_lt (2 ^ 64 - 1) number)
  where
    by : (a : Bool) → (number == 0) ≡ a → (b : Bool) → is_counted (if a then size.Wrong else (if b then size.Wrong else size.Known number)) ≡ true
    by true e b = refl
    by false e true = refl
    by false e false = ap not e

size_counted : (typed : Bool) (c : Constant) → is_counted (size_of typed c) ≡ true
size_counted true c = constant_counted c
size_counted false c = refl

counted : (at : ℕ → Seen) (o : Option ℕ) → is_counted (size_in at o) ≡ true
counted at None = refl
counted at (Some part) = size_counted (is_typed (at part)) (at part).constant

-- ---- declarators

array_full : (d : Declarator) (bracket : ℕ) (s : Size) (inner : Qualified) → is_counted s ≡ true → (is_some d.sizeless ≡ false → is_full inner ≡ true) → is_some (array_of d bracket s).sizeless ≡ false
    → is_full (array (count_of s) inner) ≡ true
array_full d bracket size.Open inner e h none = absurd (false≢true (sym none ∙ behind_some d.sizeless bracket))
array_full d bracket size.Untyped inner e h none = h none
array_full d bracket size.Wrong inner e h none = h none
array_full d bracket (size.Known count) inner e h none = both_true (not (count == 0)) (is_full inner) e (h none)

function_sizeless : (o : Option ℕ) (bare : Bool) (inner : Declarator) (node : ℕ) (empty : Bool) → is_some (function_by o bare inner node empty).sizeless ≡ false → is_some inner.sizeless ≡ false
function_sizeless None true inner node empty h = h
function_sizeless None false inner node empty h = h
function_sizeless (Some other) bare inner node empty h = h

resulting_full : (t : Qualified) → is_full t ≡ true → is_full (resulting t) ≡ true
resulting_full (plain of c v) h = h
resulting_full (pointer c v t) h = h
resulting_full (array n t) h = h

-- ---- in a unit

module _ (u : Tree) (texts : List (List ℕ)) (shapes : List Shape) (t : Typing) (h : IsTyping u texts shapes t) (holds : (b : Break) → IsBroken u texts shapes t b → ⊥)
    (shaped : IsShaped u) where
  abbrev IsFull : ℕ → Type 0
  IsFull i = is_some (entry_at t i).own.declarator.sizeless ≡ false → is_full (type_at shapes (entry_at t i).own.derivations) ≡ true

  module _ (i : ℕ) (n : Node) (at : slice_get u.nodes.now i ≡ Some n) (below : (p : ℕ) → p < i → (m : Node) → slice_get u.nodes.now p ≡ Some m → IsFull p) where
    abbrev b : Before
    b = before_in shapes (cut i t)

    inner_full : is_some (declarator_in b.declarator (slice_get n.parts 0)).sizeless ≡ false → is_full (inner_derived b (slice_get n.parts 0)) ≡ true
    inner_full = by (slice_get n.parts 0) refl
      where
        by : (o : Option ℕ) → slice_get n.parts 0 ≡ o → is_some (declarator_in b.declarator o).sizeless ≡ false → is_full (inner_derived b o) ≡ true
        by None is none = refl
        by (Some part) is none =
            let p = shaped.parts i n at 0 part is in
            ap (λ row. is_full (type_at shapes row)) (get_or-take i t.derivations part 0 p.below)
            ∙ below part p.below p.own p.at (sym (ap (λ (d : Declarator). is_some d.sizeless) (declarator_early u texts shapes t h holds i n at part p.below)) ∙ none)

    derived_full : (k : Kind) (spelling : ℕ → List ℕ) → is_some (declarator_by k spelling u.nodes.now b i n).sizeless ≡ false → is_full (derived_by k spelling u.nodes.now b n) ≡ true
    derived_full kind.NameDeclarator spelling none = refl
    derived_full kind.GroupDeclarator spelling none = inner_full none
    derived_full kind.AbstractGroup spelling none = inner_full none
    derived_full kind.PointerDeclarator spelling none = inner_full none
    derived_full kind.AbstractPointer spelling none = inner_full none
    derived_full kind.FunctionDeclarator spelling none =
        resulting_full (inner_derived b (slice_get n.parts 0))
        (inner_full (function_sizeless (declarator_in b.declarator (slice_get n.parts 0)).function (is_hole_type (inner_derived b (slice_get n.parts 0))) (declarator_in b.declarator (slice_get n.parts 0)) i (not (is_some (slice_get n.parts 1))) none))
    derived_full kind.ArrayDeclarator spelling none =
        array_full (declarator_in b.declarator (slice_get n.parts 0)) (bracket_before u.nodes.now n (slice_get n.parts 1)) (size_in b.seen (slice_get n.parts 1)) (inner_derived b (slice_get n.parts 0))
        (counted b.seen (slice_get n.parts 1)) inner_full none
    derived_full kind.AbstractArrayOf spelling none =
        array_full (declarator_in b.declarator (slice_get n.parts 0)) (bracket_before u.nodes.now n (slice_get n.parts 1)) (size_in b.seen (slice_get n.parts 1)) (inner_derived b (slice_get n.parts 0))
        (counted b.seen (slice_get n.parts 1)) inner_full none
    derived_full kind.AbstractArray spelling none =
        array_full name_alone (bracket_before u.nodes.now n (slice_get n.parts 0)) (size_in b.seen (slice_get n.parts 0)) hole (counted b.seen (slice_get n.parts 0)) (λ e. refl) none
    derived_full k spelling none = refl

    node_full : IsFull i
    node_full none =
        let r = ruled u texts shapes t h holds i n at in
        ap is_full r.derived ∙ derived_full n.kind _ (sym (ap (λ (d : Declarator). is_some d.sizeless) r.declarator) ∙ none)

  all_below : (m i : ℕ) → i < m → (n : Node) → slice_get u.nodes.now i ≡ Some n → IsFull i
  all_below zero i low n at = absurd (omega (arith, low))
  all_below (suc m) i low n at = node_full i n at (λ p less. all_below m p (omega (arith, low, less)))

  pub full : (i : ℕ) (n : Node) → slice_get u.nodes.now i ≡ Some n → is_some (entry_at t i).own.declarator.sizeless ≡ false → is_full (type_at shapes (entry_at t i).own.derivations) ≡ true
  full i n at = all_below (suc i) i (omega arith) n at
