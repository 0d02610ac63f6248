-- The sizes of arrays and the values of enumerators are those of expressions that have a type (C11 6.7.6.2, 6.7.2.2, K7, K15).
use Rattle.std.proofs.Common.{◌≡◌, ℕ, ◌<◌, ◌==◌, inl, inr, pos, negsuc, Bool, true, false, not, List, [], Option, None, Some, nat_lt, take, slice_get, slice_index_or, refl, sym, ap, subst, ◌∙◌, ◌-◌, ◌^◌, arith, if◌then◌else◌}
use Rattle.std.specs.Option.{is_some}
use Rattle.std.proofs.lemmas.Bool.{false≢true, not-false, cases_lt}
use Rattle.std.proofs.lemmas.List.{get_or_past, get_or-take, length-take}
use Rattle.std.proofs.lemmas.Option.{slice_get_within}
use Rattle.cr_syntax.specs.declared.node.Kind.{Kind}
use Rattle.cr_syntax.specs.declared.node.Kind.TheVariants as kind
use Rattle.cr_syntax.specs.declared.node.Node.{Node}
use Rattle.cr_syntax_nodes.proofs.Numbers.{some_at}
use Rattle.cr_check_constants.specs.declared.constant.Constant.{Constant}
use Rattle.cr_check_constants.specs.declared.constant.Constant.TheVariants.{NotConstant, Undefined, Value}
use Rattle.cr_check_types.specs.declared.shape.Shape.{Shape}
use Rattle.cr_check_operands.specs.Values.{Seen, seen_at}
use Rattle.cr_check_expressions.specs.declared.least.Break.{Break}
use Rattle.cr_check_expressions.specs.Forms.{form_of}
use Rattle.cr_check_expressions.specs.Ruled.{is_typed, facts_at, no_fact}
use Rattle.cr_check_declarators.specs.declared.declarator.Size.{Size}
use Rattle.cr_check_declarators.specs.declared.declarator.Size.TheVariants as size
use Rattle.cr_check_declarators.specs.declared.declarator.Declarator.{Declarator}
use Rattle.cr_check_declarators.specs.declared.enumerators.Enumerated.{Enumerated}
use Rattle.cr_check_declarators.specs.declared.enumerators.Given.{Given}
use Rattle.cr_check_declarators.specs.declared.enumerators.Given.TheVariants as given
use Rattle.cr_check_declarators.specs.Declarators.{name_alone, size_of, constant_size, array_of, function_by, is_hole_type}
use Rattle.cr_check_declarators.specs.Structures.{value_by, is_missing}
use Rattle.cr_check_declarations.specs.declared.tree.Tree.{Tree}
use Rattle.cr_check_declarations.specs.Before.{Before, declarator_in, enumerated_in}
use Rattle.cr_check_declarations.specs.Declarators.{size_in, inner_derived, bracket_before, declarator_by}
use Rattle.cr_check_declarations.specs.Contents.{given_by, given_in, enumerator_by}
use Rattle.cr_check_declarations.specs.Named.{is_declarator, declares_name}
use Rattle.cr_check_declarations.specs.Faults.{has_at, faults_in, enumerator_breaks}
use Rattle.cr_check_unit.specs.declared.typing.Typing.{Typing}
use Rattle.cr_check_unit.specs.Typing.{cut, entry_at, before_in, IsTyping}
use Rattle.cr_check_unit.specs.Breaks.{IsBroken}
use Rattle.cr_meaning_typing.specs.Typed.Laws.{HoldsAll}
use Rattle.cr_meaning_typing.specs.Typed.Typing.{is_expression}
use Rattle.cr_meaning_typing.proofs.TypedLemmas.Worth.{worth_typed, unbroken}
use Rattle.cr_meaning_types.specs.Known.Shaped.{fits, IsShaped}
use Rattle.cr_meaning_types.specs.Known.Known.{is_enumerator, IsNumbered, IsKnown}
use Rattle.cr_meaning_types.proofs.KnownLemmas.Naming.{both, holds_all, ruled, declarator_early}

-- ---- sizes

abbrev is_untyped : Size → Bool
is_untyped size.Untyped = true
is_untyped s = false

either_size : (b : Bool) (x y : Size) → is_untyped x ≡ false → is_untyped y ≡ false → is_untyped (if b then x else y) ≡ false
either_size true x y e f = e
either_size false x y e f = f

constant_sized : (c : Constant) → is_untyped (constant_size c) ≡ false
constant_sized NotConstant = refl
constant_sized Undefined = refl
constant_sized (Value (pos number)) = either_size (number == 0) size.Wrong _ refl (either_size (nat_lt (2 ^ 64 - 1) number) size.Wrong (size.Known number) refl refl)
constant_sized (Value (negsuc number)) = refl

typed_size : (typed : Bool) (c : Constant) → typed ≡ true → is_untyped (size_of typed c) ≡ false
typed_size true c e = constant_sized c
typed_size false c e = absurd (false≢true e)

array_sized : (inner : Declarator) (bracket : ℕ) (s : Size) → is_untyped s ≡ false → inner.untyped ≡ false → (array_of inner bracket s).untyped ≡ false
array_sized inner bracket size.Open e h = h
array_sized inner bracket size.Untyped e h = absurd (false≢true (sym e))
array_sized inner bracket size.Wrong e h = h
array_sized inner bracket (size.Known count) e h = h

function_sized : (o : Option ℕ) (bare : Bool) (inner : Declarator) (node : ℕ) (empty : Bool) → inner.untyped ≡ false → (function_by o bare inner node empty).untyped ≡ false
function_sized None true inner node empty h = h
function_sized None false inner node empty h = h
function_sized (Some other) bare inner node empty h = h

pub declarator_names : (k : Kind) → is_declarator k ≡ true → declares_name k ≡ true
declarator_names kind.InitDeclarator e = refl
declarator_names k e = e

-- ---- enumerators

abbrev is_untyped_given : Given → Bool
is_untyped_given given.Untyped = true
is_untyped_given g = false

abbrev IsNumberedIf : Option Enumerated → Type 0
IsNumberedIf None = Unit {0}
IsNumberedIf (Some last) = is_some last.value ≡ true

numbered : (before : Option Enumerated) (g : Given) → IsNumberedIf before → is_untyped_given g ≡ false → is_missing before g (value_by before g) ≡ false → is_some (value_by before g) ≡ true
numbered before given.Untyped h e f = absurd (false≢true (sym e))
numbered (Some last) given.Nothing h e f = both (is_some last.value) (is_some (value_by (Some last) given.Nothing)) f h
numbered None given.Nothing h e f = refl
numbered before (given.Expression c) h e f = not-false (is_some (value_by before (given.Expression c))) f

given_typed : (seen : Seen) → is_typed seen ≡ true → is_untyped_given (given_by seen) ≡ false
given_typed seen e = by (is_typed seen) e
  where
    by : (b : Bool) → b ≡ true → is_untyped_given (elim b [ false ↦ given.Untyped | Bool.true ↦ given.Expression seen.constant ]) ≡ false
    by true f = refl
    by false f = absurd (false≢true f)

no_enumerator : (k : Kind) (b : Before) (previous : Option ℕ) (n : Node) → is_enumerator k ≡ false → enumerator_by k b previous n ≡ None
no_enumerator kind.Enumerator b previous n e = absurd (false≢true (sym e))
no_enumerator k b previous n e = refl

-- ---- in a unit

module _ (u : Tree) (texts : List (List ℕ)) (shapes : List Shape) (t : Typing) (h : IsTyping u texts shapes t) (holds : (b : Break) → IsBroken u texts shapes t b → ⊥)
    (shaped : IsShaped u) (i : ℕ) (n : Node) (at : slice_get u.nodes.now i ≡ Some n)
    (below : (p : ℕ) → p < i → (m : Node) → slice_get u.nodes.now p ≡ Some m → IsKnown u shapes t p m) where
  abbrev b : Before
  b = before_in shapes (cut i t)

  -- an expression in a place where one stands
  part_typed : (place part : ℕ) → ((own : Kind) → fits n.kind place own ≡ is_expression (form_of own)) → slice_get n.parts place ≡ Some part → is_typed (b.seen part) ≡ true
  part_typed place part stands is =
      let p = shaped.parts i n at place part is in
      ap is_typed (ap (seen_at shapes) (get_or-take i t.facts part no_fact p.below))
      ∙ worth_typed (facts_at shapes t.facts part).type ((below part p.below p.own p.at).expression (sym (stands p.own.kind) ∙ p.fits))

  size_typed : (place : ℕ) → ((own : Kind) → fits n.kind place own ≡ is_expression (form_of own)) → is_untyped (size_in b.seen (slice_get n.parts place)) ≡ false
  size_typed place stands = by (slice_get n.parts place) refl
    where
      by : (o : Option ℕ) → slice_get n.parts place ≡ o → is_untyped (size_in b.seen o) ≡ false
      by None is = refl
      by (Some part) is = typed_size (is_typed (b.seen part)) (b.seen part).constant (part_typed place part stands is)

  inner_sized : ((own : Kind) → fits n.kind 0 own ≡ is_declarator own) → (declarator_in b.declarator (slice_get n.parts 0)).untyped ≡ false
  inner_sized stands = by (slice_get n.parts 0) refl
    where
      by : (o : Option ℕ) → slice_get n.parts 0 ≡ o → (declarator_in b.declarator o).untyped ≡ false
      by None is = refl
      by (Some part) is =
          let p = shaped.parts i n at 0 part is in
          ap (λ (d : Declarator). d.untyped) (declarator_early u texts shapes t h holds i n at part p.below)
          ∙ (below part p.below p.own p.at).sized (declarator_names p.own.kind (sym (stands p.own.kind) ∙ p.fits))

  sized_by : (k : Kind) (spelling : ℕ → List ℕ) → n.kind ≡ k → declares_name k ≡ true → (declarator_by k spelling u.nodes.now b i n).untyped ≡ false
  sized_by kind.InitDeclarator spelling is e = inner_sized (λ own. ap (λ c. fits c 0 own) is)
  sized_by kind.NameDeclarator spelling is e = refl
  sized_by kind.GroupDeclarator spelling is e = inner_sized (λ own. ap (λ c. fits c 0 own) is)
  sized_by kind.PointerDeclarator spelling is e = inner_sized (λ own. ap (λ c. fits c 0 own) is)
  sized_by kind.ArrayDeclarator spelling is e =
      array_sized (declarator_in b.declarator (slice_get n.parts 0)) (bracket_before u.nodes.now n (slice_get n.parts 1)) (size_in b.seen (slice_get n.parts 1))
      (size_typed 1 (λ own. ap (λ c. fits c 1 own) is)) (inner_sized (λ own. ap (λ c. fits c 0 own) is))
  sized_by kind.FunctionDeclarator spelling is e =
      function_sized (declarator_in b.declarator (slice_get n.parts 0)).function (is_hole_type (inner_derived b (slice_get n.parts 0))) (declarator_in b.declarator (slice_get n.parts 0)) i
      (not (is_some (slice_get n.parts 1))) (inner_sized (λ own. ap (λ c. fits c 0 own) is))
  sized_by kind.AbstractGroup spelling is e = inner_sized (λ own. ap (λ c. fits c 0 own) is)
  sized_by kind.AbstractPointer spelling is e = inner_sized (λ own. ap (λ c. fits c 0 own) is)
  sized_by kind.AbstractArray spelling is e =
      array_sized name_alone (bracket_before u.nodes.now n (slice_get n.parts 0)) (size_in b.seen (slice_get n.parts 0)) (size_typed 0 (λ own. ap (λ c. fits c 0 own) is)) refl
  sized_by kind.AbstractArrayOf spelling is e =
      array_sized (declarator_in b.declarator (slice_get n.parts 0)) (bracket_before u.nodes.now n (slice_get n.parts 1)) (size_in b.seen (slice_get n.parts 1))
      (size_typed 1 (λ own. ap (λ c. fits c 1 own) is)) (inner_sized (λ own. ap (λ c. fits c 0 own) is))
  sized_by k spelling is e = absurd (false≢true e)

  pub sized_known : declares_name n.kind ≡ true → (entry_at t i).own.declarator.untyped ≡ false
  sized_known e = ap (λ (d : Declarator). d.untyped) (ruled u texts shapes t h holds i n at).declarator ∙ sized_by n.kind _ refl e

  -- the enumerator before has a value
  before_numbered : (o : Option ℕ) → IsNumberedIf (enumerated_in b.enumerated o)
  before_numbered None = tt
  before_numbered (Some q) = elim (cases_lt q i) [
    | inl low ↦ (let m = some_at u.nodes.now q (let all = slice_get_within u.nodes.now i n at in omega (arith, low, all)) in subst IsNumberedIf (sym (get_or-take i t.enumerated q None low)) (of_kind low m.0 m.1 (is_enumerator m.0.kind) refl))
    | inr high ↦ (let few = length-take i t.enumerated in subst IsNumberedIf (sym (get_or_past (take i t.enumerated) q None (omega (arith, few, high)))) tt)
  ]
    where
      as_if : (o : Option Enumerated) → IsNumbered o → IsNumberedIf o
      as_if None x = tt
      as_if (Some last) x = x

      of_kind : q < i → (m : Node) → slice_get u.nodes.now q ≡ Some m → (e : Bool) → is_enumerator m.kind ≡ e → IsNumberedIf (slice_index_or t.enumerated q None)
      of_kind low m there true f = as_if (slice_index_or t.enumerated q None) ((below q low m there).enumerator f)
      of_kind low m there false f =
          subst IsNumberedIf (sym ((ruled u texts shapes t h holds q m there).enumerated ∙ no_enumerator m.kind (before_in shapes (cut q t)) (slice_index_or u.previous.now q None) m f)) tt

  enumerated_by : (k : Kind) → n.kind ≡ k → is_enumerator k ≡ true → HoldsAll (faults_in k (has_at shapes (entry_at t i).own) b u i n)
      → (entry_at t i).own.enumerated ≡ enumerator_by k b (slice_index_or u.previous.now i None) n → IsNumbered (entry_at t i).own.enumerated
  enumerated_by kind.Enumerator is e broken own =
      let before = enumerated_in b.enumerated (slice_index_or u.previous.now i None) in
      let g = given_in b.seen (slice_get n.parts 0) in
      subst IsNumbered (sym own)
      (numbered before g (before_numbered (slice_index_or u.previous.now i None)) (typed_given (slice_get n.parts 0) refl) (sym (ap enumerator_breaks own) ∙ unbroken 15 n.first (enumerator_breaks (entry_at t i).own.enumerated) [] broken))
    where
      typed_given : (o : Option ℕ) → slice_get n.parts 0 ≡ o → is_untyped_given (given_in b.seen o) ≡ false
      typed_given None f = refl
      typed_given (Some part) f = given_typed (b.seen part) (part_typed 0 part (λ own. ap (λ c. fits c 0 own) is) f)
  enumerated_by k is e broken own = absurd (false≢true e)

  pub enumerated_known : is_enumerator n.kind ≡ true → IsNumbered (entry_at t i).own.enumerated
  enumerated_known e = enumerated_by n.kind refl e (holds_all u texts shapes t h holds i n at) (ruled u texts shapes t h holds i n at).enumerated
