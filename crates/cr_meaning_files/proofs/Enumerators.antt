-- The values of enumerators lie in int (C11 6.7.2.2p2).
use Rattle.std.proofs.Common.{◌≡◌, ℕ, ℤ, pos, inl, inr, Bool, true, false, List, Option, None, Some, length, take, refl, sym, ap, subst, ◌∙◌, slice_get, slice_index_or, arith, if◌then◌else◌, ◌+ℤ◌}
use Rattle.std.proofs.lemmas.Bool.{cases_lt, false≢true, true≢false}
use Rattle.std.proofs.lemmas.List.{get_or_past, get_or-take, length-take}
use Rattle.cr_ints.specs.declared.kind.IntKind.TheVariants.{Int as IntegerKind}
use Rattle.cr_ints.specs.IntKind.{Represents}
use Rattle.cr_syntax.specs.declared.node.Kind.{Kind}
use Rattle.cr_syntax.specs.declared.node.Kind.TheVariants as kind
use Rattle.cr_syntax.specs.declared.node.Node.{Node}
use Rattle.cr_syntax_nodes.proofs.Numbers.{some_at}
use Rattle.cr_check_types.specs.declared.shape.Shape.{Shape}
use Rattle.cr_check_types.specs.Types.{Qualified}
use Rattle.cr_check_constants.specs.declared.constant.Constant.TheVariants.{Value}
use Rattle.cr_check_constants.specs.declared.constant.Operand.{Operand}
use Rattle.cr_check_operands.specs.Values.{Seen, number as a_number}
use Rattle.cr_check_expressions.specs.declared.known.Declared.{Declared}
use Rattle.cr_check_expressions.specs.declared.known.Declared.TheVariants.{Object, Enumerator, Function, TypeName, Unclear}
use Rattle.cr_check_expressions.specs.Known.{meaning_by, declared_by}
use Rattle.cr_check_expressions.specs.Ruled.{given, named_by, is_type}
use Rattle.cr_check_declarators.specs.declared.words.Specified.{Specified}
use Rattle.cr_check_declarators.specs.declared.words.Class.{Class}
use Rattle.cr_check_declarators.specs.declared.declarator.Declarator.{Declarator}
use Rattle.cr_check_declarators.specs.declared.enumerators.Enumerated.{Enumerated}
use Rattle.cr_check_declarators.specs.declared.enumerators.Given.{Given}
use Rattle.cr_check_declarators.specs.declared.enumerators.Given.TheVariants as given_by
use Rattle.cr_check_declarators.specs.Structures.{next_of, enumerated_of, value_by as value_of_enumerator}
use Rattle.cr_check_declarations.specs.Before.{enumerated_in, kind_in}
use Rattle.cr_check_declarations.specs.Contents.{enumerator_by, given_in}
use Rattle.cr_check_declarations.specs.declared.tree.Tree.{Tree}
use Rattle.cr_check_declarations.specs.Named.{class_of, is_typedef, value_by, ordinary_by, ordinary_of, names_ordinary, specifiers_in, constant_by, named_declared, declares_name, declared_by as declares_by, declaration_of}
use Rattle.cr_check_constant_values.proofs.RangesLemmas.Ranges.{enumerators}
use Rattle.cr_check_unit.specs.declared.typing.Typing.{Typing}
use Rattle.cr_check_unit.specs.Typing.{cut, entry_at, before_in, IsRuled, IsRuledIf, IsTyping}
use Rattle.cr_meaning_operations.specs.Shapes.{kind_in as kind_of_type}

-- a value that is there lies in int
abbrev IsInt : Option ℤ → Type 0
IsInt None = Unit {0}
IsInt (Some v) = Represents IntegerKind v

next_is : (o : Option ℤ) → IsInt (next_of o)
next_is None = tt
next_is (Some v) = by (next_of (Some v)) refl
  where
    by : (o : Option ℤ) → next_of (Some v) ≡ o → IsInt o
    by None e = tt
    by (Some w) e = enumerators (Value (v +ℤ pos 1)) w e

value_is : (before : Option Enumerated) (g : Given) → IsInt (value_of_enumerator before g)
value_is before (given_by.Expression c) = by (value_of_enumerator before (given_by.Expression c)) refl
  where
    by : (o : Option ℤ) → value_of_enumerator before (given_by.Expression c) ≡ o → IsInt o
    by None e = tt
    by (Some w) e = enumerators c w e
value_is before given_by.Untyped = tt
value_is (Some last) given_by.Nothing = next_is last.value
value_is None given_by.Nothing = enumerators (Value (pos 0)) (pos 0) refl

-- ---- what nodes declare

abbrev pub IsNumbered : Declared → Type 0
IsNumbered (Enumerator v) = Represents IntegerKind v
IsNumbered d = Unit {0}

either : (b : Bool) (x y : Declared) → IsNumbered x → IsNumbered y → IsNumbered (if b then x else y)
either true x y h g = h
either false x y h g = g

by_value : (nodes : List Node) (storage : Option Class) (function : Option ℕ) (row : ℕ) → IsNumbered (value_by nodes storage function row)
by_value nodes storage None row = tt
by_value nodes storage (Some function) row = tt

by_class : (nodes : List Node) (said : ℕ → Specified) (own : Declarator) (row : ℕ) (o : Option ℕ) → IsNumbered (ordinary_by nodes said own row o)
by_class nodes said own row None = tt
by_class nodes said own row (Some specifiers) =
    either (is_typedef (class_of (said specifiers).storage)) TypeName (value_by nodes (class_of (said specifiers).storage) own.function row) tt
    (by_value nodes (class_of (said specifiers).storage) own.function row)

by_name : (k : Kind) (nodes : List Node) (said : ℕ → Specified) (own : Declarator) (row : ℕ) (d : Option ℕ) → IsNumbered (named_declared k nodes said own row d)
by_name k nodes said own row d =
    either (declares_name k) (ordinary_of nodes said own row d) Unclear
    (either (names_ordinary (kind_in nodes d)) (ordinary_by nodes said own row (specifiers_in nodes d)) Unclear (by_class nodes said own row (specifiers_in nodes d)) tt) tt

by_constant : (e : Option Enumerated) → ((own : Enumerated) → e ≡ Some own → IsInt own.value) → IsNumbered (constant_by e)
by_constant None h = tt
by_constant (Some own) h = by own.value (h own refl)
  where
    by : (o : Option ℤ) → IsInt o → IsNumbered (elim o [ None ↦ Unclear | Some value ↦ Enumerator value ])
    by None g = tt
    by (Some v) g = g

declares : (k : Kind) (nodes : List Node) (said : ℕ → Specified) (own : Declarator) (row : ℕ) (e : Option Enumerated) (d : Option ℕ) → (k ≡ kind.Enumerator → (x : Enumerated) → e ≡ Some x → IsInt x.value)
    → IsNumbered (declares_by k nodes said own row e d)
declares kind.Enumerator nodes said own row e d h = by_constant e (h refl)
declares k nodes said own row e d h = by_name k nodes said own row d

module _ (u : Tree) (texts : List (List ℕ)) (shapes : List Shape) (t : Typing) (h : IsTyping u texts shapes t) where
  numbered : (p : ℕ) → IsNumbered (slice_index_or t.declared p Unclear)
  numbered p = elim (cases_lt p (length u.nodes.now)) [
    | inl few ↦ (let n = some_at u.nodes.now p few in at n.0 n.1)
    | inr past ↦ (let count = h.whole.declared in subst IsNumbered (sym (get_or_past t.declared p Unclear (omega (arith, past, count)))) tt)
  ]
    where
      at : (n : Node) → slice_get u.nodes.now p ≡ Some n → IsNumbered (slice_index_or t.declared p Unclear)
      at n e =
          let ruled = subst (IsRuledIf u texts shapes (cut p t) (entry_at t p) p) e (h.each p) in
          subst IsNumbered (sym ruled.declared)
          (declares n.kind u.nodes.now (before_in shapes (cut p t)).specified (entry_at t p).own.declarator (entry_at t p).own.named (entry_at t p).own.enumerated (declaration_of u.nodes.now u.above.now p)
          (λ is x f. valued n ruled is x f))
        where
          valued : (n : Node) → IsRuled u texts shapes (cut p t) (entry_at t p) p n → n.kind ≡ kind.Enumerator → (x : Enumerated) → (entry_at t p).own.enumerated ≡ Some x → IsInt x.value
          valued n ruled is x f =
              let made = sym f ∙ ruled.enumerated ∙ ap (λ k. enumerator_by k (before_in shapes (cut p t)) (slice_index_or u.previous.now p None) n) is in
              let own : x ≡ enumerated_of (enumerated_in (before_in shapes (cut p t)).enumerated (slice_index_or u.previous.now p None)) (given_in (before_in shapes (cut p t)).seen (slice_get n.parts 0)) = cc made in
              subst (λ (y : Enumerated). IsInt y.value) (sym own)
              (value_is (enumerated_in (before_in shapes (cut p t)).enumerated (slice_index_or u.previous.now p None)) (given_in (before_in shapes (cut p t)).seen (slice_get n.parts 0)))

  -- before a node too
  numbered_before : (i p : ℕ) → IsNumbered (slice_index_or (take i t.declared) p Unclear)
  numbered_before i p = elim (cases_lt p i) [
    | inl low ↦ subst IsNumbered (sym (get_or-take i t.declared p Unclear low)) (numbered p)
    | inr high ↦ (let few = length-take i t.declared in subst IsNumbered (sym (get_or_past (take i t.declared) p Unclear (omega (arith, few, high)))) tt)
  ]

  pub numbered_by : (i : ℕ) (o : Option ℕ) → IsNumbered (declared_by (take i t.declared) o)
  numbered_by i None = tt
  numbered_by i (Some p) = numbered_before i p

-- ---- what names of them have

-- a name that has a number has that of its enumerator
pub named_number : (look : ℕ → Qualified) (rows : List ℕ) (d : Declared) (x : Operand) (v : ℤ) → IsNumbered d → named_by (meaning_by look rows d) ≡ given (a_number x) → x.constant ≡ Value v → Represents x.kind v
named_number look rows (Object row register) x v h e f = absurd (true≢false (ap (λ (s : Seen). s.lvalue) e))
named_number look rows (Enumerator w) x v h e f =
    let kinds : IntegerKind ≡ x.kind = ap (λ (s : Seen). kind_of_type s.type) e in
    let constants : Value w ≡ x.constant = ap (λ (s : Seen). s.constant) e in
    let same : w ≡ v = (let both = constants ∙ f in cc both) in
    subst (λ k. Represents k v) kinds (subst (Represents IntegerKind) same h)
named_number look rows (Function row more) x v h e f = absurd (false≢true (ap (λ (s : Seen). is_type s.type) e))
named_number look rows TypeName x v h e f = absurd (false≢true (ap (λ (s : Seen). is_type s.type) e))
named_number look rows Unclear x v h e f = absurd (false≢true (ap (λ (s : Seen). is_type s.type) e))
