-- What a called function gives is nothing or a scalar (K8, K11).
use Rattle.std.proofs.Common.{◌≡◌, ℕ, ℤ, inl, inr, Bool, true, false, ◌||◌, not, List, [], Option, None, Some, length, take, slice_get, slice_index_or, refl, sym, subst, ap, ◌∙◌, arith, if◌then◌else◌}
use Rattle.std.specs.Option.{is_some}
use Rattle.std.proofs.lemmas.Bool.{cases_lt, false≢true, or_parts, not-false}
use Rattle.std.proofs.lemmas.List.{get_or_past, get_or-take, length-take}
use Rattle.cr_syntax.specs.declared.ctype.CType.TheVariants.{Void, Int, Unknown}
use Rattle.cr_syntax.specs.declared.node.Kind.{Kind}
use Rattle.cr_syntax.specs.declared.node.Kind.TheVariants as kind
use Rattle.cr_syntax.specs.declared.node.Node.{Node}
use Rattle.cr_syntax_nodes.proofs.Numbers.{some_at}
use Rattle.cr_check_enclosing.specs.declared.context.Place.{Place}
use Rattle.cr_check_types.specs.declared.shape.Shape.{Shape}
use Rattle.cr_check_types.specs.Types.{Qualified, plain, pointer as to, array, type_at}
use Rattle.cr_check_expressions.specs.declared.least.Break.{Break}
use Rattle.cr_check_expressions.specs.declared.known.Declared.{Declared}
use Rattle.cr_check_expressions.specs.declared.known.Declared.TheVariants.{Object, Enumerator, Function, TypeName, Unclear}
use Rattle.cr_check_expressions.specs.Known.{Signature, a_function, meaning_by, declared_by}
use Rattle.cr_check_declarators.specs.declared.words.Specified.{Specified}
use Rattle.cr_check_declarators.specs.declared.words.Class.{Class}
use Rattle.cr_check_declarators.specs.declared.declarator.Declarator.{Declarator}
use Rattle.cr_check_declarators.specs.declared.enumerators.Enumerated.{Enumerated}
use Rattle.cr_check_declarators.specs.Declarators.{may_return, is_declared, function_fault_of}
use Rattle.cr_check_declarations.specs.declared.tree.Tree.{Tree}
use Rattle.cr_check_declarations.specs.Before.{Before, kind_in, first_in, type_in, specified_in}
use Rattle.cr_check_declarations.specs.Named.{class_of, is_typedef, is_initialised, declares_name, value_by, ordinary_by, ordinary_of, names_ordinary, specifiers_in, constant_by, declared_by as declares_by, declaration_of}
use Rattle.cr_check_declarations.specs.Faults.{Has, has_at, place_of, name_token, whole_faults, may_have_initialiser, initialised_faults, faults_in}
use Rattle.cr_check_unit.specs.declared.typing.Typing.{Typing}
use Rattle.cr_check_unit.specs.Typing.{cut, entry_at, before_in, IsRuledIf, IsTyping}
use Rattle.cr_check_unit.specs.Breaks.{IsNodeBreak, IsBroken}
use Rattle.cr_meaning_typing.specs.Typed.Laws.{HoldsAll}
use Rattle.cr_meaning_typing.specs.Typed.Typing.{has_value}
use Rattle.cr_meaning_typing.proofs.TypedLemmas.Worth.{unbroken}
use Rattle.cr_meaning_types.proofs.KnownLemmas.Declaring.{declarator_holds}
use Rattle.cr_meaning_typing.specs.Calls.Calls.{IsGiven}
use Rattle.cr_meaning_objects.proofs.CalledLemmas.Fitting.{function_holds}
use Rattle.cr_check_signatures.proofs.FunctionsLemmas.Linked.{no_initialiser}

-- the result of a function may be returned
abbrev IsReturned : (ℕ → Qualified) → Declared → Type 0
IsReturned look (Function row more) = may_return (look row) ≡ true
IsReturned look d = Unit {0}

where_said : (look : ℕ → Qualified) (b : Bool) (x y : Declared) → (b ≡ true → IsReturned look x) → IsReturned look y → IsReturned look (if b then x else y)
where_said look true x y h g = h refl
where_said look false x y h g = g

by_value : (look : ℕ → Qualified) (nodes : List Node) (storage : Option Class) (function : Option ℕ) (row : ℕ) → (is_some function ≡ true → may_return (look row) ≡ true) → IsReturned look (value_by nodes storage function row)
by_value look nodes storage None row h = tt
by_value look nodes storage (Some f) row h = h refl

by_specifiers : (look : ℕ → Qualified) (nodes : List Node) (said : ℕ → Specified) (own : Declarator) (row : ℕ) (o : Option ℕ) → (is_some own.function ≡ true → may_return (look row) ≡ true) → IsReturned look (ordinary_by nodes said own row o)
by_specifiers look nodes said own row None h = tt
by_specifiers look nodes said own row (Some s) h =
    where_said look (is_typedef (class_of (said s).storage)) TypeName (value_by nodes (class_of (said s).storage) own.function row) (λ e. tt) (by_value look nodes (class_of (said s).storage) own.function row h)

by_declaration : (look : ℕ → Qualified) (nodes : List Node) (said : ℕ → Specified) (own : Declarator) (row : ℕ) (d : Option ℕ) → ((x : ℕ) → d ≡ Some x → is_some own.function ≡ true → may_return (look row) ≡ true)
    → IsReturned look (ordinary_of nodes said own row d)
by_declaration look nodes said own row None h = tt
by_declaration look nodes said own row (Some x) h =
    where_said look (names_ordinary (kind_in nodes (Some x))) (ordinary_by nodes said own row (specifiers_in nodes (Some x))) Unclear (λ e. by_specifiers look nodes said own row (specifiers_in nodes (Some x)) (h x refl)) tt

by_constant : (look : ℕ → Qualified) (e : Option Enumerated) → IsReturned look (constant_by e)
by_constant look None = tt
by_constant look (Some own) = by own.value
  where
    by : (o : Option ℤ) → IsReturned look (elim o [ None ↦ Unclear | Some value ↦ Enumerator value ])
    by None = tt
    by (Some v) = tt

by_kind : (look : ℕ → Qualified) (k : Kind) (nodes : List Node) (said : ℕ → Specified) (own : Declarator) (row : ℕ) (e : Option Enumerated) (d : Option ℕ)
    → (declares_name k ≡ true → (x : ℕ) → d ≡ Some x → is_some own.function ≡ true → may_return (look row) ≡ true) → IsReturned look (declares_by k nodes said own row e d)
by_kind look kind.Enumerator nodes said own row e d h = by_constant look e
by_kind look k nodes said own row e d h = where_said look (declares_name k) (ordinary_of nodes said own row d) Unclear (λ named. by_declaration look nodes said own row d (h named)) tt

-- ---- the constraints

returned : (own : Declarator) (at : Place) (typedef : Bool) (result : Qualified) → is_some own.function ≡ true → function_fault_of own at typedef result ≡ false → may_return result ≡ true
returned own at typedef result f h =
    let all = sym (ap (λ b. if b then own.misplaced || (not (is_declared at typedef own.empty) || not (may_return result)) else own.misplaced) f) ∙ h in
    let one = or_parts own.misplaced (not (is_declared at typedef own.empty) || not (may_return result)) all in
    let two = or_parts (not (is_declared at typedef own.empty)) (not (may_return result)) one.1 in
    not-false (may_return result) two.1

initialised_holds : (own : Declarator) (said : ℕ → Specified) (u : Tree) (i : ℕ) (n : Node) (d : Option ℕ) → HoldsAll (initialised_faults own said u i n d)
    → may_have_initialiser (place_of u i) (class_of (specified_in said (specifiers_in u.nodes.now d)).storage) (is_some own.function) ≡ true
initialised_holds own said u i n d h =
    let may = may_have_initialiser (place_of u i) (class_of (specified_in said (specifiers_in u.nodes.now d)).storage) (is_some own.function) in
    not-false may (unbroken 11 (first_in u.nodes.now (slice_get n.parts 1)) (not may) [] h)

-- what a declarator breaks it breaks as a whole one
module _ (u : Tree) (texts : List (List ℕ)) (shapes : List Shape) (t : Typing) (h : IsTyping u texts shapes t) (holds : (b : Break) → IsBroken u texts shapes t b → ⊥) where
  abbrev look : ℕ → Qualified
  look = type_at shapes

  module _ (p : ℕ) (n : Node) (at : slice_get u.nodes.now p ≡ Some n) where
    abbrev own : Has
    own = has_at shapes (entry_at t p).own

    abbrev before : Before
    before = before_in shapes (cut p t)

    abbrev above : Option ℕ
    above = declaration_of u.nodes.now u.above.now p

    pub all : HoldsAll (faults_in n.kind own before u p n)
    all b among = holds b (record { node = p; among = subst (λ o. IsNodeBreak u texts shapes (cut p t) (entry_at t p) p o b) (sym at) (inr (inl among)) })

    whole_returned : (o : Option ℕ) → HoldsAll (whole_faults own before u p o) → (x : ℕ) → o ≡ Some x → is_some own.declarator.function ≡ true → may_return own.named ≡ true
    whole_returned None f x e function = absurd (cc e)
    whole_returned (Some d) f x e function =
        let storage = class_of (specified_in before.specified (specifiers_in u.nodes.now (Some d))).storage in
        returned own.declarator (place_of u p) (is_typedef storage) own.named function
        (function_holds own before u.nodes.now p (place_of u p) storage (is_initialised (kind_in u.nodes.now (slice_index_or u.above.now p None))) (type_in before.named (specifiers_in u.nodes.now (Some d)))
        (name_token u.nodes.now p (Some d)) f)

    pub of_kind : (k : Kind) → n.kind ≡ k → declares_name k ≡ true → (x : ℕ) → above ≡ Some x → is_some own.declarator.function ≡ true → may_return own.named ≡ true
    of_kind kind.InitDeclarator is d x e function =
        let held = initialised_holds own.declarator before.specified u p n above (subst (λ k. HoldsAll (faults_in k own before u p n)) is all) in
        let storage = class_of (specified_in before.specified (specifiers_in u.nodes.now above)).storage in
        absurd (false≢true (sym (no_initialiser (place_of u p) storage (is_some own.declarator.function) function) ∙ held))
    of_kind k is d x e function = whole_returned above (declarator_holds k own before u p n d (subst (λ k. HoldsAll (faults_in k own before u p n)) is all)) x e function

    at_node : IsReturned look (slice_index_or t.declared p Unclear)
    at_node =
        let ruled = subst (IsRuledIf u texts shapes (cut p t) (entry_at t p) p) at (h.each p) in
        subst (IsReturned look) (sym ruled.declared)
        (by_kind look n.kind u.nodes.now before.specified (entry_at t p).own.declarator (entry_at t p).own.named (entry_at t p).own.enumerated above (of_kind n.kind refl))

  at_all : (p : ℕ) → IsReturned look (slice_index_or t.declared p Unclear)
  at_all p = elim (cases_lt p (length u.nodes.now)) [
    | inl few ↦ (let n = some_at u.nodes.now p few in at_node p n.0 n.1)
    | inr past ↦ (let count = h.whole.declared in subst (IsReturned look) (sym (get_or_past t.declared p Unclear (omega (arith, past, count)))) tt)
  ]

  before_all : (i : ℕ) (o : Option ℕ) → IsReturned look (declared_by (take i t.declared) o)
  before_all i None = tt
  before_all i (Some p) = elim (cases_lt p i) [
    | inl low ↦ subst (IsReturned look) (sym (get_or-take i t.declared p Unclear low)) (at_all p)
    | inr high ↦ (let few = length-take i t.declared in subst (IsReturned look) (sym (get_or_past (take i t.declared) p Unclear (omega (arith, few, high)))) tt)
  ]

  -- what a name stands for as a function
  function_returned : (rows : List ℕ) (d : Declared) (s : Signature) → IsReturned look d → meaning_by look rows d ≡ a_function s → may_return s.gives ≡ true
  function_returned rows (Function row more) s g e = let same = gives_of e in ap may_return (sym same) ∙ g
    where
      gives_of : meaning_by look rows (Function row more) ≡ a_function s → look row ≡ s.gives
      gives_of e = cc e
  function_returned rows (Object row register) s g e = absurd (cc e)
  function_returned rows (Enumerator value) s g e = absurd (cc e)
  function_returned rows TypeName s g e = absurd (cc e)
  function_returned rows Unclear s g e = absurd (cc e)

  pub function_gives : (i : ℕ) (o : Option ℕ) (rows : List ℕ) (s : Signature) → meaning_by look rows (declared_by (take i t.declared) o) ≡ a_function s → may_return s.gives ≡ true
  function_gives i o rows s e = function_returned rows (declared_by (take i t.declared) o) s (before_all i o) e

-- with a type that is known it is nothing or a scalar
pub returned_given : (type : Qualified) → may_return type ≡ true → has_value type ≡ true → IsGiven type
returned_given (plain Void c v) r h = tt
returned_given (plain (Int k) c v) r h = tt
returned_given (plain Unknown c v) r h = absurd (false≢true h)
returned_given (plain of c v) r h = absurd (false≢true r)
returned_given (to c v below) r h = tt
returned_given (array n below) r h = absurd (false≢true r)
