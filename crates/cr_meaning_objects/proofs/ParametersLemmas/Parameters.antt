-- A definition enters an object for each parameter in the list of its function, with the word of its type (C11 6.9.1p7).
use Rattle.std.proofs.Common.{◌≡◌, ℕ, ℤ, zero, suc, ◌+◌, ◌-◌, ◌<◌, ◌&&◌, ◌||◌, inl, inr, Bool, true, false, not, List, [], ◌∷◌, ◌++◌, Option, None, Some, length, map, option_to_list, slice_get, slice_index_or, refl, sym, ap, subst, ◌∙◌, arith, if◌then◌else◌}
use Rattle.std.specs.List.{flat_map, list_any}
use Rattle.std.specs.Option.{is_some}
use Rattle.std.proofs.lemmas.Bool.{cases_lt, false≢true, or_parts, not-false, not-true}
use Rattle.std.proofs.lemmas.Option.{slice_get_within}
use Rattle.cr_syntax.specs.declared.node.Kind.{Kind}
use Rattle.cr_syntax.specs.declared.node.Kind.TheVariants as kind
use Rattle.cr_syntax.specs.declared.node.Node.{Node}
use Rattle.cr_syntax.specs.declared.part.Part.{Part}
use Rattle.cr_syntax.specs.Tables.{rule_of, side_of}
use Rattle.cr_syntax.specs.Kept.{row_in}
use Rattle.cr_syntax_nodes.specs.Laid.{stands_for}
use Rattle.cr_scopes_events.specs.declared.declarator.Derivation.TheVariants as derivation
use Rattle.cr_scopes_events.specs.declared.declarator.Declarator.{Declarator as Named}
use Rattle.cr_scopes_events.specs.Values.{before}
use Rattle.cr_scopes_events.specs.Declarators.{nowhere, declared_by as names_by, declared_if, declarator_of}
use Rattle.cr_scopes_events.proofs.Descents.{declarator_ruled}
use Rattle.cr_scopes_events.specs.Scripts as scripts
use Rattle.cr_scopes_linkage.specs.Shared.Origins.{IsDeclarer}
use Rattle.cr_check_enclosing.specs.declared.context.Around.{Around}
use Rattle.cr_check_enclosing.specs.declared.context.Place.{Place}
use Rattle.cr_check_enclosing.specs.declared.context.Place.TheVariants as place
use Rattle.cr_check_enclosing.specs.Around.{outermost, inside}
use Rattle.cr_check_types.specs.Types.{Qualified, type_at}
use Rattle.cr_check_types.specs.Relations.{is_complete_at}
use Rattle.cr_check_expressions.specs.declared.known.Declared.{Declared}
use Rattle.cr_check_expressions.specs.declared.known.Declared.TheVariants.{Enumerator, TypeName, Unclear}
use Rattle.cr_check_expressions.specs.declared.least.Break.{Break}
use Rattle.cr_check_expressions.specs.Breaks.{fault, argument_faults}
use Rattle.cr_check_declarators.specs.declared.words.Specified.{Specified}
use Rattle.cr_check_declarators.specs.declared.words.Class.{Class}
use Rattle.cr_check_declarators.specs.declared.declarator.Declarator.{Declarator}
use Rattle.cr_check_declarators.specs.declared.enumerators.Enumerated.{Enumerated}
use Rattle.cr_check_declarators.specs.Specifiers.{is_member}
use Rattle.cr_check_declarators.specs.Functions.{adjusted_type}
use Rattle.cr_check_declarators.specs.Declarators.{name_alone, is_declared, may_return, declared_type, whole_object, function_fault_of, open_fault_of}
use Rattle.cr_check_declarations.specs.declared.tree.Tree.{Tree}
use Rattle.cr_check_declarations.specs.Before as early
use Rattle.cr_check_declarations.specs.Before.{Before, kind_in, type_in, specified_in, declarator_in}
use Rattle.cr_check_declarations.specs.Named as declarations
use Rattle.cr_check_declarations.specs.Named.{is_declarator, is_initialised, is_declaration, is_parameter, is_typedef, class_of, type_by, named_by, value_by, ordinary_by, ordinary_of, names_ordinary, specifiers_in, constant_by, declared_by, declares_name, declaration_of}
use Rattle.cr_check_declarations.specs.Faults.{Has, has_at, fault_at, token_if, place_of, name_or, name_in, list_in, name_token, is_nameless, is_specifier, parameter_name, parameter_fault, parameter_faults, definition_faults, declarator_faults, whole_faults, faults_in}
use Rattle.cr_check_unit.specs.Typing.{cut, entry_at, before_in}
use Rattle.cr_check_unit.specs.Breaks.{IsBroken}
use Rattle.cr_check_signatures.specs.Functions.Outlines.{head}
use Rattle.cr_check_signatures.proofs.FunctionsLemmas.Linked.{is_function}
use Rattle.cr_typed.specs.declared.typed.Typed.{Typed}
use Rattle.cr_typed_columns.specs.Reading.{Parsed, parsed_of, part_of, entry_of}
use Rattle.cr_typed_columns.specs.Entities as entities
use Rattle.cr_typed_columns.specs.Functions as functions
use Rattle.cr_meaning_typing.specs.Typed.Laws.{HoldsAll}
use Rattle.cr_meaning_typing.proofs.TypedLemmas.Worth.{unbroken}
use Rattle.cr_meaning_operations.specs.Shapes.{named_type}
use Rattle.cr_meaning_operations.specs.Operations.{kind_if, kind_at}
use Rattle.cr_meaning_declarations.proofs.UnitsLemmas.Rows.{clear_side, clear_laid, clear_at}
use Rattle.cr_meaning_declarations.proofs.UnitsLemmas.Handing.{laid_at, parts_below}
use Rattle.cr_meaning_declarations.specs.Declared.Files.{IsUnitOfFile}
use Rattle.cr_meaning_declarations.proofs.DeclaredLemmas.Bodies.{listed_at}
use Rattle.cr_meaning_declarations.proofs.DeclaredLemmas.Files.{has_unit}
use Rattle.cr_meaning_types.specs.Known.Shaped.{is_parameter_kind, fits, IsPart}
use Rattle.cr_meaning_types.proofs.KnownLemmas.Naming.{both, declaration_here, ruled, holds_all, declarator_early, named_early}
use Rattle.cr_meaning_types.proofs.KnownLemmas.Declaring.{declarator_holds}
use Rattle.cr_meaning_types.proofs.KnownLemmas.Listing.{specified_parameter as parameter_kind}
use Rattle.cr_meaning_objects.specs.Parameters.Laws
use Rattle.cr_meaning_objects.specs.Parameters.Laws.{AreParameters}
use Rattle.cr_meaning_objects.proofs.ParametersLemmas.Heads.{head_adjusted, adjusted_twice, named_head}
use Rattle.cr_meaning_objects.proofs.ParametersLemmas.Lists as lists
use Rattle.cr_meaning_objects.proofs.ParametersLemmas.Lists.{IsList, good}
use Rattle.cr_meaning_objects.proofs.ParametersLemmas.Names.{own, own_kind, parameter_is, own_head}
use Rattle.cr_meaning_references.proofs.TreesLemmas.Shaped.{shaped}

-- ---- declarators with a name

abbrev is_naming : Kind → Bool
is_naming kind.NameDeclarator = true
is_naming kind.GroupDeclarator = true
is_naming kind.PointerDeclarator = true
is_naming kind.ArrayDeclarator = true
is_naming kind.FunctionDeclarator = true
is_naming k = false

names_by_kind : (k : Kind) (at : ℕ → Named) (i : ℕ) (n : Node) (token : ℕ) → (names_by k at i n).name ≡ Some token → is_naming k ≡ true
names_by_kind kind.NameDeclarator at i n token e = refl
names_by_kind kind.GroupDeclarator at i n token e = refl
names_by_kind kind.PointerDeclarator at i n token e = refl
names_by_kind kind.ArrayDeclarator at i n token e = refl
names_by_kind kind.FunctionDeclarator at i n token e = refl
names_by_kind k at i n token e = absurd (cc e)

naming : (nodes : List Node) (i token : ℕ) (n : Node) → slice_get nodes i ≡ Some n → (declarator_of nodes i).name ≡ Some token → is_naming n.kind ≡ true
naming nodes i token n at e =
    names_by_kind n.kind (before nowhere i (declarator_of nodes)) i n token
    (ap (λ o. (declared_if o (before nowhere i (declarator_of nodes)) i).name) (sym at) ∙ ap (λ (d : Named). d.name) (sym (declarator_ruled nodes i)) ∙ e)

naming_declarator : (k : Kind) → is_naming k ≡ true → (is_declarator k ≡ true) × (is_initialised (Some k) ≡ false)
naming_declarator kind.NameDeclarator h = (refl, refl)
naming_declarator kind.GroupDeclarator h = (refl, refl)
naming_declarator kind.PointerDeclarator h = (refl, refl)
naming_declarator kind.ArrayDeclarator h = (refl, refl)
naming_declarator kind.FunctionDeclarator h = (refl, refl)
naming_declarator k h = absurd (false≢true h)

naming_type : (k : Kind) (t : Tree) (said : Specified) (has : Declarator) (derived : Qualified) (b : Before) (i : ℕ) (n : Node) → is_naming k ≡ true
    → named_by k t said has derived b i n ≡ type_by t.nodes.now b has derived (declaration_of t.nodes.now t.above.now i)
naming_type kind.NameDeclarator t said has derived b i n h = refl
naming_type kind.GroupDeclarator t said has derived b i n h = refl
naming_type kind.PointerDeclarator t said has derived b i n h = refl
naming_type kind.ArrayDeclarator t said has derived b i n h = refl
naming_type kind.FunctionDeclarator t said has derived b i n h = refl
naming_type k t said has derived b i n h = absurd (false≢true h)

-- ---- no specifier has one as a part

abbrev clear : Part → Bool
clear p =
    not (stands_for p kind.NameDeclarator || (stands_for p kind.GroupDeclarator || (stands_for p kind.PointerDeclarator || (stands_for p kind.ArrayDeclarator || stands_for p kind.FunctionDeclarator))))

no_naming : (p : Part) (k : Kind) → clear p ≡ true → stands_for p k ≡ true → is_naming k ≡ false
no_naming p k h s = by k s
  where
    a : Bool
    a = stands_for p kind.NameDeclarator

    b : Bool
    b = stands_for p kind.GroupDeclarator

    c : Bool
    c = stands_for p kind.PointerDeclarator

    d : Bool
    d = stands_for p kind.ArrayDeclarator

    e : Bool
    e = stands_for p kind.FunctionDeclarator

    one : (a ≡ false) × ((b || (c || (d || e))) ≡ false)
    one = or_parts a (b || (c || (d || e))) (not-true (a || (b || (c || (d || e)))) h)

    two : (b ≡ false) × ((c || (d || e)) ≡ false)
    two = or_parts b (c || (d || e)) one.1

    three : (c ≡ false) × ((d || e) ≡ false)
    three = or_parts c (d || e) two.1

    four : (d ≡ false) × (e ≡ false)
    four = or_parts d e three.1

    by : (k : Kind) → stands_for p k ≡ true → is_naming k ≡ false
    by kind.NameDeclarator s = absurd (false≢true (sym one.0 ∙ s))
    by kind.GroupDeclarator s = absurd (false≢true (sym two.0 ∙ s))
    by kind.PointerDeclarator s = absurd (false≢true (sym three.0 ∙ s))
    by kind.ArrayDeclarator s = absurd (false≢true (sym four.0 ∙ s))
    by kind.FunctionDeclarator s = absurd (false≢true (sym four.1 ∙ s))
    by k s = refl

specifiers_clear : (k : Kind) → is_specifier k ≡ true → clear_side is_naming clear no_naming (side_of k) ≡ true
unfolding rule_of
specifiers_clear kind.Specifiers h = refl
specifiers_clear kind.PlainSpecifiers h = refl
specifiers_clear kind.Typedef h = refl
specifiers_clear kind.Extern h = refl
specifiers_clear kind.Static h = refl
specifiers_clear kind.Auto h = refl
specifiers_clear kind.Register h = refl
specifiers_clear kind.Inline h = refl
specifiers_clear kind.Const h = refl
specifiers_clear kind.Volatile h = refl
specifiers_clear kind.Void h = refl
specifiers_clear kind.Char h = refl
specifiers_clear kind.Short h = refl
specifiers_clear kind.Int h = refl
specifiers_clear kind.Long h = refl
specifiers_clear kind.Signed h = refl
specifiers_clear kind.Unsigned h = refl
specifiers_clear kind.Bool h = refl
specifiers_clear kind.TypedefName h = refl
specifiers_clear kind.StructContent h = refl
specifiers_clear kind.StructTag h = refl
specifiers_clear kind.EnumContent h = refl
specifiers_clear kind.EnumTag h = refl
specifiers_clear k h = absurd (false≢true h)

-- ---- what a parameter declares

of_value : (nodes : List Node) (storage : Option Class) (function : Option ℕ) (row : ℕ) → function ≡ None → is_function (value_by nodes storage function row) ≡ false
of_value nodes storage None row h = refl
of_value nodes storage (Some f) row h = absurd (cc h)

where_plain : (b : Bool) (x y : Declared) → is_function x ≡ false → is_function y ≡ false → is_function (if b then x else y) ≡ false
where_plain true x y h g = h
where_plain false x y h g = g

of_specifiers : (nodes : List Node) (said : ℕ → Specified) (has : Declarator) (row : ℕ) (o : Option ℕ) → has.function ≡ None → is_function (ordinary_by nodes said has row o) ≡ false
of_specifiers nodes said has row None h = refl
of_specifiers nodes said has row (Some s) h =
    where_plain (is_typedef (class_of (said s).storage)) TypeName (value_by nodes (class_of (said s).storage) has.function row) refl (of_value nodes (class_of (said s).storage) has.function row h)

of_constant : (e : Option Enumerated) → is_function (constant_by e) ≡ false
of_constant None = refl
of_constant (Some e) = by e.value
  where
    by : (o : Option ℤ) → is_function (elim o [ None ↦ Unclear | Some value ↦ Enumerator value ]) ≡ false
    by None = refl
    by (Some v) = refl

no_function : (k : Kind) (nodes : List Node) (said : ℕ → Specified) (has : Declarator) (row : ℕ) (e : Option Enumerated) (d : Option ℕ) → has.function ≡ None → is_function (declared_by k nodes said has row e d) ≡ false
no_function kind.Enumerator nodes said has row e d h = of_constant e
no_function k nodes said has row e d h =
    where_plain (declares_name k) (ordinary_of nodes said has row d) Unclear
    (where_plain (names_ordinary (kind_in nodes d)) (ordinary_by nodes said has row (specifiers_in nodes d)) Unclear (of_specifiers nodes said has row (specifiers_in nodes d) h) refl) refl

-- K8
function_holds : (has : Has) (b : Before) (nodes : List Node) (i : ℕ) (at : Place) (storage : Option Class) (initialised : Bool) (base : Qualified) (name : ℕ)
    → HoldsAll (declarator_faults has b nodes i at storage initialised base name) → function_fault_of has.declarator at (is_typedef storage) has.named ≡ false
function_holds has b nodes i at storage initialised base name h =
    unbroken 8 name (function_fault_of has.declarator at (is_typedef storage) has.named)
    (fault_at 14 (open_fault_of has.declarator at storage initialised) ∷ fault_at 41 (token_if (is_member at) has.declarator.volatile) ∷ []) (λ x among. h x (inr (inr (inr among))))

in_place : (has : Declarator) (at : Place) (typedef : Bool) (result : Qualified) → function_fault_of has at typedef result ≡ false → has.misplaced ≡ false
in_place has at typedef result e = by (is_some has.function) e
  where
    by : (b : Bool) → (if b then has.misplaced || (not (is_declared at typedef has.empty) || not (may_return result)) else has.misplaced) ≡ false → has.misplaced ≡ false
    by true f = (or_parts has.misplaced (not (is_declared at typedef has.empty) || not (may_return result)) f).0
    by false f = f

-- no parameter is declared as a function
plain_parameter : (has : Declarator) (at : Place) (typedef : Bool) (result : Qualified) → at ≡ place.Parameter → function_fault_of has at typedef result ≡ false → has.function ≡ None
plain_parameter has at typedef result is e = by has.function refl (ap (λ p. function_fault_of has p typedef result) (sym is) ∙ e)
  where
    by : (o : Option ℕ) → has.function ≡ o → function_fault_of has place.Parameter typedef result ≡ false → o ≡ None
    by None q f = refl
    by (Some x) q f =
        let all : (has.misplaced || (true || not (may_return result))) ≡ false =
        sym (ap (λ o. if is_some o then has.misplaced || (true || not (may_return result)) else has.misplaced) q) ∙ f in
        absurd (false≢true (sym (or_parts has.misplaced (true || not (may_return result)) all).1))

pub parameter_place : (k : Kind) (i : ℕ) (a : Around) → k ≡ kind.Parameter → (inside k i a).place ≡ place.Parameter
unfolding inside
parameter_place k i a e = ap (λ c. (inside c i a).place) e

-- ---- lists

none_at : (test : ℕ → Bool) (xs : List ℕ) (k x : ℕ) → list_any test xs ≡ false → slice_get xs k ≡ Some x → test x ≡ false
none_at test [] k x h e = absurd (cc e)
none_at test (y ∷ xs) zero x h e = let same : y ≡ x = cc e in ap test (sym same) ∙ (or_parts (test y) (list_any test xs) h).0
none_at test (y ∷ xs) (suc k) x h e = none_at test xs k x (or_parts (test y) (list_any test xs) h).1 e

-- of the arguments' faults each is absent
one_argument : (each : ℕ → Option Break) (n k : ℕ) → k < n → HoldsAll (argument_faults each n) → HoldsAll (each k ∷ [])
one_argument each zero k low h = absurd (omega (arith, low))
one_argument each (suc n) k low h = elim (cases_lt k n) [
  | inl less ↦ one_argument each n k less (λ x among. h x (inr among))
  | inr le ↦ (let same : n ≡ k = omega (arith, low, le) in subst (λ i. HoldsAll (each i ∷ [])) same (λ x among. elim among [ inl own ↦ h x (inl own) | inr none ↦ none ]))
]

same_lists : (nodes : List Node) (o : Option ℕ) → functions.parameter_nodes nodes o ≡ declarations.parameter_nodes nodes o
same_lists nodes None = refl
same_lists nodes (Some list) = by (slice_get nodes list)
  where
    by_kind : (k : Kind) (parts : List ℕ) → functions.listed_by (Some k) parts list ≡ declarations.listed_by (Some k) parts list
    by_kind kind.VoidParameters parts = refl
    by_kind kind.Parameters parts = refl
    by_kind kind.VariadicParameters parts = refl
    by_kind k parts = refl

    by : (o : Option Node) → functions.listed_by (scripts.kind_if o) (scripts.parts_if o) list ≡ declarations.listed_by (early.kind_if o) (early.parts_if o) list
    by None = refl
    by (Some n) = by_kind n.kind n.parts

module _ (file : List ℕ) (t : Typed) (it : IsUnitOfFile file t) where
  open it use {made_by, typing, shapes, texts, tree, columns}
  open has_unit file t it use {unit, tree_nodes}

  abbrev parsed : Parsed
  parsed = parsed_of it.unit

  holds : (b : Break) → IsBroken tree texts shapes typing b → ⊥
  holds b broken = made_by.sound.constraints b (inl broken)

  pub in_tree : (i : ℕ) (n : Node) → slice_get t.nodes i ≡ Some n → slice_get tree.nodes.now i ≡ Some n
  in_tree i n at = ap (λ ns. slice_get ns i) tree_nodes ∙ at

  in_unit : (i : ℕ) (n : Node) → slice_get tree.nodes.now i ≡ Some n → slice_get t.nodes i ≡ Some n
  in_unit i n at = ap (λ ns. slice_get ns i) (sym tree_nodes) ∙ at

  abbrev has : ℕ → Declarator
  has p = slice_index_or typing.declarators p name_alone

  abbrev named : ℕ → Qualified
  named p = type_at shapes (slice_index_or typing.named p 0)

  -- what a declarator of a declaration doesn't break (K8)
  function_at : (p d : ℕ) (n : Node) → slice_get tree.nodes.now p ≡ Some n → is_declarator n.kind ≡ true → declaration_of tree.nodes.now tree.above.now p ≡ Some d
      → (typedef : Bool) × (function_fault_of (has p) (place_of tree p) typedef (named p) ≡ false)
  function_at p d n at is of =
      let b = before_in shapes (cut p typing) in
      let storage = class_of (specified_in b.specified (specifiers_in tree.nodes.now (Some d))).storage in
      let own = has_at shapes (entry_at typing p).own in
      let held = declarator_holds n.kind own b tree p n is (holds_all tree texts shapes typing made_by.is.whole.typing holds p n at) in (
        is_typedef storage,
        function_holds own b tree.nodes.now p (place_of tree p) storage (is_initialised (kind_in tree.nodes.now (slice_index_or tree.above.now p None)))
            (type_in b.named (specifiers_in tree.nodes.now (Some d))) (name_token tree.nodes.now p (Some d)) (subst (λ o. HoldsAll (whole_faults own b tree p o)) of held),
      )

  -- ---- one parameter

  record IsEntered (x : ℕ) : Type 0 where
    object : ℕ
    name : functions.parameter_name parsed x ≡ Some object
    is : kind_at t object ≡ kind.NameDeclarator
    word : head (named_type t object) ≡ head (adjusted_type (named x))

  module _ (x p token : ℕ) (nx : Node) (at_x : slice_get tree.nodes.now x ≡ Some nx) (parameter : is_parameter_kind nx.kind ≡ true) (second : slice_get nx.parts 1 ≡ Some p)
      (name : (declarator_of tree.nodes.now p).name ≡ Some token) where
    part : IsPart tree x nx 1 p
    part = (shaped file t it).parts x nx at_x 1 p second

    names_it : is_naming part.own.kind ≡ true
    names_it = naming tree.nodes.now p token part.own part.at name

    is : nx.kind ≡ kind.Parameter
    is = elim (parameter_kind nx.kind parameter) [
      | inl same ↦ same
      | inr specifier ↦
          (let here = in_unit x nx at_x in
          let row = clear_laid is_naming clear no_naming unit.tokens (side_of nx.kind) (row_in t.nodes nx.parts) nx.first (nx.last + 1) (specifiers_clear nx.kind specifier) (laid_at t unit x nx here) in
          let one = clear_at is_naming clear no_naming t.nodes unit.below nx.parts (parts_below t unit x nx here) row 1 p second in
          let both : Some one.0 ≡ Some part.own = sym one.1.0 ∙ in_unit p part.own part.at in
          let same : one.0 ≡ part.own = cc both in
          absurd (false≢true (sym one.1.1 ∙ ap (λ (y : Node). is_naming y.kind) same ∙ names_it)))
    ]

    declarator_is : (is_declarator part.own.kind ≡ true) × (is_initialised (Some part.own.kind) ≡ false)
    declarator_is = naming_declarator part.own.kind names_it

    declaration : declaration_of tree.nodes.now tree.above.now p ≡ Some x
    declaration = declaration_here tree.nodes.now tree.above.now p x nx part.above at_x (ap (λ k. is_initialised (Some k)) is) (ap (λ k. is_declaration (Some k)) is)

    placed : place_of tree p ≡ place.Parameter
    placed = ap (λ (a : Around). a.place) part.around ∙ parameter_place nx.kind x (slice_index_or tree.around.now x outermost) is

    pub plain : (has p).function ≡ None
    plain = let f = function_at p x part.own part.at declarator_is.0 declaration in plain_parameter (has p) (place_of tree p) f.0 (named p) placed f.1

    unfunctional : is_function (slice_index_or typing.declared p Unclear) ≡ false
    unfunctional =
        let r = ruled tree texts shapes typing made_by.is.whole.typing holds p part.own part.at in
        ap is_function r.declared
        ∙ no_function part.own.kind tree.nodes.now (before_in shapes (cut p typing)).specified (has p) (entry_at typing p).own.named (entry_at typing p).own.enumerated (declaration_of tree.nodes.now tree.above.now p) plain

    -- the parameter has the type of its declarator, which is adjusted
    pub parameter_head : head (named x) ≡ head (named p)
    parameter_head =
        named_head tree texts shapes typing made_by.is.whole.typing holds x nx at_x (ap (λ k. is_initialised (Some k)) is)
        ∙ ap (λ k. head (named_by k tree (entry_at typing x).own.specified (has x) (type_at shapes (entry_at typing x).own.derivations) (before_in shapes (cut x typing)) x nx)) is
        ∙ ap (λ o. head (type_in (before_in shapes (cut x typing)).named o)) second
        ∙ ap head (named_early tree texts shapes typing made_by.is.whole.typing holds x nx at_x p part.below)

    abbrev pub given : Qualified
    given = declared_type (has p) (type_at shapes (entry_at typing p).own.derivations) (type_in (before_in shapes (cut p typing)).named (specifiers_in tree.nodes.now (Some x)))

    pub declarator_head : head (named p) ≡ adjusted_type (head given)
    declarator_head =
        let b = before_in shapes (cut p typing) in
        let derived = type_at shapes (entry_at typing p).own.derivations in
        named_head tree texts shapes typing made_by.is.whole.typing holds p part.own part.at declarator_is.1
        ∙ ap head (naming_type part.own.kind tree (entry_at typing p).own.specified (has p) derived b p part.own names_it ∙ ap (type_by tree.nodes.now b (has p) derived) declaration)
        ∙ ap (λ o. head (declarations.adjusted_if (is_parameter (early.kind_if o)) given)) at_x ∙ ap (λ k. head (declarations.adjusted_if (is_parameter (Some k)) given)) is
        ∙ head_adjusted given

    here_x : slice_get t.nodes x ≡ Some nx
    here_x = in_unit x nx at_x

    here_p : slice_get t.nodes p ≡ Some part.own
    here_p = in_unit p part.own part.at

    name_t : (declarator_of t.nodes p).name ≡ Some token
    name_t = ap (λ ns. (declarator_of ns p).name) (sym tree_nodes) ∙ name

    abbrev object_is : ℕ
    object_is = own file t it x p token nx part.own here_x is second here_p name_t

    entered : IsEntered x
    entered = record {
      object = object_is;
      name = parameter_is file t it x p token nx part.own here_x is second here_p name_t;
      is = kind_there (slice_get t.nodes object_is) refl (ap (λ ns. scripts.kind_at ns object_is) made_by.elaborated.nodes_are ∙ own_kind file t it x p token nx part.own here_x is second here_p name_t);
      word =
          own_head file t it x p token nx part.own here_x is second here_p name_t unfunctional ∙ declarator_head
          ∙ sym (adjusted_twice (head given)) ∙ ap adjusted_type (sym declarator_head ∙ sym parameter_head) ∙ sym (head_adjusted (named x));
    }
      where
        kind_there : (o : Option Node) → slice_get t.nodes object_is ≡ o → scripts.kind_if (slice_get t.nodes object_is) ≡ Some kind.NameDeclarator → kind_at t object_is ≡ kind.NameDeclarator
        kind_there None at e = let never : None ≡ Some kind.NameDeclarator = sym (ap scripts.kind_if at) ∙ e in absurd (cc never)
        kind_there (Some n) at e = let both : Some n.kind ≡ Some kind.NameDeclarator = sym (ap scripts.kind_if at) ∙ e in ap kind_if at ∙ (let same : n.kind ≡ kind.NameDeclarator = cc both in same)

  -- ---- all of them

  abbrev enters : ℕ → List ℕ
  enters x = option_to_list (functions.parameter_name parsed x)

  all_words : (xs : List ℕ) → ((k x : ℕ) → slice_get xs k ≡ Some x → IsEntered x) → map (λ object. head (named_type t object)) (flat_map enters xs) ≡ map (λ x. head (adjusted_type (named x))) xs
  all_words [] h = refl
  all_words (x ∷ xs) h =
      let own = h 0 x refl in
      let rest = all_words xs (λ k y e. h (suc k) y e) in
      ap (λ o. map (λ object. head (named_type t object)) (option_to_list o ++ flat_map enters xs)) own.name ∙ (λ j. own.word j ∷ rest j)

  all_names : (xs : List ℕ) → ((k x : ℕ) → slice_get xs k ≡ Some x → IsEntered x) → (k object : ℕ) → slice_get (flat_map enters xs) k ≡ Some object → kind_at t object ≡ kind.NameDeclarator
  all_names [] h k object e = absurd (cc e)
  all_names (x ∷ xs) h k object e = by k (ap (λ o. slice_get (option_to_list o ++ flat_map enters xs) k) (sym own.name) ∙ e) (λ j f. all_names xs (λ i y g. h (suc i) y g) j object f)
    where
      own : IsEntered x
      own = h 0 x refl

      by : (k : ℕ) → slice_get (own.object ∷ flat_map enters xs) k ≡ Some object → ((j : ℕ) → slice_get (flat_map enters xs) j ≡ Some object → kind_at t object ≡ kind.NameDeclarator) → kind_at t object ≡ kind.NameDeclarator
      by zero f rest = let same : own.object ≡ object = cc f in ap (kind_at t) (sym same) ∙ own.is
      by (suc j) f rest = rest j f

  -- ---- a definition

  module _ (token d q : ℕ) (m : Node) (declares : IsDeclarer t.nodes token d q m) (is_definition : m.kind ≡ kind.FunctionDefinition) where
    here : slice_get tree.nodes.now d ≡ Some m
    here = in_tree d m declares.at

    first_part : slice_get m.parts 1 ≡ Some declares.part
    first_part = subst (λ x. slice_get m.parts (suc x) ≡ Some declares.part) (declares.first is_definition) declares.is

    part_is : IsPart tree d m 1 declares.part
    part_is = (shaped file t it).parts d m here 1 declares.part first_part

    same : declares.part ≡ q
    same = elim declares.declares [
      | inl e ↦ e
      | inr init ↦
          (let both : Some part_is.own.kind ≡ Some kind.InitDeclarator = ap scripts.kind_if (sym (in_unit declares.part part_is.own part_is.at)) ∙ init.0 in
          let never : part_is.own.kind ≡ kind.InitDeclarator = cc both in
          absurd (false≢true (ap is_declarator (sym never) ∙ ap (λ k. fits k 1 part_is.own.kind) (sym is_definition) ∙ part_is.fits)))
    ]

    pub second : slice_get m.parts 1 ≡ Some q
    second = first_part ∙ ap Some same

    pub definer : IsPart tree d m 1 q
    definer = (shaped file t it).parts d m here 1 q second

    name : (declarator_of tree.nodes.now q).name ≡ Some token
    name = ap (λ ns. (declarator_of ns q).name) tree_nodes ∙ declares.name

    definition_is : declaration_of tree.nodes.now tree.above.now q ≡ Some d
    definition_is = declaration_here tree.nodes.now tree.above.now q d m definer.above here (ap (λ k. is_initialised (Some k)) is_definition) (ap (λ k. is_declaration (Some k)) is_definition)

    put_well : (has q).misplaced ≡ false
    put_well =
        let f = function_at q d definer.own definer.at (naming_declarator definer.own.kind (naming tree.nodes.now q token definer.own definer.at name)).0 definition_is in
        in_place (has q) (place_of tree q) f.0 (named q) f.1

    abbrev b : Before
    b = before_in shapes (cut d typing)

    abbrev function : Option ℕ
    function = (declarator_in b.declarator (slice_get m.parts 1)).function

    function_is : function ≡ (has q).function
    function_is = ap (λ (x : Declarator). x.function) (ap (declarator_in b.declarator) second ∙ declarator_early tree texts shapes typing made_by.is.whole.typing holds d m here q definer.below)

    abbrev said : Specified
    said = specified_in b.specified (slice_get m.parts 0)

    held : HoldsAll (definition_faults b tree.nodes.now d said (slice_get m.parts 1) function)
    held = subst (λ k. HoldsAll (faults_in k (has_at shapes (entry_at typing d).own) b tree d m)) is_definition (holds_all tree texts shapes typing made_by.is.whole.typing holds d m here)

    abbrev list : List ℕ
    list = declarations.parameter_nodes tree.nodes.now (list_in tree.nodes.now function)

    -- K10
    there : is_some function ≡ true
    there =
        not-false (is_some function)
        (unbroken 10 (name_or (name_in tree.nodes.now (slice_get m.parts 1)) (early.first_in tree.nodes.now (slice_get m.parts 1))) (not (is_some function))
        (fault 10 (early.first_in tree.nodes.now (list_in tree.nodes.now function) - 1) (list_any (is_nameless tree.nodes.now) list) ∷ parameter_faults b tree.nodes.now d list) (λ x among. held x (inr (inr among))))

    none_nameless : list_any (is_nameless tree.nodes.now) list ≡ false
    none_nameless =
        unbroken 10 (early.first_in tree.nodes.now (list_in tree.nodes.now function) - 1) (list_any (is_nameless tree.nodes.now) list) (parameter_faults b tree.nodes.now d list)
        (λ x among. held x (inr (inr (inr among))))

    module _ (l : ℕ) (own_function : (has q).function ≡ Some l) where
      own_list : IsList tree texts shapes typing made_by.is.whole.typing holds (shaped file t it) q l
      own_list = good tree texts shapes typing made_by.is.whole.typing holds (shaped file t it) q token l name put_well own_function

      abbrev parameters : List ℕ
      parameters = declarations.parameter_nodes tree.nodes.now (list_in tree.nodes.now (Some l))

      list_is : list ≡ parameters
      list_is = ap (λ o. declarations.parameter_nodes tree.nodes.now (list_in tree.nodes.now o)) (function_is ∙ own_function)

      list_part : list_in tree.nodes.now (Some l) ≡ slice_get own_list.node.parts 1
      list_part = ap (λ o. slice_get (early.parts_if o) 1) own_list.at

      all_entered : (k x : ℕ) → slice_get parameters k ≡ Some x → IsEntered x
      all_entered k x e = by (slice_get p.node.parts 1) refl (sym (ap (λ o. is_some (name_in tree.nodes.now (slice_get (early.parts_if o) 1))) p.at) ∙ has_name)
        where
          p : lists.IsParameter tree texts shapes typing made_by.is.whole.typing holds (shaped file t it) l x
          p = lists.listed_at tree texts shapes typing made_by.is.whole.typing holds (shaped file t it) l own_list.node own_list.at own_list.is k x
              (ap (λ o. slice_get (declarations.parameter_nodes tree.nodes.now o) k) (sym list_part) ∙ e)

          has_name : is_some (parameter_name tree.nodes.now x) ≡ true
          has_name = not-false (is_some (parameter_name tree.nodes.now x)) (none_at (is_nameless tree.nodes.now) parameters k x (ap (list_any (is_nameless tree.nodes.now)) (sym list_is) ∙ none_nameless) e)

          by : (o : Option ℕ) → slice_get p.node.parts 1 ≡ o → is_some (name_in tree.nodes.now o) ≡ true → IsEntered x
          by None f g = absurd (false≢true g)
          by (Some y) f g = by_name (declarator_of tree.nodes.now y).name refl g
            where
              by_name : (o : Option ℕ) → (declarator_of tree.nodes.now y).name ≡ o → is_some o ≡ true → IsEntered x
              by_name None n g = absurd (false≢true g)
              by_name (Some own_token) n g = entered x y own_token p.node p.at p.is f n

      -- what it enters is what its list declares
      objects_are : slice_index_or t.parameters d [] ≡ flat_map enters parameters
      objects_are =
          let low = slice_get_within t.nodes d m declares.at in
          let count : length t.nodes ≡ length it.unit.nodes = ap length made_by.elaborated.nodes_are in
          let nodes_are : it.unit.nodes ≡ t.nodes = sym made_by.elaborated.nodes_are in
          let unit_nodes : it.unit.nodes ≡ tree.nodes.now = nodes_are ∙ sym tree_nodes in
          ap (λ ps. slice_index_or ps d []) made_by.elaborated.parameters ∙ listed_at (functions.parameters_of parsed columns) (length it.unit.nodes) d [] (omega (arith, low, count))
          ∙ ap (λ c. if entities.is_definition c then flat_map enters (functions.parameter_nodes it.unit.nodes (part_of it.unit.nodes (functions.function_of it.unit.nodes columns d) 1)) else [])
          (ap (λ ns. scripts.kind_at ns d) nodes_are ∙ ap scripts.kind_if declares.at ∙ ap Some is_definition)
          ∙ ap (λ o. flat_map enters (functions.parameter_nodes it.unit.nodes (part_of it.unit.nodes (entry_of columns.declarators.now name_alone o).function 1)))
          (ap (λ ns. slice_get (scripts.parts_at ns d) 1) nodes_are ∙ ap (λ o. slice_get (scripts.parts_if o) 1) declares.at ∙ second)
          ∙ ap (λ o. flat_map enters (functions.parameter_nodes it.unit.nodes (part_of it.unit.nodes o 1)))
          (ap (λ column. (slice_index_or column q name_alone).function) made_by.are.declarators ∙ own_function)
          ∙ ap (flat_map enters) (same_lists it.unit.nodes (slice_get (scripts.parts_at it.unit.nodes l) 1)
          ∙ ap (λ ns. declarations.parameter_nodes ns (slice_get (scripts.parts_at ns l) 1)) unit_nodes
          ∙ ap (declarations.parameter_nodes tree.nodes.now) (ap (λ o. slice_get (scripts.parts_if o) 1) own_list.at ∙ sym list_part))

      all : AreParameters t (map (type_at shapes) (slice_index_or typing.parameters q [])) (slice_index_or t.parameters d [])
      all = record {
        names = λ k object e. all_names parameters all_entered k object (ap (λ ps. slice_get ps k) (sym objects_are) ∙ e);
        words = ap (map (λ object. head (named_type t object))) objects_are ∙ all_words parameters all_entered ∙ sym own_list.words;
      }

    have : AreParameters t (map (type_at shapes) (slice_index_or typing.parameters q [])) (slice_index_or t.parameters d [])
    have = by (has q).function refl (ap is_some (sym function_is) ∙ there)
      where
        by : (o : Option ℕ) → (has q).function ≡ o → is_some o ≡ true → AreParameters t (map (type_at shapes) (slice_index_or typing.parameters q [])) (slice_index_or t.parameters d [])
        by None e h = absurd (false≢true h)
        by (Some l) e h = all l e

    -- its list stands next to its name
    next : (l : ℕ) × ((declarator_of t.nodes q).next ≡ derivation.Function l)
    next = by (has q).function refl (ap is_some (sym function_is) ∙ there)
      where
        by : (o : Option ℕ) → (has q).function ≡ o → is_some o ≡ true → (l : ℕ) × ((declarator_of t.nodes q).next ≡ derivation.Function l)
        by None e h = absurd (false≢true h)
        by (Some l) e h = (l, ap (λ ns. (declarator_of ns q).next) (sym tree_nodes) ∙ (own_list l e).next)

    -- which is that of its function
    pub function_at_name : (l : ℕ) → (declarator_of t.nodes q).next ≡ derivation.Function l → (has q).function ≡ Some l
    function_at_name l e = by (has q).function refl (ap is_some (sym function_is) ∙ there)
      where
        by : (o : Option ℕ) → (has q).function ≡ o → is_some o ≡ true → (has q).function ≡ Some l
        by None f h = absurd (false≢true h)
        by (Some own) f h =
            let both : derivation.Function own ≡ derivation.Function l = sym (ap (λ ns. (declarator_of ns q).next) (sym tree_nodes) ∙ (own_list own f).next) ∙ e in
            let same : own ≡ l = cc both in
            f ∙ ap Some same

    -- K6
    pub parameter_whole : (l : ℕ) → (declarator_of t.nodes q).next ≡ derivation.Function l
        → (k x p : ℕ) → slice_get (declarations.parameter_nodes tree.nodes.now (list_in tree.nodes.now (Some l))) k ≡ Some x → slice_get (early.parts_in tree.nodes.now (Some x)) 1 ≡ Some p
        → x < d → p < d → (has p).function ≡ None → whole_object (is_complete_at tree.nodes.now d) (named x) ≡ true
    parameter_whole l l_next k x p e second x_low p_low unlike =
        ap (whole_object (is_complete_at tree.nodes.now d)) (sym (named_early tree texts shapes typing made_by.is.whole.typing holds d m here x x_low))
        ∙ both (not (is_some (declarator_in b.declarator (slice_get (early.parts_in tree.nodes.now (Some x)) 1)).function)) (whole_object (is_complete_at tree.nodes.now d) (b.named x))
        (unbroken 6 (name_or (parameter_name tree.nodes.now x) (early.first_in tree.nodes.now (Some x)))
        (not (is_some (declarator_in b.declarator (slice_get (early.parts_in tree.nodes.now (Some x)) 1)).function) && not (whole_object (is_complete_at tree.nodes.now d) (b.named x))) [] judged)
        plain_is
      where
        in_list : slice_get list k ≡ Some x
        in_list = ap (λ ps. slice_get ps k) (list_is l (function_at_name l l_next)) ∙ e

        judged : HoldsAll (parameter_fault b tree.nodes.now d (Some x) ∷ [])
        judged =
            subst (λ o. HoldsAll (parameter_fault b tree.nodes.now d o ∷ [])) in_list
            (one_argument (λ j. parameter_fault b tree.nodes.now d (slice_get list j)) (length list) k (slice_get_within list k x in_list) (λ y among. held y (inr (inr (inr (inr among))))))

        plain_is : not (is_some (declarator_in b.declarator (slice_get (early.parts_in tree.nodes.now (Some x)) 1)).function) ≡ true
        plain_is =
            ap (λ o. not (is_some (declarator_in b.declarator o).function)) second
            ∙ ap (λ (y : Declarator). not (is_some y.function)) (declarator_early tree texts shapes typing made_by.is.whole.typing holds d m here p p_low)
            ∙ ap (λ o. not (is_some o)) unlike

pub function_next : (file : List ℕ) (t : Typed) (it : IsUnitOfFile file t) → (token d q : ℕ) (m : Node) → IsDeclarer t.nodes token d q m → m.kind ≡ kind.FunctionDefinition
    → (l : ℕ) × ((declarator_of t.nodes q).next ≡ derivation.Function l)
function_next file t it token d q m declares is = next file t it token d q m declares is

pub own_types : Laws.ParametersHaveTheirTypes
own_types file t it token d declarator m declares is = have file t it token d declarator m declares is
