-- What declares a function has linkage, and is judged by the declarations before it.
use Rattle.std.proofs.Common.{◌≡◌, ℕ, ℤ, inl, inr, Bool, true, false, ◌||◌, ◌&&◌, not, List, [], ◌∷◌, Option, None, Some, length, slice_get, slice_index_or, refl, sym, subst, ap, ◌∙◌, arith, if◌then◌else◌}
use Rattle.std.specs.Option.{is_some}
use Rattle.std.proofs.lemmas.Bool.{cases_lt, false≢true, or_parts, not-false}
use Rattle.std.proofs.lemmas.List.{get_or_past}
use Rattle.cr_syntax.specs.declared.node.Kind.{Kind}
use Rattle.cr_syntax.specs.declared.node.Kind.TheVariants as kind
use Rattle.cr_syntax.specs.declared.node.Node.{Node}
use Rattle.cr_syntax_nodes.proofs.Numbers.{some_at}
use Rattle.cr_scopes_events.specs.Declarators.{declarator_of}
use Rattle.cr_check_enclosing.specs.declared.context.Place.{Place}
use Rattle.cr_check_enclosing.specs.declared.context.Place.TheVariants as place
use Rattle.cr_check_types.specs.declared.shape.Shape.{Shape}
use Rattle.cr_check_types.specs.Types.{Qualified}
use Rattle.cr_check_expressions.specs.declared.least.Break.{Break}
use Rattle.cr_check_expressions.specs.Breaks.{fault, IsAmong}
use Rattle.cr_check_expressions.specs.declared.known.Declared.{Declared}
use Rattle.cr_check_expressions.specs.declared.known.Declared.TheVariants.{Enumerator, Function, TypeName, Unclear}
use Rattle.cr_check_declarators.specs.declared.words.Class.{Class}
use Rattle.cr_check_declarators.specs.declared.words.Class.TheVariants as class
use Rattle.cr_check_declarators.specs.declared.words.Specified.{Specified}
use Rattle.cr_check_declarators.specs.declared.declarator.Declarator.{Declarator}
use Rattle.cr_check_declarators.specs.declared.enumerators.Enumerated.{Enumerated}
use Rattle.cr_check_declarators.specs.declared.linkages.Linkage.{Linkage}
use Rattle.cr_check_declarators.specs.declared.linkages.Linkage.TheVariants.{Alone, Internal, External}
use Rattle.cr_check_declarators.specs.declared.linkages.Declaration.{Declaration}
use Rattle.cr_check_declarators.specs.Specifiers.{is_member}
use Rattle.cr_check_declarators.specs.Declarators.{may_return, is_declared, function_fault_of, open_fault_of}
use Rattle.cr_check_declarators.specs.Linkages.{inherited, linkage_of, repeats, is_again_of, with_declaration_of, may_be_initialised_of}
use Rattle.cr_check_declarations.specs.declared.tree.Tree.{Tree}
use Rattle.cr_check_declarations.specs.Before.{Before, kind_in, first_in, type_in, specified_in}
use Rattle.cr_check_declarations.specs.Named.{class_of, is_typedef, is_initialised, is_declarator, declares_name, value_by, declared_as, ordinary_by, ordinary_of, names_ordinary, specifiers_in, constant_by, declared_by, declaration_of}
use Rattle.cr_check_declarations.specs.Faults.{Has, has_at, fault_at, token_if, place_of, name_in, name_token, declarator_faults, whole_faults, may_have_initialiser, initialised_faults, faults_in}
use Rattle.cr_check_linkage.specs.NameTypes.{NameType, disagrees, is_misdeclared}
use Rattle.cr_check_linkage.specs.Linked.{Past, linkage_in, linkage_by, linked_as, with_linked, linked_in, linked_by, declaration_at}
use Rattle.cr_check_linkage.specs.Faults.{library_at, name_faults, linked_faults, faults_in as linked_faults_in}
use Rattle.cr_check_unit.specs.declared.typing.Typing.{Typing}
use Rattle.cr_check_unit.specs.Typing.{cut, entry_at, before_in, past_in, IsRuledIf, IsRuled, IsTyping}
use Rattle.cr_check_unit.specs.Breaks.{IsNodeBreak, IsBroken}
use Rattle.cr_check_signatures.specs.Functions.Linked.{has_linkage, same_at, before_at, earlier_at, does_at, now_at, IsLinked, IsFunction}
use Rattle.cr_check_signatures.specs.Functions.Laws

-- ---- faults that aren't there

abbrev pub HoldsAll : List (Option Break) → Type 0
HoldsAll faults = (b : Break) → IsAmong faults b → ⊥

unbroken : (row token : ℕ) (b : Bool) (rest : List (Option Break)) → HoldsAll (fault row token b ∷ rest) → b ≡ false
unbroken row token true rest h = absurd (h (record { token = token; row = row }) (inl refl))
unbroken row token false rest h = refl

unbroken_at : (row token : ℕ) (o : Option ℕ) (b : Bool) (rest : List (Option Break)) → o ≡ Some token → HoldsAll (fault_at row (token_if b o) ∷ rest) → b ≡ false
unbroken_at row token o true rest e h = absurd (h (record { token = token; row = row }) (inl (ap (fault_at row) e)))
unbroken_at row token o false rest e h = refl

-- ---- linkage

inherited_linkage : (visible : Option Linkage) → has_linkage (inherited visible) ≡ true
inherited_linkage None = refl
inherited_linkage (Some Internal) = refl
inherited_linkage (Some other) = refl

-- a function has linkage wherever one may be declared
functions_link : (p : Place) (c : Option Class) (empty : Bool) (visible : Option Linkage) → is_declared p false empty ≡ true → is_typedef c ≡ false → has_linkage (linkage_of p c true visible) ≡ true
functions_link p (Some class.Typedef) empty visible h g = absurd (false≢true (sym g))
functions_link place.File (Some class.Static) empty visible h g = refl
functions_link place.File (Some class.Extern) empty visible h g = inherited_linkage visible
functions_link place.File (Some class.Auto) empty visible h g = refl
functions_link place.File (Some class.Register) empty visible h g = refl
functions_link place.File None empty visible h g = inherited_linkage visible
functions_link place.Definition (Some class.Static) empty visible h g = refl
functions_link place.Definition (Some class.Extern) empty visible h g = inherited_linkage visible
functions_link place.Definition (Some class.Auto) empty visible h g = refl
functions_link place.Definition (Some class.Register) empty visible h g = refl
functions_link place.Definition None empty visible h g = inherited_linkage visible
functions_link place.Block (Some class.Extern) empty visible h g = inherited_linkage visible
functions_link place.Block c empty visible h g = inherited_linkage visible
functions_link place.Clause (Some class.Extern) empty visible h g = inherited_linkage visible
functions_link place.Clause c empty visible h g = inherited_linkage visible
functions_link p c empty visible h g = absurd (false≢true h)

linked_some : (l : Linkage) (all : Declaration) → has_linkage l ≡ true → linked_as l all ≡ Some all
linked_some Alone all h = absurd (false≢true h)
linked_some Internal all h = refl
linked_some External all h = refl

linked_declarator : (k : Kind) (u : Tree) (said : ℕ → Specified) (own : Declarator) (linked : ℕ → Option Declaration) (i : ℕ) (n : Node) → is_declarator k ≡ true
    → linked_by k u said own linked i n ≡ with_linked (linked_in linked (slice_index_or u.same.now i None)) (declaration_at u said own linked i)
linked_declarator kind.InitDeclarator u said own linked i n d = absurd (false≢true d)
linked_declarator k u said own linked i n d = ap (λ b. if b then with_linked (linked_in linked (slice_index_or u.same.now i None)) (declaration_at u said own linked i) else None) d

faults_declarator : (k : Kind) (all : Option Declaration) (u : Tree) (said : ℕ → Specified) (own : Declarator) (past : Past) (now : NameType) (i : ℕ) (n : Node) → is_declarator k ≡ true
    → linked_faults_in k all u said own past now i n ≡ linked_faults all u said own past now i
faults_declarator kind.InitDeclarator all u said own past now i n d = absurd (false≢true d)
faults_declarator k all u said own past now i n d = ap (λ b. if b then linked_faults all u said own past now i else []) d

-- ---- what declares a function

-- the words say no `typedef`, and the declarator makes a function
record IsPlain (nodes : List Node) (said : ℕ → Specified) (own : Declarator) (d : Option ℕ) : Type 0 where
  declaration : ℕ
  is : d ≡ Some declaration
  plain : is_typedef (class_of (specified_in said (specifiers_in nodes d)).storage) ≡ false
  function : is_some own.function ≡ true

abbrev pub is_function : Declared → Bool
is_function (Function row more) = true
is_function d = false

of_value : (nodes : List Node) (c : Option Class) (own : Option ℕ) (row : ℕ) → is_function (value_by nodes c own row) ≡ true → is_some own ≡ true
of_value nodes c None row h = absurd (false≢true h)
of_value nodes c (Some f) row h = refl

of_class : (nodes : List Node) (c : Option Class) (own : Declarator) (row : ℕ) → is_function (declared_as nodes c own row) ≡ true → (is_typedef c ≡ false) × (is_some own.function ≡ true)
of_class nodes c own row h = by (is_typedef c) refl h
  where
    by : (b : Bool) → is_typedef c ≡ b → is_function (if b then TypeName else value_by nodes c own.function row) ≡ true → (is_typedef c ≡ false) × (is_some own.function ≡ true)
    by true q h = absurd (false≢true h)
    by false q h = (q, of_value nodes c own.function row h)

of_ordinary : (nodes : List Node) (said : ℕ → Specified) (own : Declarator) (row : ℕ) (o : Option ℕ) → is_function (ordinary_by nodes said own row o) ≡ true
    → (is_typedef (class_of (specified_in said o).storage) ≡ false) × (is_some own.function ≡ true)
of_ordinary nodes said own row None h = absurd (false≢true h)
of_ordinary nodes said own row (Some s) h = of_class nodes (class_of (said s).storage) own row h

unless : (b : Bool) (d : Declared) → is_function (if b then d else Unclear) ≡ true → is_function d ≡ true
unless true d h = h
unless false d h = absurd (false≢true h)

unless_test : (b : Bool) (d : Declared) → is_function (if b then d else Unclear) ≡ true → b ≡ true
unless_test true d h = refl
unless_test false d h = absurd (false≢true h)

of_declaration : (nodes : List Node) (said : ℕ → Specified) (own : Declarator) (row : ℕ) (d : Option ℕ) → is_function (ordinary_of nodes said own row d) ≡ true → IsPlain nodes said own d
of_declaration nodes said own row None h = absurd (false≢true h)
of_declaration nodes said own row (Some x) h =
    let two = of_ordinary nodes said own row (specifiers_in nodes (Some x)) (unless (names_ordinary (kind_in nodes (Some x))) (ordinary_by nodes said own row (specifiers_in nodes (Some x))) h) in
    record { declaration = x; is = refl; plain = two.0; function = two.1 }

no_constant : (e : Option Enumerated) → is_function (constant_by e) ≡ true → ⊥
no_constant None h = false≢true h
no_constant (Some own) h = by own.value h
  where
    by : (o : Option ℤ) → is_function (elim o [ None ↦ Unclear | Some value ↦ Enumerator value ]) ≡ true → ⊥
    by None h = false≢true h
    by (Some value) h = false≢true h

of_kind : (k : Kind) (nodes : List Node) (said : ℕ → Specified) (own : Declarator) (row : ℕ) (e : Option Enumerated) (d : Option ℕ) → is_function (declared_by k nodes said own row e d) ≡ true
    → (declares_name k ≡ true) × IsPlain nodes said own d
of_kind kind.Enumerator nodes said own row e d h = absurd (no_constant e h)
of_kind k nodes said own row e d h = (unless_test (declares_name k) (ordinary_of nodes said own row d) h, of_declaration nodes said own row d (unless (declares_name k) (ordinary_of nodes said own row d) h))

-- ---- the constraints

-- K8
function_holds : (own : Has) (b : Before) (nodes : List Node) (i : ℕ) (at : Place) (storage : Option Class) (initialised : Bool) (base : Qualified) (name : ℕ)
    → HoldsAll (declarator_faults own b nodes i at storage initialised base name) → function_fault_of own.declarator at (is_typedef storage) own.named ≡ false
function_holds own b nodes i at storage initialised base name h =
    unbroken 8 name (function_fault_of own.declarator at (is_typedef storage) own.named)
    (fault_at 14 (open_fault_of own.declarator at storage initialised) ∷ fault_at 41 (token_if (is_member at) own.declarator.volatile) ∷ []) (λ x among. h x (inr (inr (inr among))))

declared_there : (own : Declarator) (at : Place) (typedef : Bool) (result : Qualified) → is_some own.function ≡ true → function_fault_of own at typedef result ≡ false → is_declared at typedef own.empty ≡ true
declared_there own at typedef result f h =
    let all = sym (ap (λ b. if b then own.misplaced || (not (is_declared at typedef own.empty) || not (may_return result)) else own.misplaced) f) ∙ h in
    let one = or_parts own.misplaced (not (is_declared at typedef own.empty) || not (may_return result)) all in
    let two = or_parts (not (is_declared at typedef own.empty)) (not (may_return result)) one.1 in
    not-false (is_declared at typedef own.empty) two.0

-- K11
pub no_function : (at : Place) (typedef : Bool) (linkage : Linkage) → may_be_initialised_of at typedef true linkage ≡ false
no_function at typedef linkage = by at typedef
  where
    by : (at : Place) (typedef : Bool) → may_be_initialised_of at typedef true linkage ≡ false
    by place.Block true = refl
    by place.Block false = refl
    by place.Clause true = refl
    by place.Clause false = refl
    by at true = refl
    by at false = refl

pub no_initialiser : (at : Place) (storage : Option Class) (function : Bool) → function ≡ true → may_have_initialiser at storage function ≡ false
no_initialiser at storage function e = ap (may_have_initialiser at storage) e ∙ no_function at (is_typedef storage) (linkage_of at storage true None)

initialised_holds : (own : Declarator) (said : ℕ → Specified) (u : Tree) (i : ℕ) (n : Node) (d : Option ℕ) → HoldsAll (initialised_faults own said u i n d)
    → may_have_initialiser (place_of u i) (class_of (specified_in said (specifiers_in u.nodes.now d)).storage) (is_some own.function) ≡ true
initialised_holds own said u i n d h =
    let may = may_have_initialiser (place_of u i) (class_of (specified_in said (specifiers_in u.nodes.now d)).storage) (is_some own.function) in
    not-false may (unbroken 11 (first_in u.nodes.now (slice_get n.parts 1)) (not may) [] h)

-- what a declarator breaks it breaks as a whole one
declarator_holds : (k : Kind) (own : Has) (b : Before) (u : Tree) (i : ℕ) (n : Node) → is_declarator k ≡ true → HoldsAll (faults_in k own b u i n) → HoldsAll (whole_faults own b u i (declaration_of u.nodes.now u.above.now i))
declarator_holds kind.NameDeclarator own b u i n d h = h
declarator_holds kind.GroupDeclarator own b u i n d h = h
declarator_holds kind.PointerDeclarator own b u i n d h = h
declarator_holds kind.ArrayDeclarator own b u i n d h = h
declarator_holds kind.FunctionDeclarator own b u i n d h = h
declarator_holds kind.AbstractPointer own b u i n d h = h
declarator_holds kind.AbstractGroup own b u i n d h = h
declarator_holds kind.AbstractArray own b u i n d h = h
declarator_holds kind.AbstractArrayOf own b u i n d h = h
declarator_holds k own b u i n d h = absurd (false≢true d)

module _ (u : Tree) (texts : List (List ℕ)) (shapes : List Shape) (t : Typing) (h : IsTyping u texts shapes t) (holds : (b : Break) → IsBroken u texts shapes t b → ⊥) (p : ℕ) (n : Node) (at : slice_get u.nodes.now p ≡ Some n) where
  abbrev own : Has
  own = has_at shapes (entry_at t p).own

  abbrev before : Before
  before = before_in shapes (cut p t)

  abbrev past : Past
  past = past_in shapes (cut p t)

  abbrev above : Option ℕ
  above = declaration_of u.nodes.now u.above.now p

  ruled : IsRuled u texts shapes (cut p t) (entry_at t p) p n
  ruled = subst (IsRuledIf u texts shapes (cut p t) (entry_at t p) p) at (h.each p)

  all : HoldsAll (faults_in n.kind own before u p n)
  all b among = holds b (record { node = p; among = subst (λ o. IsNodeBreak u texts shapes (cut p t) (entry_at t p) p o b) (sym at) (inr (inl among)) })

  linked_all : HoldsAll (linked_faults_in n.kind (entry_at t p).linked u before.specified own.declarator past (now_at shapes t p) p n)
  linked_all b among = holds b (record { node = p; among = subst (λ o. IsNodeBreak u texts shapes (cut p t) (entry_at t p) p o b) (sym at) (inr (inr (inr among))) })

  -- ---- what has linkage

  module _ (is : is_declarator n.kind ≡ true) (links : has_linkage (does_at u shapes t p).linkage ≡ true) where
    abbrev everything : Declaration
    everything = with_declaration_of (before_at u shapes t p) (does_at u shapes t p)

    linked_is : (entry_at t p).linked ≡ Some everything
    linked_is =
        ruled.linked ∙ linked_declarator n.kind u before.specified own.declarator past.linked p n is
        ∙ linked_some (does_at u shapes t p).linkage everything links

    names_hold : HoldsAll (name_faults past (same_at u p) (name_in u.nodes.now (Some p)) (library_at u (name_in u.nodes.now (Some p))) (does_at u shapes t p) (now_at shapes t p))
    names_hold =
        subst (λ o. HoldsAll (linked_faults o u before.specified own.declarator past (now_at shapes t p) p)) linked_is
        (subst HoldsAll (faults_declarator n.kind (entry_at t p).linked u before.specified own.declarator past (now_at shapes t p) p n is) linked_all)

    module _ (token : ℕ) (named : (declarator_of u.nodes.now p).name ≡ Some token) where
      nine : (disagrees (earlier_at u shapes t p) (now_at shapes t p) ≡ false) × (is_misdeclared (library_at u (name_in u.nodes.now (Some p))) (now_at shapes t p) ≡ false)
      nine =
          or_parts (disagrees (earlier_at u shapes t p) (now_at shapes t p)) (is_misdeclared (library_at u (name_in u.nodes.now (Some p))) (now_at shapes t p))
          (unbroken_at 9 token (name_in u.nodes.now (Some p)) (disagrees (earlier_at u shapes t p) (now_at shapes t p) || is_misdeclared (library_at u (name_in u.nodes.now (Some p))) (now_at shapes t p))
          (fault_at 10 (token_if (is_again_of (before_at u shapes t p) (does_at u shapes t p) (is_some (library_at u (name_in u.nodes.now (Some p))))) (name_in u.nodes.now (Some p))) ∷ []) named names_hold)

      ten : is_again_of (before_at u shapes t p) (does_at u shapes t p) (is_some (library_at u (name_in u.nodes.now (Some p)))) ≡ false
      ten = unbroken_at 10 token (name_in u.nodes.now (Some p)) (is_again_of (before_at u shapes t p) (does_at u shapes t p) (is_some (library_at u (name_in u.nodes.now (Some p))))) [] named (λ b among. names_hold b (inr among))

    linked : IsLinked u shapes t p
    linked = record {
      linked = linked_is;
      agrees = λ token named. (nine token named).0;
      library = λ token named. ap (λ o. is_misdeclared (library_at u o) (now_at shapes t p)) (sym named) ∙ (nine token named).1;
      again = λ token named. (or_parts (is_some (library_at u (name_in u.nodes.now (Some p))) && (does_at u shapes t p).defines) (repeats (before_at u shapes t p) (does_at u shapes t p)) (ten token named)).1;
    }

  -- ---- functions

  module _ (row : ℕ) (more : Bool) (declares : slice_index_or t.declared p Unclear ≡ Function row more) where
    parts : (declares_name n.kind ≡ true) × IsPlain u.nodes.now before.specified own.declarator above
    parts = of_kind n.kind u.nodes.now before.specified own.declarator (entry_at t p).own.named (entry_at t p).own.enumerated above (ap is_function (sym ruled.declared ∙ declares))

    -- it is no initialised declarator
    is_whole : is_declarator n.kind ≡ true
    is_whole = by n.kind refl parts.0
      where
        by : (k : Kind) → n.kind ≡ k → declares_name k ≡ true → is_declarator k ≡ true
        by kind.InitDeclarator e d =
            let held = initialised_holds own.declarator before.specified u p n above (subst (λ k. HoldsAll (faults_in k own before u p n)) e all) in
            let storage = class_of (specified_in before.specified (specifiers_in u.nodes.now above)).storage in
            absurd (false≢true (sym (no_initialiser (place_of u p) storage (is_some own.declarator.function) parts.1.function) ∙ held))
        by k e d = d

    there : (o : Option ℕ) → above ≡ o → HoldsAll (whole_faults own before u p o) → has_linkage (linkage_by u before.specified own.declarator (linked_in past.linked (slice_index_or u.earlier.now p None)) p o) ≡ true
    there None e f = let plain = parts.1 in let never : None ≡ Some plain.declaration = sym e ∙ plain.is in absurd cc
    there (Some d) e f =
        let plain = parts.1 in
        let storage = class_of (specified_in before.specified (specifiers_in u.nodes.now (Some d))).storage in
        let untyped : is_typedef storage ≡ false = ap (λ o. is_typedef (class_of (specified_in before.specified (specifiers_in u.nodes.now o)).storage)) (sym e) ∙ plain.plain in
        let fault_none = function_holds own before u.nodes.now p (place_of u p) storage (is_initialised (kind_in u.nodes.now (slice_index_or u.above.now p None))) (type_in before.named (specifiers_in u.nodes.now (Some d))) (name_token u.nodes.now p (Some d)) f in
        let declared = declared_there own.declarator (place_of u p) (is_typedef storage) own.named plain.function fault_none in
        let visible = linkage_in (linked_in past.linked (slice_index_or u.earlier.now p None)) in
        ap (λ b. has_linkage (linkage_of (place_of u p) storage b visible)) plain.function
        ∙ functions_link (place_of u p) storage own.declarator.empty visible (ap (λ b. is_declared (place_of u p) b own.declarator.empty) (sym untyped) ∙ declared) untyped

    function : IsFunction u shapes t p
    function =
        let has = there above refl (declarator_holds n.kind own before u p n is_whole all) in
        record { node = n; at = at; is = is_whole; has = has; linked = linked is_whole has }

pub declarations : Laws.DeclarationsAreLinked
declarations u texts shapes t h holds p n at is links = linked u texts shapes t h holds p n at is links

pub functions : Laws.FunctionsAreLinked
functions u texts shapes t h holds p row more e = elim (cases_lt p (length u.nodes.now)) [
  | inl few ↦ (let n = some_at u.nodes.now p few in function u texts shapes t h holds p n.0 n.1 row more e)
  | inr past ↦ (let count = h.whole.declared in let never : Unclear ≡ Function row more = sym (get_or_past t.declared p Unclear (omega (arith, past, count))) ∙ e in absurd cc)
]
