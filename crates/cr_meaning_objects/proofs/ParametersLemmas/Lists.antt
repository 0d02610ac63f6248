-- The parameters of the function that a declarator declares are those of the list next to its name.
use Rattle.std.proofs.Common.{◌≡◌, ℕ, zero, suc, ◌<◌, ◌⊎◌, inl, inr, Bool, true, false, not, List, [], ◌∷◌, Option, None, Some, map, nat_lt, slice_get, slice_index_or, refl, sym, ap, subst, ◌∙◌, arith, if◌then◌else◌}
use Rattle.std.specs.Option.{is_some}
use Rattle.std.proofs.lemmas.Bool.{false≢true, ltb-true}
use Rattle.std.proofs.lemmas.List.{get_or-take}
use Rattle.cr_syntax.specs.declared.node.Kind.{Kind}
use Rattle.cr_syntax.specs.declared.node.Kind.TheVariants as kind
use Rattle.cr_syntax.specs.declared.node.Node.{Node}
use Rattle.cr_scopes_events.specs.declared.declarator.Derivation.{Derivation}
use Rattle.cr_scopes_events.specs.declared.declarator.Derivation.TheVariants as derivation
use Rattle.cr_scopes_events.specs.declared.declarator.Declarator.{Declarator as Named}
use Rattle.cr_scopes_events.specs.Values.{before}
use Rattle.cr_scopes_events.specs.Declarators.{nowhere, innermost, in_first, declared_by as names_by, declared_if, declarator_of}
use Rattle.cr_scopes_events.proofs.Descents.{declarator_ruled}
use Rattle.cr_check_types.specs.declared.shape.Shape.{Shape}
use Rattle.cr_check_types.specs.Types.{Qualified, plain, pointer, array, type_at}
use Rattle.cr_check_expressions.specs.declared.least.Break.{Break}
use Rattle.cr_check_expressions.specs.Known.{spelling_of}
use Rattle.cr_check_declarators.specs.declared.declarator.Size.{Size}
use Rattle.cr_check_declarators.specs.declared.declarator.Size.TheVariants as size
use Rattle.cr_check_declarators.specs.declared.declarator.Declarator.{Declarator}
use Rattle.cr_check_declarators.specs.Functions.{adjusted_type}
use Rattle.cr_check_declarators.specs.Declarators.{name_alone, is_hole_type, array_of, function_by}
use Rattle.cr_check_declarations.specs.declared.tree.Tree.{Tree}
use Rattle.cr_check_declarations.specs.Before.{Before, kind_if, parts_if, declarator_in}
use Rattle.cr_check_declarations.specs.Declarators.{size_in, bracket_before, inner_derived, resulting, derived_by, declarator_by}
use Rattle.cr_check_declarations.specs.Named.{listed_by, parameter_nodes, parameters_in, parameters_by}
use Rattle.cr_check_declarations.specs.Faults.{list_in}
use Rattle.cr_check_unit.specs.declared.typing.Typing.{Typing}
use Rattle.cr_check_unit.specs.Typing.{cut, before_in, IsTyping}
use Rattle.cr_check_unit.specs.Breaks.{IsBroken}
use Rattle.cr_check_signatures.specs.Functions.Outlines.{head}
use Rattle.cr_meaning_types.specs.Known.Shaped.{is_parameter_kind, is_parameter_list, fits, IsPart, IsShaped}
use Rattle.cr_meaning_types.proofs.KnownLemmas.Naming.{ruled, declarator_early, named_early}
use Rattle.cr_meaning_objects.proofs.ParametersLemmas.Heads.{parameter_heads}

-- ---- lists

mapped_twice : {A B C : Type 0} (f : A → B) (g : B → C) (other : A → C) (xs : List A) → ((k : ℕ) (x : A) → slice_get xs k ≡ Some x → g (f x) ≡ other x) → map g (map f xs) ≡ map other xs
mapped_twice f g other [] h = refl
mapped_twice f g other (x ∷ xs) h = let one = h 0 x refl in let rest = mapped_twice f g other xs (λ k y e. h (suc k) y e) in (λ j. one j ∷ rest j)

-- ---- what arrays and functions keep

array_keeps : (inner : Declarator) (bracket : ℕ) (s : Size) → ((array_of inner bracket s).function ≡ inner.function) × ((array_of inner bracket s).misplaced ≡ inner.misplaced)
array_keeps inner bracket size.Open = (refl, refl)
array_keeps inner bracket size.Untyped = (refl, refl)
array_keeps inner bracket size.Wrong = (refl, refl)
array_keeps inner bracket (size.Known count) = (refl, refl)

-- what makes a name a function stands next to it
function_is : (o : Option ℕ) (bare : Bool) (inner : Declarator) (node l : ℕ) (empty : Bool) → o ≡ inner.function → (function_by o bare inner node empty).misplaced ≡ false → (function_by o bare inner node empty).function ≡ Some l
    → (node ≡ l) × ((o ≡ None) × (bare ≡ true))
function_is None true inner node l empty e m f = (cc f, (refl, refl))
function_is None false inner node l empty e m f = absurd (false≢true (sym m))
function_is (Some x) bare inner node l empty e m f = absurd (false≢true (sym m))

function_stays : (o : Option ℕ) (bare : Bool) (inner : Declarator) (node : ℕ) (empty : Bool) → o ≡ inner.function → (function_by o bare inner node empty).function ≡ None → bare ≡ false
function_stays None true inner node empty e f = absurd (cc f)
function_stays None false inner node empty e f = refl
function_stays (Some x) bare inner node empty e f = let never : Some x ≡ None = e ∙ f in absurd (cc never)

resulting_hole : (type : Qualified) → is_hole_type (resulting type) ≡ true → is_hole_type type ≡ true
resulting_hole (plain of c v) h = h
resulting_hole (pointer c v t) h = h
resulting_hole (array n t) h = h

-- ---- kinds of parameters

plain_list : (k : Kind) (parts : List ℕ) (list : ℕ) → is_parameter_list k ≡ true → (j x : ℕ) → slice_get (listed_by (Some k) parts list) j ≡ Some x
    → ((slice_get parts j ≡ Some x) × ((i : ℕ) (own : Kind) → fits k i own ≡ true → is_parameter_kind own ≡ true)) ⊎ ((x ≡ list) × (is_parameter_kind k ≡ true))
plain_list kind.VoidParameters parts list h j x e = absurd (cc e)
plain_list kind.Parameters parts list h j x e = inl (e, λ i own f. f)
plain_list kind.VariadicParameters parts list h j x e = inl (e, λ i own f. f)
plain_list k parts list h j x e = inr (lone j e, h)
  where
    lone : (j : ℕ) → slice_get (list ∷ []) j ≡ Some x → x ≡ list
    lone zero f = let same : list ≡ x = cc f in sym same
    lone (suc j) f = absurd (cc f)

module _ (u : Tree) (texts : List (List ℕ)) (shapes : List Shape) (t : Typing) (h : IsTyping u texts shapes t) (holds : (b : Break) → IsBroken u texts shapes t b → ⊥) (shaped : IsShaped u) where
  abbrev has : ℕ → Declarator
  has p = slice_index_or t.declarators p name_alone

  abbrev named : ℕ → Qualified
  named p = type_at shapes (slice_index_or t.named p 0)

  -- ---- the parameters of a function declarator

  pub record IsParameter (l x : ℕ) : Type 0 where
    pub node : Node
    pub at : slice_get u.nodes.now x ≡ Some node
    pub below : x < l
    pub is : is_parameter_kind node.kind ≡ true

  pub listed_at : (l : ℕ) (n : Node) → slice_get u.nodes.now l ≡ Some n → n.kind ≡ kind.FunctionDeclarator → (k x : ℕ) → slice_get (parameter_nodes u.nodes.now (slice_get n.parts 1)) k ≡ Some x → IsParameter l x
  listed_at l n at is k x e = by (slice_get n.parts 1) refl e
    where
      by : (o : Option ℕ) → slice_get n.parts 1 ≡ o → slice_get (parameter_nodes u.nodes.now o) k ≡ Some x → IsParameter l x
      by None f g = absurd (cc g)
      by (Some list) f g = of_list (plain_list own.own.kind own.own.parts list own_list k x listed)
        where
          own : IsPart u l n 1 list
          own = shaped.parts l n at 1 list f

          own_list : is_parameter_list own.own.kind ≡ true
          own_list = ap (λ c. fits c 1 own.own.kind) (sym is) ∙ own.fits

          listed : slice_get (listed_by (Some own.own.kind) own.own.parts list) k ≡ Some x
          listed = ap (λ o. slice_get (listed_by (kind_if o) (parts_if o) list) k) (sym own.at) ∙ g

          of_list : ((slice_get own.own.parts k ≡ Some x) × ((i : ℕ) (c : Kind) → fits own.own.kind i c ≡ true → is_parameter_kind c ≡ true)) ⊎ ((x ≡ list) × (is_parameter_kind own.own.kind ≡ true)) → IsParameter l x
          of_list (inl y) =
              let inner = shaped.parts list own.own own.at k x y.0 in
              let one = inner.below in
              let two = own.below in
              record { node = inner.own; at = inner.at; below = omega (arith, one, two); is = y.1 k inner.own.kind inner.fits }
          of_list (inr y) = record { node = own.own; at = ap (slice_get u.nodes.now) y.0 ∙ own.at; below = (let two = own.below in let same = y.0 in omega (arith, same, two)); is = y.1 }

  -- ---- the list next to the name

  abbrev words_of : ℕ → List Qualified
  words_of l = map (λ x. head (adjusted_type (named x))) (parameter_nodes u.nodes.now (list_in u.nodes.now (Some l)))

  pub record IsList (p l : ℕ) : Type 0 where
    pub node : Node
    pub at : slice_get u.nodes.now l ≡ Some node
    pub is : node.kind ≡ kind.FunctionDeclarator
    pub next : (declarator_of u.nodes.now p).next ≡ derivation.Function l
    pub words : map head (map (type_at shapes) (slice_index_or t.parameters p [])) ≡ words_of l

  -- of what derives nothing from a name nothing stands next to it
  abbrev IsBare : ℕ → Type 0
  IsBare p = (token : ℕ) → (declarator_of u.nodes.now p).name ≡ Some token → (has p).function ≡ None → is_hole_type (type_at shapes (slice_index_or t.derivations p 0)) ≡ true → (declarator_of u.nodes.now p).next ≡ derivation.Nothing

  abbrev IsGood : ℕ → Type 0
  IsGood p = (token l : ℕ) → (declarator_of u.nodes.now p).name ≡ Some token → (has p).misplaced ≡ false → (has p).function ≡ Some l → IsList p l

  module _ (p : ℕ) (n : Node) (at : slice_get u.nodes.now p ≡ Some n) (rest : (b : ℕ) → b < p → IsBare b × IsGood b) (token : ℕ) where
    abbrev early : Before
    early = before_in shapes (cut p t)

    abbrev spelling : ℕ → List ℕ
    spelling = spelling_of u.file.now u.tokens.now

    has_is : (k : Kind) → n.kind ≡ k → has p ≡ declarator_by k spelling u.nodes.now early p n
    has_is k is = (ruled u texts shapes t h holds p n at).declarator ∙ ap (λ c. declarator_by c spelling u.nodes.now early p n) is

    words_are : (k : Kind) → n.kind ≡ k → map head (map (type_at shapes) (slice_index_or t.parameters p [])) ≡ map head (parameters_by k u.nodes.now early n)
    words_are k is = parameter_heads u texts shapes t h holds p n at ∙ ap (λ c. map head (parameters_by c u.nodes.now early n)) is

    -- the declarator inside, which has the name
    record IsFirst : Type 0 where
      inner : ℕ
      is : slice_get n.parts 0 ≡ Some inner
      below : inner < p
      name : (declarator_of u.nodes.now inner).name ≡ Some token
      next : (in_first (before nowhere p (declarator_of u.nodes.now)) n.parts).next ≡ (declarator_of u.nodes.now inner).next

    first_of : (ps : List ℕ) → n.parts ≡ ps → (in_first (before nowhere p (declarator_of u.nodes.now)) ps).name ≡ Some token → IsFirst
    first_of [] e f = absurd (cc f)
    first_of (b ∷ ps) e f = by (nat_lt b p) refl f
      where
        by : (c : Bool) → nat_lt b p ≡ c → (if c then declarator_of u.nodes.now b else nowhere).name ≡ Some token → IsFirst
        by true q g = record {
          inner = b;
          is = ap (λ l. slice_get l 0) e;
          below = ltb-true b p q;
          name = g;
          next = ap (λ l. (in_first (before nowhere p (declarator_of u.nodes.now)) l).next) e ∙ ap (λ c. (if c then declarator_of u.nodes.now b else nowhere).next) q;
        }
        by false q g = absurd (cc g)

    abbrev within : Declarator
    within = declarator_in early.declarator (slice_get n.parts 0)

    inner_has : (x : IsFirst) → within ≡ has x.inner
    inner_has x = ap (declarator_in early.declarator) x.is ∙ declarator_early u texts shapes t h holds p n at x.inner x.below

    abbrev derived_at : ℕ → Qualified
    derived_at i = type_at shapes (slice_index_or t.derivations i 0)

    inner_is_derived : (x : IsFirst) → inner_derived early (slice_get n.parts 0) ≡ derived_at x.inner
    inner_is_derived x = ap (inner_derived early) x.is ∙ ap (type_at shapes) (get_or-take p t.derivations x.inner 0 x.below)

    derived_is : (k : Kind) → n.kind ≡ k → derived_at p ≡ derived_by k spelling u.nodes.now early n
    derived_is k is = (ruled u texts shapes t h holds p n at).derived ∙ ap (λ c. derived_by c spelling u.nodes.now early n) is

    abbrev own_next : Kind → Derivation
    own_next k = (names_by k (before nowhere p (declarator_of u.nodes.now)) p n).next

    -- what a declarator inside hands on
    handed : (outer next : Derivation) (l : ℕ) → next ≡ derivation.Function l → innermost outer next ≡ derivation.Function l
    handed outer next l e = ap (innermost outer) e

    bare_kind : (k : Kind) → n.kind ≡ k → (names_by k (before nowhere p (declarator_of u.nodes.now)) p n).name ≡ Some token → (has p).function ≡ None → is_hole_type (derived_at p) ≡ true → own_next k ≡ derivation.Nothing
    bare_kind kind.NameDeclarator is e f hole = refl
    bare_kind kind.GroupDeclarator is e f hole =
        let x = first_of n.parts refl e in
        let inner = (rest x.inner x.below).0 token x.name (ap (λ (d : Declarator). d.function) (sym (has_is kind.GroupDeclarator is ∙ inner_has x)) ∙ f)
        (ap is_hole_type (sym (derived_is kind.GroupDeclarator is ∙ inner_is_derived x)) ∙ hole) in
        ap (innermost derivation.Nothing) (x.next ∙ inner)
    bare_kind kind.PointerDeclarator is e f hole = absurd (false≢true (ap is_hole_type (sym (derived_is kind.PointerDeclarator is)) ∙ hole))
    bare_kind kind.ArrayDeclarator is e f hole = absurd (false≢true (ap is_hole_type (sym (derived_is kind.ArrayDeclarator is)) ∙ hole))
    bare_kind kind.FunctionDeclarator is e f hole =
        let bare = is_hole_type (inner_derived early (slice_get n.parts 0)) in
        let empty = not (is_some (slice_get n.parts 1)) in
        let none = function_stays within.function bare within p empty refl (ap (λ (d : Declarator). d.function) (sym (has_is kind.FunctionDeclarator is)) ∙ f) in
        absurd (false≢true (sym none ∙ resulting_hole (inner_derived early (slice_get n.parts 0)) (ap is_hole_type (sym (derived_is kind.FunctionDeclarator is)) ∙ hole)))
    bare_kind k is e f hole = absurd (cc e)

    module _ (l : ℕ) where
      own_is : (k : Kind) → n.kind ≡ k → declarator_of u.nodes.now p ≡ names_by k (before nowhere p (declarator_of u.nodes.now)) p n
      own_is k is =
          declarator_ruled u.nodes.now p ∙ ap (λ o. declared_if o (before nowhere p (declarator_of u.nodes.now)) p) at ∙ ap (λ c. names_by c (before nowhere p (declarator_of u.nodes.now)) p n) is

      through : (k : Kind) → n.kind ≡ k → (x : IsFirst) (outer : Derivation) → own_next k ≡ innermost outer (in_first (before nowhere p (declarator_of u.nodes.now)) n.parts).next
          → map head (map (type_at shapes) (slice_index_or t.parameters p [])) ≡ map head (parameters_in early (slice_get n.parts 0)) → (has p).misplaced ≡ within.misplaced → (has p).function ≡ within.function
          → (has p).misplaced ≡ false → (has p).function ≡ Some l → IsList p l
      through k is x outer next words same_place same_function m f =
          let inner_is = inner_has x in
          let y = (rest x.inner x.below).1 token l x.name (ap (λ (d : Declarator). d.misplaced) (sym inner_is) ∙ sym same_place ∙ m) (ap (λ (d : Declarator). d.function) (sym inner_is) ∙ sym same_function ∙ f) in
          let moved : parameters_in early (slice_get n.parts 0) ≡ map (type_at shapes) (slice_index_or t.parameters x.inner []) =
          ap (parameters_in early) x.is ∙ ap (map (type_at shapes)) (get_or-take p t.parameters x.inner [] x.below) in
          record {
            node = y.node;
            at = y.at;
            is = y.is;
            next = ap (λ (d : Named). d.next) (own_is k is) ∙ next ∙ handed outer (in_first (before nowhere p (declarator_of u.nodes.now)) n.parts).next l (x.next ∙ y.next);
            words = words ∙ ap (map head) moved ∙ y.words;
          }

      of_function : n.kind ≡ kind.FunctionDeclarator → (x : IsFirst) → (has p).misplaced ≡ false → (has p).function ≡ Some l → IsList p l
      of_function is x m f =
          let bare = is_hole_type (inner_derived early (slice_get n.parts 0)) in
          let empty = not (is_some (slice_get n.parts 1)) in
          let own = has_is kind.FunctionDeclarator is in
          let made = function_is within.function bare within p l empty refl (ap (λ (d : Declarator). d.misplaced) (sym own) ∙ m) (ap (λ (d : Declarator). d.function) (sym own) ∙ f) in
          let list : list_in u.nodes.now (Some p) ≡ slice_get n.parts 1 = ap (λ o. slice_get (parts_if o) 1) at in
          let words : map head (map (type_at shapes) (slice_index_or t.parameters p [])) ≡ words_of p =
          words_are kind.FunctionDeclarator is
          ∙ mapped_twice (λ x. adjusted_type (early.named x)) head (λ x. head (adjusted_type (named x))) (parameter_nodes u.nodes.now (slice_get n.parts 1))
          (λ k x e. ap (λ y. head (adjusted_type y)) (named_early u texts shapes t h holds p n at x (listed_at p n at is k x e).below))
          ∙ ap (λ o. map (λ x. head (adjusted_type (named x))) (parameter_nodes u.nodes.now o)) (sym list) in
          let nothing = (rest x.inner x.below).0 token x.name (ap (λ (d : Declarator). d.function) (sym (inner_has x)) ∙ made.1.0) (ap is_hole_type (sym (inner_is_derived x)) ∙ made.1.1) in
          let next : (declarator_of u.nodes.now p).next ≡ derivation.Function p =
          ap (λ (d : Named). d.next) (own_is kind.FunctionDeclarator is) ∙ ap (innermost (derivation.Function p)) (x.next ∙ nothing) in
          subst (IsList p) made.0 (record { node = n; at = at; is = is; next = next; words = words })

      good_kind : (k : Kind) → n.kind ≡ k → (names_by k (before nowhere p (declarator_of u.nodes.now)) p n).name ≡ Some token → (has p).misplaced ≡ false → (has p).function ≡ Some l → IsList p l
      good_kind kind.NameDeclarator is e m f = let never : None ≡ Some l = sym (ap (λ (d : Declarator). d.function) (has_is kind.NameDeclarator is)) ∙ f in absurd (cc never)
      good_kind kind.GroupDeclarator is e m f =
          let own = has_is kind.GroupDeclarator is in
          through kind.GroupDeclarator is (first_of n.parts refl e) derivation.Nothing refl (words_are kind.GroupDeclarator is) (ap (λ (d : Declarator). d.misplaced) own) (ap (λ (d : Declarator). d.function) own) m f
      good_kind kind.PointerDeclarator is e m f =
          let own = has_is kind.PointerDeclarator is in
          through kind.PointerDeclarator is (first_of n.parts refl e) derivation.Other refl (words_are kind.PointerDeclarator is) (ap (λ (d : Declarator). d.misplaced) own) (ap (λ (d : Declarator). d.function) own) m f
      good_kind kind.ArrayDeclarator is e m f =
          let own = has_is kind.ArrayDeclarator is in
          let kept = array_keeps within (bracket_before u.nodes.now n (slice_get n.parts 1)) (size_in early.seen (slice_get n.parts 1)) in
          through kind.ArrayDeclarator is (first_of n.parts refl e) derivation.Other refl (words_are kind.ArrayDeclarator is) (ap (λ (d : Declarator). d.misplaced) own ∙ kept.1) (ap (λ (d : Declarator). d.function) own ∙ kept.0) m f
      good_kind kind.FunctionDeclarator is e m f = of_function is (first_of n.parts refl e) m f
      good_kind k is e m f = absurd (cc e)

  abbrev Both : ℕ → Type 0
  Both p = IsBare p × IsGood p

  nothing_there : (p token : ℕ) → slice_get u.nodes.now p ≡ None → (declarator_of u.nodes.now p).name ≡ Some token → ⊥
  nothing_there p token at e =
      let nothing : declarator_of u.nodes.now p ≡ nowhere = declarator_ruled u.nodes.now p ∙ ap (λ o. declared_if o (before nowhere p (declarator_of u.nodes.now)) p) at in
      let never : None ≡ Some token = sym (ap (λ (d : Named). d.name) nothing) ∙ e in
      cc never

  good_if : (p : ℕ) → ((b : ℕ) → b < p → Both b) → (o : Option Node) → slice_get u.nodes.now p ≡ o → Both p
  good_if p rest None at = (λ token e f hole. absurd (nothing_there p token at e), λ token l e m f. absurd (nothing_there p token at e))
  good_if p rest (Some n) at =
      let own : declarator_of u.nodes.now p ≡ names_by n.kind (before nowhere p (declarator_of u.nodes.now)) p n =
      declarator_ruled u.nodes.now p ∙ ap (λ o. declared_if o (before nowhere p (declarator_of u.nodes.now)) p) at in (
        λ token e f hole. ap (λ (d : Named). d.next) own ∙ bare_kind p n at rest token n.kind refl (ap (λ (d : Named). d.name) (sym own) ∙ e) f hole,
        λ token l e m f. good_kind p n at rest token l n.kind refl (ap (λ (d : Named). d.name) (sym own) ∙ e) m f,
      )

  good_below : (fuel p : ℕ) → p < fuel → Both p
  good_below zero p low = absurd (omega (arith, low))
  good_below (suc fuel) p low = good_if p (λ b less. good_below fuel b (omega (arith, low, less))) (slice_get u.nodes.now p) refl

  pub good : (p token l : ℕ) → (declarator_of u.nodes.now p).name ≡ Some token → (has p).misplaced ≡ false → (has p).function ≡ Some l → IsList p l
  good p = (good_below (suc p) p (omega arith)).1
