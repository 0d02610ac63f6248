-- Next to a declared name stands the declarator of a function alone where its declaration has one (C11 6.7.6.3).
use Rattle.std.proofs.Common.{◌≡◌, ℕ, zero, suc, ◌<◌, Bool, true, false, not, List, [], ◌∷◌, Option, None, Some, nat_lt, slice_get, refl, sym, subst, ap, ◌∙◌, arith}
use Rattle.std.specs.Prelude.{if◌then◌else◌}
use Rattle.std.specs.Option.{is_some}
use Rattle.std.proofs.lemmas.Bool.{false≢true, ltb-true}
use Rattle.std.proofs.lemmas.List.{get_or-take}
use Rattle.cr_syntax.specs.declared.node.Kind.{Kind}
use Rattle.cr_syntax.specs.declared.node.Kind.TheVariants as kind
use Rattle.cr_syntax.specs.declared.node.Node.{Node}
use Rattle.cr_scopes_events.specs.declared.declarator.Derivation.{Derivation}
use Rattle.cr_scopes_events.specs.declared.declarator.Derivation.TheVariants.{Nothing, Function, Other}
use Rattle.cr_scopes_events.specs.declared.declarator.Declarator.{Declarator as Named}
use Rattle.cr_scopes_events.specs.Values.{before}
use Rattle.cr_scopes_events.specs.Declarators.{nowhere, innermost, derived, in_first, declared_by, declared_if, declarator_of}
use Rattle.cr_scopes_events.proofs.Descents.{declarator_ruled}
use Rattle.cr_check_types.specs.declared.shape.Shape.{Shape}
use Rattle.cr_check_types.specs.Types.{Qualified, type_at}
use Rattle.cr_check_expressions.specs.declared.least.Break.{Break}
use Rattle.cr_check_expressions.specs.Known.{spelling_of}
use Rattle.cr_check_declarators.specs.declared.declarator.Declarator.{Declarator}
use Rattle.cr_check_declarators.specs.declared.declarator.Size.{Size}
use Rattle.cr_check_declarators.specs.declared.declarator.Size.TheVariants as size
use Rattle.cr_check_declarators.specs.Declarators.{is_hole_type, array_of, function_by, function_of}
use Rattle.cr_check_declarations.specs.declared.tree.Tree.{Tree}
use Rattle.cr_check_declarations.specs.Before.{Before, declarator_in}
use Rattle.cr_check_declarations.specs.Declarators.{size_in, bracket_before, inner_derived, derived_by, declarator_by}
use Rattle.cr_check_unit.specs.declared.typing.Typing.{Typing}
use Rattle.cr_check_unit.specs.Typing.{cut, entry_at, before_in, IsRuled, IsTyping}
use Rattle.cr_check_unit.specs.Breaks.{IsBroken}
use Rattle.cr_meaning_types.specs.Known.Shaped.{IsShaped}
use Rattle.cr_meaning_types.proofs.KnownLemmas.Naming.{ruled, declarator_early}

abbrev pub made_of : Declarator → Option ℕ
made_of d = d.function

-- an array is of what is inside
array_made : (inner : Declarator) (bracket : ℕ) (s : Size) → made_of (array_of inner bracket s) ≡ made_of inner
array_made inner bracket size.Open = refl
array_made inner bracket size.Untyped = refl
array_made inner bracket size.Wrong = refl
array_made inner bracket (size.Known count) = refl

made_stays : (o : Option ℕ) (bare : Bool) (inner : Declarator) (node : ℕ) (empty : Bool) → made_of inner ≡ o → is_some o ≡ true → is_some (made_of (function_by o bare inner node empty)) ≡ true
made_stays None bare inner node empty e h = absurd (false≢true h)
made_stays (Some x) bare inner node empty e h = ap is_some e

made_here : (o : Option ℕ) (bare : Bool) (inner : Declarator) (node : ℕ) (empty : Bool) → o ≡ None → bare ≡ true → is_some (made_of (function_by o bare inner node empty)) ≡ true
made_here None true inner node empty e h = refl
made_here None false inner node empty e h = absurd (false≢true h)
made_here (Some x) bare inner node empty e h = absurd cc

module _ (u : Tree) (texts : List (List ℕ)) (shapes : List Shape) (t : Typing) (h : IsTyping u texts shapes t) (holds : (b : Break) → IsBroken u texts shapes t b → ⊥) (shaped : IsShaped u) where
  abbrev own : ℕ → Declarator
  own p = (entry_at t p).own.declarator

  abbrev derives : ℕ → Qualified
  derives p = type_at shapes (entry_at t p).own.derivations

  abbrev spelled : ℕ → List ℕ
  spelled = spelling_of u.file.now u.tokens.now

  -- what stands next to the name, where it is none or a function
  abbrev IsNext : ℕ → Derivation → Type 0
  IsNext a Nothing = (is_hole_type (derives a) ≡ true) × (made_of (own a) ≡ None)
  IsNext a (Function f) = is_some (made_of (own a)) ≡ true
  IsNext a Other = Unit {0}

  abbrev IsTold : ℕ → Named → Type 0
  IsTold a d = (x : ℕ) → d.name ≡ Some x → IsNext a d.next

  -- one around another
  module _ (a b : ℕ) (m : Node) (at : slice_get u.nodes.now a ≡ Some m) (first : slice_get m.parts 0 ≡ Some b) (less : b < a) where
    abbrev r : IsRuled u texts shapes (cut a t) (entry_at t a) a m
    r = ruled u texts shapes t h holds a m at

    abbrev early : Before
    early = before_in shapes (cut a t)

    inner_is : declarator_in early.declarator (slice_get m.parts 0) ≡ own b
    inner_is = ap (declarator_in early.declarator) first ∙ declarator_early u texts shapes t h holds a m at b less

    derives_is : inner_derived early (slice_get m.parts 0) ≡ derives b
    derives_is = ap (inner_derived early) first ∙ ap (type_at shapes) (get_or-take a t.derivations b 0 less)

    own_is : (k : Kind) → m.kind ≡ k → own a ≡ declarator_by k spelled u.nodes.now early a m
    own_is k is = r.declarator ∙ ap (λ k. declarator_by k spelled u.nodes.now early a m) is

    shape_is : (k : Kind) → m.kind ≡ k → derives a ≡ derived_by k spelled u.nodes.now early m
    shape_is k is = r.derived ∙ ap (λ k. derived_by k spelled u.nodes.now early m) is

    in_group : m.kind ≡ kind.GroupDeclarator → (next : Derivation) → IsNext b next → IsNext a (innermost Nothing next)
    in_group is Nothing n = (ap is_hole_type (shape_is kind.GroupDeclarator is ∙ derives_is) ∙ n.0, ap made_of (own_is kind.GroupDeclarator is ∙ inner_is) ∙ n.1)
    in_group is (Function f) n = ap (λ d. is_some (made_of d)) (own_is kind.GroupDeclarator is ∙ inner_is) ∙ n
    in_group is Other n = tt

    in_other : made_of (own a) ≡ made_of (own b) → (next : Derivation) → IsNext b next → IsNext a (innermost Other next)
    in_other same Nothing n = tt
    in_other same (Function f) n = ap is_some same ∙ n
    in_other same Other n = tt

    in_pointer : m.kind ≡ kind.PointerDeclarator → made_of (own a) ≡ made_of (own b)
    in_pointer is = ap made_of (own_is kind.PointerDeclarator is) ∙ ap made_of inner_is

    in_array : m.kind ≡ kind.ArrayDeclarator → made_of (own a) ≡ made_of (own b)
    in_array is =
        ap made_of (own_is kind.ArrayDeclarator is)
        ∙ array_made (declarator_in early.declarator (slice_get m.parts 0)) (bracket_before u.nodes.now m (slice_get m.parts 1)) (size_in early.seen (slice_get m.parts 1))
        ∙ ap made_of inner_is

    in_function : m.kind ≡ kind.FunctionDeclarator → (next : Derivation) → IsNext b next → IsNext a (innermost (Function a) next)
    in_function is next n = by next n
      where
        bare : Bool
        bare = is_hole_type (inner_derived early (slice_get m.parts 0))

        empty : Bool
        empty = not (is_some (slice_get m.parts 1))

        made : made_of (own a) ≡ made_of (function_of (own b) bare a empty)
        made = ap made_of (own_is kind.FunctionDeclarator is) ∙ ap (λ d. made_of (function_of d bare a empty)) inner_is

        by : (next : Derivation) → IsNext b next → IsNext a (innermost (Function a) next)
        by Nothing n = ap is_some made ∙ made_here (made_of (own b)) bare (own b) a empty n.1 (ap is_hole_type derives_is ∙ n.0)
        by (Function f) n = ap is_some made ∙ made_stays (made_of (own b)) bare (own b) a empty refl n
        by Other n = tt

  -- what the first part has
  first_told : (a : ℕ) (m : Node) → slice_get u.nodes.now a ≡ Some m → (outer : Derivation) → ((b : ℕ) → slice_get m.parts 0 ≡ Some b → b < a → IsTold a (derived outer (declarator_of u.nodes.now b)))
      → (ps : List ℕ) → m.parts ≡ ps → IsTold a (derived outer (in_first (before nowhere a (declarator_of u.nodes.now)) ps))
  first_told a m at outer f [] e x named = absurd cc
  first_told a m at outer f (b ∷ ps) e x named = by (nat_lt b a) refl named
    where
      by : (c : Bool) → nat_lt b a ≡ c → (derived outer (if c then declarator_of u.nodes.now b else nowhere)).name ≡ Some x → IsNext a (innermost outer (before nowhere a (declarator_of u.nodes.now) b).next)
      by false q named = absurd cc
      by true q named = subst (λ c. IsNext a (innermost outer (pick c).next)) (sym q) (f b (ap (λ l. slice_get l 0) e) (ltb-true b a q) x named)
        where
          pick : Bool → Named
          pick c = if c then declarator_of u.nodes.now b else nowhere

  kind_told : (a : ℕ) (m : Node) → slice_get u.nodes.now a ≡ Some m → ((b : ℕ) → b < a → IsTold b (declarator_of u.nodes.now b)) → (k : Kind) → m.kind ≡ k → IsTold a (declared_by k (before nowhere a (declarator_of u.nodes.now)) a m)
  kind_told a m at rest kind.NameDeclarator is x named =
      let r = ruled u texts shapes t h holds a m at in
      let early = before_in shapes (cut a t) in (
        ap is_hole_type (r.derived ∙ ap (λ k. derived_by k spelled u.nodes.now early m) is),
        ap made_of (r.declarator ∙ ap (λ k. declarator_by k spelled u.nodes.now early a m) is),
      )
  kind_told a m at rest kind.GroupDeclarator is x named =
      first_told a m at Nothing (λ b e less y n. in_group a b m at e less is (declarator_of u.nodes.now b).next (rest b less y n)) m.parts refl x named
  kind_told a m at rest kind.PointerDeclarator is x named =
      first_told a m at Other (λ b e less y n. in_other a b m at e less (in_pointer a b m at e less is) (declarator_of u.nodes.now b).next (rest b less y n)) m.parts refl x named
  kind_told a m at rest kind.ArrayDeclarator is x named =
      first_told a m at Other (λ b e less y n. in_other a b m at e less (in_array a b m at e less is) (declarator_of u.nodes.now b).next (rest b less y n)) m.parts refl x named
  kind_told a m at rest kind.FunctionDeclarator is x named =
      first_told a m at (Function a) (λ b e less y n. in_function a b m at e less is (declarator_of u.nodes.now b).next (rest b less y n)) m.parts refl x named
  kind_told a m at rest k is x named = absurd cc

  told_if : (a : ℕ) → ((b : ℕ) → b < a → IsTold b (declarator_of u.nodes.now b)) → (o : Option Node) → slice_get u.nodes.now a ≡ o → IsTold a (declared_if o (before nowhere a (declarator_of u.nodes.now)) a)
  told_if a rest None at x named = absurd cc
  told_if a rest (Some m) at x named = kind_told a m at rest m.kind refl x named

  told_below : (fuel a : ℕ) → a < fuel → IsTold a (declarator_of u.nodes.now a)
  told_below zero a low = absurd (omega (arith, low))
  told_below (suc fuel) a low = subst (IsTold a) (sym (declarator_ruled u.nodes.now a)) (told_if a (λ b less. told_below fuel b (omega (arith, low, less))) (slice_get u.nodes.now a) refl)

  -- what declares no function has none next to its name
  pub no_function : (a x f : ℕ) → (declarator_of u.nodes.now a).name ≡ Some x → made_of (own a) ≡ None → (declarator_of u.nodes.now a).next ≡ Function f → ⊥
  no_function a x f named none e = false≢true (sym (ap is_some none) ∙ subst (IsNext a) e (told_below (suc a) a (omega arith) x named))
