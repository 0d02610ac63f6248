-- A part sees what its node does, and what that enters for it (C11 6.2.1p4).
use Rattle.std.proofs.Common.{◌≡◌, ℕ, zero, suc, ◌+◌, ◌<◌, ◌≤◌, ◌==◌, ◌⊎◌, inl, inr, Bool, true, false, ◌&&◌, ◌||◌, not, List, [], ◌∷◌, Option, None, Some, length, refl, sym, subst, ap, ◌∙◌, arith}
use Rattle.std.proofs.lemmas.Bool.{and_parts, and_from, false≢true, not-true, or_left, or_right, eqb-true, eq-eqb}
use Rattle.cr_syntax.specs.declared.node.Kind.{Kind}
use Rattle.cr_syntax.specs.declared.node.Kind.TheVariants as kind
use Rattle.cr_typed.specs.declared.typed.Typed.{Typed}
use Rattle.cr_meaning_operations.specs.Operations.{kind_at, is_lasting, is_static_initialiser}
use Rattle.cr_meaning_soundness.specs.Sorts.{IsAmong}
use Rattle.cr_meaning_declarations.specs.Units.Owned.{AreOfUnit}
use Rattle.cr_meaning_declarations.proofs.NamesLemmas.Parents.{IsPartOf, above_is}
use Rattle.cr_meaning_declarations.proofs.LastingLemmas.Begun.{one_of}
use Rattle.cr_meaning_files.specs.Reached.{is_definition, is_listing, is_reached}
use Rattle.cr_meaning_files.specs.Seen.{entered_for, is_one_of, finds_above, finds_by, finds, knows, sees}
use Rattle.cr_meaning_files.proofs.Living.{above, above_low}

is_among : (d : ℕ) (objects : List ℕ) → is_one_of objects d ≡ true → IsAmong d objects
is_among d [] e = absurd (false≢true e)
is_among d (x ∷ objects) e = by (x == d) refl e (λ f. is_among d objects f)
  where
    by : (b : Bool) → (x == d) ≡ b → (b || is_one_of objects d) ≡ true → (is_one_of objects d ≡ true → IsAmong d objects) → IsAmong d (x ∷ objects)
    by true q f rest = inl (eqb-true x d q)
    by false q f rest = inr (rest f)

among_is : (d : ℕ) (objects : List ℕ) → IsAmong d objects → is_one_of objects d ≡ true
among_is d [] h = absurd h
among_is d (x ∷ objects) (inl e) = or_left (x == d) (is_one_of objects d) (eq-eqb x d e)
among_is d (x ∷ objects) (inr h) = or_right (x == d) (is_one_of objects d) (among_is d objects h)

-- a node of another kind than these enters nothing
abbrev pub enters_nothing : Kind → Bool
enters_nothing kind.FunctionDefinition = false
enters_nothing kind.Compound = false
enters_nothing kind.For = false
enters_nothing k = true

pub listing_enters_nothing : (k : Kind) → is_listing k ≡ true → enters_nothing k ≡ true
listing_enters_nothing kind.InitDeclarator h = refl
listing_enters_nothing kind.InitializerList h = refl
listing_enters_nothing k h = absurd (false≢true h)

module _ (t : Typed) where
  none_entered : (i a : ℕ) (k : Kind) → enters_nothing k ≡ true → entered_for t i k a ≡ []
  none_entered i a kind.FunctionDefinition h = absurd (false≢true h)
  none_entered i a kind.Compound h = absurd (false≢true h)
  none_entered i a kind.For h = absurd (false≢true h)
  none_entered i a k h = refl

  -- ---- what is reached sees what it knows

  pub of_reached : (a d : ℕ) → is_reached t a ≡ true → sees t a d ≡ true → knows t a d ≡ true
  of_reached a d r s = sym (ap (λ b. not b || knows t a d) r) ∙ s

  pub as_seen : (a d : ℕ) → knows t a d ≡ true → sees t a d ≡ true
  as_seen a d k = or_right (not (is_reached t a)) (knows t a d) k

  pub lasting_seen : (a d : ℕ) → is_lasting t d (kind_at t d) ≡ true → sees t a d ≡ true
  lasting_seen a d l = as_seen a d (or_left (is_lasting t d (kind_at t d)) (finds t a d) l)

  module _ (unit : AreOfUnit t) where
    -- ---- a number of steps that is enough

    above_same : (f g : ℕ → Bool) (d a : ℕ) (o : Option ℕ) → ((i : ℕ) → o ≡ Some i → f i ≡ g i) → finds_above t f d a o ≡ finds_above t g d a o
    above_same f g d a None h = refl
    above_same f g d a (Some i) h = ap (λ b. is_one_of (entered_for t i (kind_at t i) a) d || (not (is_definition (kind_at t i)) && b)) (h i refl)

    enough : (m n d a : ℕ) → length t.nodes < m + a → length t.nodes < n + a → a ≤ length t.nodes → finds_by m t d a ≡ finds_by n t d a
    enough zero n d a x y few = absurd (omega (arith, x, few))
    enough (suc m) zero d a x y few = absurd (omega (arith, y, few))
    enough (suc m) (suc n) d a x y few =
        ap (λ b. not (is_static_initialiser t a (kind_at t a)) && b) (above_same (finds_by m t d) (finds_by n t d) d a (above t unit a)
        (λ i e. let low = above_low t unit a i e in enough m n d i (omega (arith, x, low.0)) (omega (arith, y, low.0)) (omega (arith, low.1))))

    abbrev all : ℕ
    all = length t.nodes

    finds_is : (a d : ℕ) → finds t a d ≡ (not (is_static_initialiser t a (kind_at t a)) && finds_above t (λ i. finds t i d) d a (above t unit a))
    finds_is a d =
        ap (λ b. not (is_static_initialiser t a (kind_at t a)) && b) (above_same (finds_by all t d) (λ i. finds t i d) d a (above t unit a)
        (λ i e. let low = above_low t unit a i e in enough all (suc all) d i (omega (arith, low.0)) (omega (arith, low.0)) (omega (arith, low.1))))

    -- what a node finds, by the one above it
    finds_at : (i a d : ℕ) → IsPartOf t unit a i
        → finds t a d ≡ (not (is_static_initialiser t a (kind_at t a)) && (is_one_of (entered_for t i (kind_at t i) a) d || (not (is_definition (kind_at t i)) && finds t i d)))
    finds_at i a d h = finds_is a d ∙ ap (λ o. not (is_static_initialiser t a (kind_at t a)) && finds_above t (λ x. finds t x d) d a o) (above_is t unit a i h)

    -- ---- from a part to its node

    abbrev IsEntered : ℕ → ℕ → ℕ → Type 0
    IsEntered i a d = IsAmong d (entered_for t i (kind_at t i) a)

    -- what a part finds, its node has entered for it, or finds too
    found : (i a d : ℕ) → IsPartOf t unit a i → finds t a d ≡ true → IsEntered i a d ⊎ ((is_definition (kind_at t i) ≡ false) × (finds t i d ≡ true))
    found i a d h f =
        let own = and_parts (not (is_static_initialiser t a (kind_at t a))) _ (sym (finds_at i a d h) ∙ f) in
        elim (one_of (is_one_of (entered_for t i (kind_at t i) a) d) _ own.1) [
          | inl e ↦ inl (is_among d (entered_for t i (kind_at t i) a) e)
          | inr e ↦ (let both = and_parts (not (is_definition (kind_at t i))) (finds t i d) e in inr (not-true (is_definition (kind_at t i)) both.0, both.1))
        ]

    pub climbs : (i a d : ℕ) → IsPartOf t unit a i → knows t a d ≡ true → (knows t i d ≡ true) ⊎ IsEntered i a d
    climbs i a d h e = elim (one_of (is_lasting t d (kind_at t d)) (finds t a d) e) [
      | inl lasting ↦ inl (or_left (is_lasting t d (kind_at t d)) (finds t i d) lasting)
      | inr f ↦ elim (found i a d h f) [
        | inl x ↦ inr x
        | inr x ↦ inl (or_right (is_lasting t d (kind_at t d)) (finds t i d) x.1)
      ]
    ]

    pub up : (i a d : ℕ) → IsPartOf t unit a i → enters_nothing (kind_at t i) ≡ true → knows t a d ≡ true → knows t i d ≡ true
    up i a d h e k = elim (climbs i a d h k) [
      | inl x ↦ x
      | inr x ↦ absurd (subst (IsAmong d) (none_entered i a (kind_at t i) e) x)
    ]

    -- the body of a definition sees its parameters beside what is seen everywhere
    pub from_body : (i a d : ℕ) → IsPartOf t unit a i → is_definition (kind_at t i) ≡ true → knows t a d ≡ true → (is_lasting t d (kind_at t d) ≡ true) ⊎ IsEntered i a d
    from_body i a d h defines e = elim (one_of (is_lasting t d (kind_at t d)) (finds t a d) e) [
      | inl lasting ↦ inl lasting
      | inr f ↦ elim (found i a d h f) [
        | inl x ↦ inr x
        | inr x ↦ absurd (false≢true (sym x.0 ∙ defines))
      ]
    ]

    -- the initialiser of a static object finds nothing around it
    pub at_start : (a d : ℕ) → is_static_initialiser t a (kind_at t a) ≡ true → knows t a d ≡ true → is_lasting t d (kind_at t d) ≡ true
    at_start a d start e = elim (one_of (is_lasting t d (kind_at t d)) (finds t a d) e) [
      | inl lasting ↦ lasting
      | inr f ↦ absurd (false≢true (sym (finds_is a d ∙ ap (λ b. not b && finds_above t (λ i. finds t i d) d a (above t unit a)) start) ∙ f))
    ]

    -- ---- from a node to its part

    pub finds_entered : (i a d : ℕ) → IsPartOf t unit a i → is_static_initialiser t a (kind_at t a) ≡ false → IsEntered i a d → finds t a d ≡ true
    finds_entered i a d h apart e =
        finds_at i a d h ∙ and_from (not (is_static_initialiser t a (kind_at t a))) _ (ap not apart)
        (or_left (is_one_of (entered_for t i (kind_at t i) a) d) _ (among_is d (entered_for t i (kind_at t i) a) e))

    pub finds_outside : (i a d : ℕ) → IsPartOf t unit a i → is_static_initialiser t a (kind_at t a) ≡ false → is_definition (kind_at t i) ≡ false → finds t i d ≡ true → finds t a d ≡ true
    finds_outside i a d h apart plain f =
        finds_at i a d h ∙ and_from (not (is_static_initialiser t a (kind_at t a))) _ (ap not apart)
        (or_right (is_one_of (entered_for t i (kind_at t i) a) d) _ (and_from (not (is_definition (kind_at t i))) (finds t i d) (ap not plain) f))
