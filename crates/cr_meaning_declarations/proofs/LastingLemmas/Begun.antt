-- The token that declares an entity first stands for it.
use Rattle.std.proofs.Common.{◌≡◌, ℕ, zero, suc, ◌<◌, ◌==◌, Bool, true, false, ◌||◌, List, [], ◌∷◌, ◌++◌, Option, None, Some, ◌⊎◌, inl, inr, length, slice_get, refl, sym, subst, ap, ◌∙◌, arith}
use Rattle.std.specs.Prelude.{if◌then◌else◌}
use Rattle.std.specs.List.{list_any}
use Rattle.std.proofs.lemmas.Bool.{false≢true, eqb-true, eq-eqb, lt-ltb, or_left, or_right}
use Rattle.std.proofs.lemmas.Option.{slice_get_within, same_Some}
use Rattle.cr_scopes_events.specs.declared.event.Event.{Event}
use Rattle.cr_scopes.specs.declared.names.Entity.{Entity}
use Rattle.cr_scopes.specs.declared.names.Names.{Names}
use Rattle.cr_scopes.specs.declared.told.Told.{Told}
use Rattle.cr_scopes.specs.Resolved.{number_of, with_token, is_number, entity_of, told_below, AreResolved}
use Rattle.cr_scopes_bindings.specs.Entities.{entity_within, entity_at, first_in, first_if, first_of}
use Rattle.cr_scopes_visibility.proofs.AloneLemmas.First.{number_same}

pub one_of : (a b : Bool) → (a || b) ≡ true → (a ≡ true) ⊎ (b ≡ true)
one_of true b h = inl refl
one_of false b h = inr h

any_more : (token : ℕ) (xs : List ℕ) (t : ℕ) → list_any (λ d. d == token) (xs ++ t ∷ []) ≡ true → (list_any (λ d. d == token) xs ≡ true) ⊎ (t ≡ token)
any_more token [] t h = elim (one_of (t == token) false h) [ inl own ↦ inr (eqb-true t token own) | inr never ↦ absurd (false≢true never) ]
any_more token (x ∷ xs) t h = elim (one_of (x == token) (list_any (λ d. d == token) (xs ++ t ∷ [])) h) [
  | inl own ↦ inl (or_left (x == token) (list_any (λ d. d == token) xs) own)
  | inr rest ↦ elim (any_more token xs t rest) [ inl here ↦ inl (or_right (x == token) (list_any (λ d. d == token) xs) here) | inr same ↦ inr same ]
]

pub any_first : (token : ℕ) (xs : List ℕ) → first_in xs ≡ Some token → list_any (λ d. d == token) xs ≡ true
any_first token [] e = absurd cc
any_first token (x ∷ xs) e = or_left (x == token) (list_any (λ d. d == token) xs) (eq-eqb x token (same_Some x token e))

-- what an entity declares stands for it
module _ (at : ℕ → Option Told) (token k : ℕ) where
  abbrev Stands : Type 0
  Stands = is_number (number_of at (at token)) k ≡ true

  abbrev has : Entity → Bool
  has e = list_any (λ d. d == token) e.declared

  with_one : (t : ℕ) (o : Option Told) (e : Entity) → has (with_token t o e) ≡ true → (has e ≡ true) ⊎ (t ≡ token)
  with_one t None e h = inl h
  with_one t (Some x) e h = by x.declares h
    where
      by : (b : Bool) → has (if b then record { declared = e.declared ++ t ∷ []; uses = e.uses; space = x.space } else record { declared = e.declared; uses = e.uses ++ t ∷ []; space = x.space }) ≡ true → (has e ≡ true) ⊎ (t ≡ token)
      by true h = any_more token e.declared t h
      by false h = inl h

  stands : (m : ℕ) → has (entity_of at m k) ≡ true → Stands
  stands zero h = absurd (false≢true h)
  stands (suc m) h = by (is_number (number_of at (at m)) k) refl h (λ r. stands m r)
    where
      by : (b : Bool) → is_number (number_of at (at m)) k ≡ b → has (if b then with_token m (at m) (entity_of at m k) else entity_of at m k) ≡ true → (has (entity_of at m k) ≡ true → Stands) → Stands
      by true q h more = elim (with_one m (at m) (entity_of at m k) h) [
        | inl rest ↦ more rest
        | inr same ↦ subst (λ t. is_number (number_of at (at t)) k ≡ true) same q
      ]
      by false q h more = more h

pub begun_own : (name : ℕ → ℕ) (events : List Event) (tokens : ℕ) (names : Names) (first k : ℕ) → AreResolved name events tokens names → first < tokens → first_of names (Some k) ≡ Some first → entity_at names first ≡ Some k
begun_own name events tokens names first k resolved low e = by (slice_get names.entities k) refl e
  where
    by : (o : Option Entity) → slice_get names.entities k ≡ o → first_if o ≡ Some first → entity_at names first ≡ Some k
    by None q e = absurd cc
    by (Some x) q e =
        let few : k < length names.entities = slice_get_within names.entities k x q in
        let own : x ≡ entity_of (told_below name events tokens) tokens k =
        same_Some x (entity_of (told_below name events tokens) tokens k) (sym q ∙ resolved.names.entities k (let c = resolved.names.count in omega (arith, few, c))) in
        let there = stands (told_below name events tokens) first k tokens (subst (λ (y : Entity). list_any (λ d. d == first) y.declared ≡ true) own (any_first first x.declared e)) in
        ap (entity_within (length names.entities)) (resolved.names.of_token first low ∙ number_same _ k there)
        ∙ ap (λ b. if b then Some k else None) (lt-ltb k (length names.entities) few)
