-- An entity that a token stands for has a first declaration (C11 6.2.1p7).
use Rattle.std.proofs.Common.{◌≡◌, ℕ, zero, suc, ◌<◌, ◌==◌, Bool, true, false, List, [], ◌∷◌, ◌++◌, Option, None, Some, length, nat_lt, slice_get, slice_index_or, inl, inr, refl, sym, subst, ap, ◌∙◌, arith, if◌then◌else◌}
use Rattle.std.proofs.lemmas.Bool.{cases_lt, false≢true, and_parts, eqb-true, eq-eqb, ltb-true}
use Rattle.cr_scopes_events.specs.declared.event.Event.{Event}
use Rattle.cr_scopes.specs.declared.names.Entity.{Entity}
use Rattle.cr_scopes.specs.declared.names.Names.{Names}
use Rattle.cr_scopes.specs.declared.told.Told.{Told}
use Rattle.cr_scopes.specs.Resolved.{told, past_of, told_below, begins, count_of, number_of, is_number, with_token, entity_of, AreResolved}
use Rattle.cr_scopes_bindings.specs.Entities.{entity_at, first_in, first_if, first_of}
use Rattle.cr_scopes_visibility.proofs.AloneLemmas.First.{number_is, within_is}

abbrev is_filled : List ℕ → Bool
is_filled [] = false
is_filled (t ∷ ts) = true

longer : (ts : List ℕ) (t : ℕ) → is_filled (ts ++ t ∷ []) ≡ true
longer [] t = refl
longer (x ∷ ts) t = refl

first_there : (ts : List ℕ) → is_filled ts ≡ true → (t : ℕ) × (first_in ts ≡ Some t)
first_there [] h = absurd (false≢true h)
first_there (t ∷ ts) h = (t, refl)

abbrev has_some : Entity → Bool
has_some e = is_filled e.declared

first_with : (o : Option Entity) (e : Entity) → o ≡ Some e → has_some e ≡ true → (t : ℕ) × (first_if o ≡ Some t)
first_with o e is h = let first = first_there e.declared h in (first.0, ap first_if is ∙ first.1)

module _ (at : ℕ → Option Told) (k : ℕ) where
  with_one : (m : ℕ) (x : Told) (e : Entity) (c : Bool) → has_some e ≡ true → has_some (if c then record { declared = e.declared ++ m ∷ []; uses = e.uses; space = x.space } else record { declared = e.declared; uses = e.uses ++ m ∷ []; space = x.space }) ≡ true
  with_one m x e true h = longer e.declared m
  with_one m x e false h = h

  kept : (m : ℕ) → has_some (entity_of at m k) ≡ true → has_some (entity_of at (suc m) k) ≡ true
  kept m h = by (is_number (number_of at (at m)) k) (at m)
    where
      by : (b : Bool) (o : Option Told) → has_some (if b then with_token m o (entity_of at m k) else entity_of at m k) ≡ true
      by false o = h
      by true None = h
      by true (Some x) = with_one m x (entity_of at m k) x.declares h

  own : (t : ℕ) (x : Told) → at t ≡ Some x → x.declares ≡ true → is_number (number_of at (at t)) k ≡ true → has_some (entity_of at (suc t) k) ≡ true
  own t x is declares number =
      ap (λ b. has_some (if b then with_token t (at t) (entity_of at t k) else entity_of at t k)) number
      ∙ ap (λ o. has_some (with_token t o (entity_of at t k))) is
      ∙ ap (λ b. has_some (if b then record { declared = (entity_of at t k).declared ++ t ∷ []; uses = (entity_of at t k).uses; space = x.space }
      else record { declared = (entity_of at t k).declared; uses = (entity_of at t k).uses ++ t ∷ []; space = x.space })) declares
      ∙ longer (entity_of at t k).declared t

  filled : (m t : ℕ) (x : Told) → t < m → at t ≡ Some x → x.declares ≡ true → is_number (number_of at (at t)) k ≡ true → has_some (entity_of at m k) ≡ true
  filled zero t x less is declares number = absurd (omega (arith, less))
  filled (suc m) t x less is declares number = elim (cases_lt t m) [
    | inl more ↦ kept m (filled m t x more is declares number)
    | inr le ↦ (let same : t ≡ m = omega (arith, less, le) in subst (λ y. has_some (entity_of at (suc y) k) ≡ true) same (own t x is declares number))
  ]

  -- the token that begins it declares it
  begun : (f : ℕ) → begins (at f) f ≡ true → count_of at f ≡ k → (x : Told) × ((at f ≡ Some x) × ((x.declares ≡ true) × (is_number (number_of at (at f)) k ≡ true)))
  begun f h count = by (at f) refl h
    where
      by : (o : Option Told) → at f ≡ o → begins o f ≡ true → (x : Told) × ((at f ≡ Some x) × ((x.declares ≡ true) × (is_number (number_of at (at f)) k ≡ true)))
      by None e g = absurd (false≢true g)
      by (Some x) e g =
          let both = and_parts x.declares (x.first == f) g in
          let same : x.first ≡ f = eqb-true x.first f both.1 in
          (x, (e, (both.0, ap (λ o. is_number (number_of at o) k) e ∙ ap (λ z. is_number (if begins (at z) z then Some (count_of at z) else None) k) same ∙ ap (λ b. is_number (if b then Some (count_of at f) else None) k) h ∙ eq-eqb (count_of at f) k count)))

few_told : (name : ℕ → ℕ) (events : List Event) (tokens f : ℕ) (x : Told) → told_below name events tokens f ≡ Some x → f < tokens
few_told name events tokens f x e = by (nat_lt f tokens) refl e
  where
    by : (b : Bool) → nat_lt f tokens ≡ b → (if b then told name f (past_of events (length events)) else None) ≡ Some x → f < tokens
    by true q g = ltb-true f tokens q
    by false q g = let never : None ≡ Some x = g in absurd cc

pub first_exists : (name : ℕ → ℕ) (events : List Event) (tokens : ℕ) (names : Names) (token k : ℕ) → AreResolved name events tokens names → token < tokens → entity_at names token ≡ Some k → (first : ℕ) × (first_of names (Some k) ≡ Some first)
first_exists name events tokens names token k resolved low e =
    let at_all = told_below name events tokens in
    let there = within_is (length names.entities) (slice_index_or names.of_token token None) k e in
    let number : number_of at_all (at_all token) ≡ Some k = sym (resolved.names.of_token token low) ∙ there.0 in
    let x = number_is at_all (at_all token) k number in
    let b = begun at_all k x.0.first x.1.1.0 x.1.1.1 in
    let few = few_told name events tokens x.0.first b.0 b.1.0 in
    let filled_is = filled at_all k tokens x.0.first b.0 few b.1.0 b.1.1.0 b.1.1.1 in
    let within : k < length names.entities = ltb-true k (length names.entities) there.1 in
    first_with (slice_get names.entities k) (entity_of at_all tokens k) (resolved.names.entities k (let c = resolved.names.count in omega (arith, within, c))) filled_is
