-- The tokens that declare an entity, in their order; the first one is the least (C11 6.2.2p2).
use Rattle.std.proofs.Common.{◌≡◌, ℕ, zero, suc, ◌<◌, ◌≤◌, ◌==◌, ◌||◌, Bool, true, false, List, [], ◌∷◌, ◌++◌, Option, None, Some, length, slice_get, slice_index_or, ◌⊎◌, inl, inr, refl, sym, subst, ap, ◌∙◌, arith, if◌then◌else◌}
use Rattle.std.specs.List.{list_any}
use Rattle.std.proofs.lemmas.Bool.{cases_lt, false≢true, eq-eqb, eqb-true, or_left, or_right, ltb-true}
use Rattle.std.proofs.lemmas.List.{get_or_past}
use Rattle.std.proofs.lemmas.Option.{same_Some}
use Rattle.cr_scopes_bindings.specs.Last.{last_with}
use Rattle.cr_scopes_events.specs.declared.event.Role.{Role}
use Rattle.cr_scopes_events.specs.declared.event.Role.TheVariants as role
use Rattle.cr_scopes_events.specs.declared.event.Event.{Event}
use Rattle.cr_scopes_events.specs.declared.event.Event.TheVariants as event
use Rattle.cr_scopes.specs.declared.names.Entity.{Entity}
use Rattle.cr_scopes.specs.declared.names.Names.{Names}
use Rattle.cr_scopes.specs.declared.scope.Look.{Look}
use Rattle.cr_scopes.specs.declared.scope.Found.{Found}
use Rattle.cr_scopes.specs.declared.scope.Space.TheVariants.{Tag}
use Rattle.cr_scopes.specs.declared.told.Told.{Told}
use Rattle.cr_scopes.specs.Looking.{look}
use Rattle.cr_scopes.specs.Resolved.{space_of, declares_by, told_if, told_of, told, number_of, with_token, is_number, entity_of, with_event, past_of, told_below, AreResolved}
use Rattle.cr_scopes_bindings.specs.Entities.{entity_within, entity_at, is_declared_by, declares, declared_entity, first_in, first_if, first_of}
use Rattle.cr_scopes_visibility.proofs.AloneLemmas.First.{number_is, told_there, within_is, number_same as number_is_it}
use Rattle.cr_scopes_linkage.specs.Shared.Sorts.{Never}
use Rattle.cr_scopes_typedef_names.specs.Tellings.Tellings.{AllNames}
use Rattle.cr_meaning_declarations.proofs.LastingLemmas.Begun.{any_first}

-- ---- lists

any_last : (t : ℕ) (xs : List ℕ) → list_any (λ d. d == t) (xs ++ t ∷ []) ≡ true
any_last t [] = or_left (t == t) false (eq-eqb t t refl)
any_last t (x ∷ xs) = or_right (x == t) (list_any (λ d. d == t) (xs ++ t ∷ [])) (any_last t xs)

any_more : (t m : ℕ) (xs : List ℕ) → list_any (λ d. d == t) xs ≡ true → list_any (λ d. d == t) (xs ++ m ∷ []) ≡ true
any_more t m [] h = absurd (false≢true h)
any_more t m (x ∷ xs) h = by (x == t) h (λ g. any_more t m xs g)
  where
    by : (b : Bool) → (b || list_any (λ d. d == t) xs) ≡ true → (list_any (λ d. d == t) xs ≡ true → list_any (λ d. d == t) (xs ++ m ∷ []) ≡ true) → (b || list_any (λ d. d == t) (xs ++ m ∷ [])) ≡ true
    by true h rest = refl
    by false h rest = rest h

any_at : (t : ℕ) (es : List Entity) (k : ℕ) (e : Entity) → slice_get es k ≡ Some e → is_declared_by t e ≡ true → list_any (is_declared_by t) es ≡ true
any_at t [] k e at h = absurd cc
any_at t (x ∷ es) zero e at h = let same : x ≡ e = cc in or_left (is_declared_by t x) (list_any (is_declared_by t) es) (ap (is_declared_by t) same ∙ h)
any_at t (x ∷ es) (suc k) e at h = or_right (is_declared_by t x) (list_any (is_declared_by t) es) (any_at t es k e at h)

first_more : (xs : List ℕ) (m f : ℕ) → first_in (xs ++ m ∷ []) ≡ Some f → (first_in xs ≡ Some f) ⊎ ((xs ≡ []) × (m ≡ f))
first_more [] m f e = inr (refl, same_Some m f e)
first_more (x ∷ xs) m f e = inl e

-- ---- the tokens of an entity

module _ (at : ℕ → Option Told) (k : ℕ) where
  abbrev declared_by : Entity → List ℕ
  declared_by e = e.declared

  abbrev so_far : ℕ → List ℕ
  so_far m = (entity_of at m k).declared

  record IsOne (t : ℕ) : Type 0 where
    own : Told
    is : at t ≡ Some own
    declares_it : own.declares ≡ true
    number : is_number (number_of at (at t)) k ≡ true

  token_added : (t : ℕ) (x : Told) (e : Entity) → declared_by (with_token t (Some x) e) ≡ (if x.declares then e.declared ++ t ∷ [] else e.declared)
  token_added t x e = by x.declares
    where
      by : (b : Bool) → declared_by (if b then record { declared = e.declared ++ t ∷ []; uses = e.uses; space = x.space } else record { declared = e.declared; uses = e.uses ++ t ∷ []; space = x.space })
          ≡ (if b then e.declared ++ t ∷ [] else e.declared)
      by true = refl
      by false = refl

  -- one of them comes last
  added : (t : ℕ) → IsOne t → so_far (suc t) ≡ so_far t ++ t ∷ []
  added t h =
      ap (λ b. declared_by (if b then with_token t (at t) (entity_of at t k) else entity_of at t k)) h.number
      ∙ ap (λ o. declared_by (with_token t o (entity_of at t k))) h.is
      ∙ token_added t h.own (entity_of at t k)
      ∙ ap (λ b. if b then so_far t ++ t ∷ [] else so_far t) h.declares_it

  step : (m : ℕ) → (so_far (suc m) ≡ so_far m ++ m ∷ []) ⊎ (so_far (suc m) ≡ so_far m)
  step m = by (is_number (number_of at (at m)) k) (at m)
    where
      by : (b : Bool) (o : Option Told)
          → (declared_by (if b then with_token m o (entity_of at m k) else entity_of at m k) ≡ so_far m ++ m ∷ []) ⊎ (declared_by (if b then with_token m o (entity_of at m k) else entity_of at m k) ≡ so_far m)
      by false o = inr refl
      by true None = inr refl
      by true (Some x) = own x.declares (token_added m x (entity_of at m k))
        where
          own : (c : Bool) → declared_by (with_token m (Some x) (entity_of at m k)) ≡ (if c then so_far m ++ m ∷ [] else so_far m)
              → (declared_by (with_token m (Some x) (entity_of at m k)) ≡ so_far m ++ m ∷ []) ⊎ (declared_by (with_token m (Some x) (entity_of at m k)) ≡ so_far m)
          own true e = inl e
          own false e = inr e

  among : (m t : ℕ) → t < m → IsOne t → list_any (λ d. d == t) (so_far m) ≡ true
  among zero t less h = absurd (omega (arith, less))
  among (suc m) t less h = elim (cases_lt t m) [
    | inl more ↦
        (let early = among m t more h in
        elim (step m) [
          | inl e ↦ ap (list_any (λ d. d == t)) e ∙ any_more t m (so_far m) early
          | inr e ↦ ap (list_any (λ d. d == t)) e ∙ early
        ])
    | inr le ↦
        (let same : t ≡ m = omega (arith, less, le) in
        subst (λ x. list_any (λ d. d == t) (so_far (suc x)) ≡ true) same (ap (list_any (λ d. d == t)) (added t h) ∙ any_last t (so_far t)))
  ]

  below : (m f : ℕ) → first_in (so_far m) ≡ Some f → f < m
  below zero f e = absurd cc
  below (suc m) f e = elim (step m) [
    | inl x ↦ elim (first_more (so_far m) m f (sym (ap first_in x) ∙ e)) [
      | inl early ↦ (let less = below m f early in omega (arith, less))
      | inr own ↦ (let same = own.1 in omega (arith, same))
    ]
    | inr x ↦ (let less = below m f (sym (ap first_in x) ∙ e) in omega (arith, less))
  ]

  -- the first one is the least
  least : (m f t : ℕ) → first_in (so_far m) ≡ Some f → t < m → IsOne t → f ≤ t
  least zero f t e less h = absurd cc
  least (suc m) f t e less h = elim (cases_lt t m) [
    | inl more ↦ elim (step m) [
      | inl x ↦ elim (first_more (so_far m) m f (sym (ap first_in x) ∙ e)) [
        | inl early ↦ least m f t early more h
        | inr own ↦ absurd (false≢true (sym (ap (list_any (λ d. d == t)) own.0) ∙ among m t more h))
      ]
      | inr x ↦ least m f t (sym (ap first_in x) ∙ e) more h
    ]
    | inr le ↦ (let low = below (suc m) f e in omega (arith, less, le, low))
  ]

-- ---- what is told of a token that declares

-- the role of a use, or of a tag that is mentioned
abbrev pub is_silent : Role → Bool
is_silent role.Used = true
is_silent role.Mentioned = true
is_silent r = false

speaks : (r : Role) (tag : Look) → is_silent r ≡ false → declares_by r tag ≡ true
speaks role.Used tag h = absurd (false≢true (sym h))
speaks role.Mentioned tag h = absurd (false≢true (sym h))
speaks r tag h = refl

told_declares : (b : Bool) (r : Role) (o : Option Found) (x : Told) → told_if b r o ≡ Some x → b ≡ true → x.declares ≡ true
told_declares b r None x e h = absurd cc
told_declares b r (Some found) x e h = let same : b ≡ x.declares = cc in sym same ∙ h

declaring : (name : ℕ → ℕ) (token : ℕ) (past : List Event) (x : Told) → Never is_silent token past → told name token past ≡ Some x → x.declares ≡ true
declaring name token [] x never e = absurd cc
declaring name token (event.Name t r ∷ past) x never e = by (token == t) refl e (λ f. declaring name token past x never.1 f)
  where
    by : (b : Bool) → (token == t) ≡ b → (if b then told_of name past t r else told name token past) ≡ Some x → (told name token past ≡ Some x → x.declares ≡ true) → x.declares ≡ true
    by false q f rest = rest f
    by true q f rest =
        let same = eqb-true token t q in
        let tag = look name Tag (name t) zero past in
        told_declares (declares_by r tag) r (look name (space_of r) (name t) zero (event.Name t r ∷ past)).seen x f (speaks r tag (never.0 (sym same)))
declaring name token (event.Opens ∷ past) x never e = declaring name token past x never e
declaring name token (event.Closes ∷ past) x never e = declaring name token past x never e
declaring name token (event.Member t j ∷ past) x never e = declaring name token past x never e
declaring name token (event.Node i ∷ past) x never e = declaring name token past x never e

-- of all events in turn
never_at : (test : Role → Bool) (P : ℕ → Role → Type 0) (token : ℕ) → ((t : ℕ) (r : Role) → P t r → t ≡ token → test r ≡ false) → (es : List Event) → AllNames P es → (k : ℕ) → (o : Option Event) → slice_get es k ≡ o
    → (past : List Event) → Never test token past → Never test token (with_event o past)
never_at test P token f es all k None e past h = h
never_at test P token f [] all k (Some x) e past h = absurd cc
never_at test P token f (x ∷ es) all zero (Some y) e past h = let same : x ≡ y = cc in subst (λ z. Never test token (z ∷ past)) same (one x all)
  where
    one : (z : Event) → AllNames P (z ∷ es) → Never test token (z ∷ past)
    one (event.Name t r) a = ((λ q. f t r a.0 q), h)
    one event.Opens a = h
    one event.Closes a = h
    one (event.Member t j) a = h
    one (event.Node i) a = h
never_at test P token f (event.Name t r ∷ es) all (suc k) (Some y) e past h = never_at test P token f es all.1 k (Some y) e past h
never_at test P token f (event.Opens ∷ es) all (suc k) (Some y) e past h = never_at test P token f es all k (Some y) e past h
never_at test P token f (event.Closes ∷ es) all (suc k) (Some y) e past h = never_at test P token f es all k (Some y) e past h
never_at test P token f (event.Member t j ∷ es) all (suc k) (Some y) e past h = never_at test P token f es all k (Some y) e past h
never_at test P token f (event.Node i ∷ es) all (suc k) (Some y) e past h = never_at test P token f es all k (Some y) e past h

pub never_told : (test : Role → Bool) (P : ℕ → Role → Type 0) (token : ℕ) → ((t : ℕ) (r : Role) → P t r → t ≡ token → test r ≡ false) → (es : List Event) → AllNames P es → (k : ℕ) → Never test token (past_of es k)
never_told test P token f es all zero = tt
never_told test P token f es all (suc k) = never_at test P token f es all k (slice_get es k) refl (past_of es k) (never_told test P token f es all k)

-- ---- the last number with a key

pub record IsLast (key : ℕ → Option ℕ) (b k q : ℕ) : Type 0 where
  pub last : ℕ
  pub is : last_with key b k ≡ Some last
  pub has : key last ≡ Some k
  pub behind : q ≤ last
  pub low : last < b

pub last_there : (key : ℕ → Option ℕ) (b k q : ℕ) → q < b → key q ≡ Some k → IsLast key b k q
last_there key zero k q less h = absurd (omega (arith, less))
last_there key (suc b) k q less h = by (is_number (key b) k) refl (λ x. last_there key b k q x h)
  where
    by : (c : Bool) → is_number (key b) k ≡ c → (q < b → IsLast key b k q) → IsLast key (suc b) k q
    by true e rest = record { last = b; is = ap (λ c. if c then Some b else last_with key b k) e; has = number_is_it (key b) k e; behind = omega (arith, less); low = omega arith }
    by false e rest = elim (cases_lt q b) [
      | inl more ↦
          (let x = rest more in
          let low = x.low in
          record { last = x.last; is = ap (λ c. if c then Some b else last_with key b k) e ∙ x.is; has = x.has; behind = x.behind; low = omega (arith, low) })
      | inr ge ↦
          (let same : b ≡ q = omega (arith, less, ge) in
          absurd (false≢true (sym e ∙ ap (λ y. is_number (key y) k) same ∙ ap (λ o. is_number o k) h ∙ eq-eqb k k refl)))
    ]

pub entity_if_declared : (b : Bool) (o : Option ℕ) (k : ℕ) → (if b then o else None) ≡ Some k → o ≡ Some k
entity_if_declared true o k e = e
entity_if_declared false o k e = absurd cc

pub entity_of_declared : (names : Names) (token k : ℕ) → declared_entity names token ≡ Some k → entity_at names token ≡ Some k
entity_of_declared names token k e = entity_if_declared (declares names token) (entity_at names token) k e

-- ---- of a unit without faults

module _ (name : ℕ → ℕ) (events : List Event) (tokens : ℕ) (names : Names) (resolved : AreResolved name events tokens names) where
  abbrev at_all : ℕ → Option Told
  at_all = told_below name events tokens

  abbrev all_of : List Event
  all_of = past_of events (length events)

  entity_is : (k : ℕ) → k < length names.entities → slice_get names.entities k ≡ Some (entity_of at_all tokens k)
  entity_is k few = resolved.names.entities k (let c = resolved.names.count in omega (arith, few, c))

  -- what stands for an entity and is told as declaring alone is one of its tokens
  one_of : (token k : ℕ) → token < tokens → entity_at names token ≡ Some k → Never is_silent token all_of → IsOne at_all k token
  one_of token k low e never =
      let there = within_is (length names.entities) (slice_index_or names.of_token token None) k e in
      let number : number_of at_all (at_all token) ≡ Some k = sym (resolved.names.of_token token low) ∙ there.0 in
      let x = number_is at_all (at_all token) k number in
      record {
        own = x.0;
        is = x.1.0;
        declares_it = declaring name token all_of x.0 never (told_there name events tokens token x.0 x.1.0);
        number = ap (λ o. is_number o k) number ∙ eq-eqb k k refl;
      }

  pub few_of : (token k : ℕ) → entity_at names token ≡ Some k → k < length names.entities
  few_of token k e = ltb-true k (length names.entities) (within_is (length names.entities) (slice_index_or names.of_token token None) k e).1

  pub declares_entity : (token k : ℕ) → token < tokens → entity_at names token ≡ Some k → Never is_silent token all_of → declared_entity names token ≡ Some k
  declares_entity token k low e never =
      let few = few_of token k e in
      ap (λ b. if b then entity_at names token else None)
      (any_at token names.entities k (entity_of at_all tokens k) (entity_is k few) (among at_all k tokens token low (one_of token k low e never))) ∙ e

  first_is : (k first : ℕ) → first_of names (Some k) ≡ Some first → k < length names.entities → first_in (so_far at_all k tokens) ≡ Some first
  first_is k first e few = sym (ap first_if (entity_is k few)) ∙ e

  -- the first token of an entity declares it too
  pub first_declares : (k first : ℕ) → first_of names (Some k) ≡ Some first → k < length names.entities → entity_at names first ≡ Some k → declared_entity names first ≡ Some k
  first_declares k first e few own =
      ap (λ b. if b then entity_at names first else None) (any_at first names.entities k (entity_of at_all tokens k) (entity_is k few) (any_first first (so_far at_all k tokens) (first_is k first e few))) ∙ own

  -- and is the least one
  pub first_least : (token k first : ℕ) → token < tokens → entity_at names token ≡ Some k → Never is_silent token all_of → first_of names (Some k) ≡ Some first → first ≤ token
  first_least token k first low e never f = least at_all k tokens first token (first_is k first f (few_of token k e)) low (one_of token k low e never)

  -- a token with an entity is one of the unit's
  pub token_low : (token k : ℕ) → entity_at names token ≡ Some k → token < tokens
  token_low token k e = elim (cases_lt token tokens) [
    | inl less ↦ less
    | inr past ↦
        (let count = resolved.names.tokens in
        let none : slice_index_or names.of_token token None ≡ None = get_or_past names.of_token token None (omega (arith, past, count)) in
        let never : None ≡ Some k = sym (ap (entity_within (length names.entities)) none) ∙ e in
        absurd cc)
  ]
