-- What stands for one first declaration has one number, and what declares it is listed there.
use Rattle.std.proofs.Common.{◌≡◌, ℕ, zero, suc, ◌+◌, ◌<◌, ◌≤◌, ◌==◌, Bool, true, false, ◌||◌, List, [], ◌∷◌, ◌++◌, Option, None, Some, length, inl, inr, refl, sym, subst, ap, ◌∙◌, arith}
use Rattle.std.specs.Prelude.{if◌then◌else◌}
use Rattle.std.specs.List.{list_any}
use Rattle.std.proofs.lemmas.Bool.{false≢true, cases_lt, eq-eqb, lt-ltb, or_left, or_right}
use Rattle.cr_scopes_events.specs.declared.event.Event.{Event}
use Rattle.cr_scopes.specs.declared.names.Entity.{Entity}
use Rattle.cr_scopes.specs.declared.names.Names.{Names}
use Rattle.cr_scopes.specs.declared.told.Told.{Told}
use Rattle.cr_scopes.specs.Looking.{linked}
use Rattle.cr_scopes.specs.Resolved.{told, begins, count_of, number_of, with_token, is_number, entity_of, past_of, told_below, AreResolved}
use Rattle.cr_scopes_bindings.specs.Entities.{entity_within, entity_at, is_declared_by, declares, declared_entity}
use Rattle.cr_scopes_visibility.proofs.AloneLemmas.Telling.{AreRight, all_right}
use Rattle.cr_scopes_bindings.specs.Visible.{visible}
use Rattle.cr_scopes_linkage.specs.Shared.Sorts.{is_tag, Never}
use Rattle.cr_scopes_visibility.specs.Uses.Uses.{is_use}
use Rattle.cr_scopes_visibility.proofs.AloneLemmas.First.{rises}
use Rattle.cr_scopes.specs.Faults.{is_typedef}
use Rattle.cr_scopes_linkage.specs.Meant.Laws
use Rattle.cr_scopes_linkage.specs.Meant.Laws.{times, is_other, AreSorted}
use Rattle.cr_scopes_linkage.proofs.MeantLemmas.Linked.{stood_for, StandsFor, IsUse, used, linked_told, IsFirst, first_is, first_told}
use Rattle.cr_scopes_linkage.proofs.FunctionsLemmas.Shared.{any_there as any_at}

-- ---- how many entities begin

-- ---- the tokens of an entity

any_more : (test : ℕ → Bool) (xs : List ℕ) (t : ℕ) → list_any test xs ≡ true → list_any test (xs ++ t ∷ []) ≡ true
any_more test [] t h = absurd (false≢true h)
any_more test (x ∷ xs) t h = by (test x) h (λ g. any_more test xs t g)
  where
    by : (b : Bool) → (b || list_any test xs) ≡ true → (list_any test xs ≡ true → list_any test (xs ++ t ∷ []) ≡ true) → (b || list_any test (xs ++ t ∷ [])) ≡ true
    by true g rest = refl
    by false g rest = rest g

any_last : (test : ℕ → Bool) (xs : List ℕ) (t : ℕ) → test t ≡ true → list_any test (xs ++ t ∷ []) ≡ true
any_last test [] t h = or_left (test t) false h
any_last test (x ∷ xs) t h = or_right (test x) (list_any test (xs ++ t ∷ [])) (any_last test xs t h)

module _ (at : ℕ → Option Told) (x k : ℕ) (own : Told) (is : at x ≡ Some own) (declares_it : own.declares ≡ true) (number : number_of at (at x) ≡ Some k) where
  abbrev has : Entity → Bool
  has e = list_any (λ d. d == x) e.declared

  keeps : (t : ℕ) (o : Option Told) (e : Entity) → has e ≡ true → has (with_token t o e) ≡ true
  keeps t None e h = h
  keeps t (Some y) e h = by y.declares
    where
      by : (b : Bool) → has (if b then record { declared = e.declared ++ t ∷ []; uses = e.uses; space = y.space } else record { declared = e.declared; uses = e.uses ++ t ∷ []; space = y.space }) ≡ true
      by true = any_more (λ d. d == x) e.declared t h
      by false = h

  adds : (e : Entity) → has (with_token x (at x) e) ≡ true
  adds e =
      ap (λ o. has (with_token x o e)) is
      ∙ ap (λ b. has (if b then record { declared = e.declared ++ x ∷ []; uses = e.uses; space = own.space } else record { declared = e.declared; uses = e.uses ++ x ∷ []; space = own.space })) declares_it
      ∙ any_last (λ d. d == x) e.declared x (eq-eqb x x refl)

  listed : (m : ℕ) → x < m → has (entity_of at m k) ≡ true
  listed zero low = absurd (omega (arith, low))
  listed (suc m) low = elim (cases_lt x m) [
    | inl less ↦ by (is_number (number_of at (at m)) k) (listed m less)
    | inr ge ↦
        (let same : m ≡ x = omega (arith, low, ge) in
        let there : is_number (number_of at (at x)) k ≡ true = ap (λ o. is_number o k) number ∙ eq-eqb k k refl in
        subst (λ t. has (if is_number (number_of at (at t)) k then with_token t (at t) (entity_of at t k) else entity_of at t k) ≡ true) (sym same)
        (ap (λ b. has (if b then with_token x (at x) (entity_of at x k) else entity_of at x k)) there ∙ adds (entity_of at x k)))
  ]
    where
      by : (b : Bool) → has (entity_of at m k) ≡ true → has (if b then with_token m (at m) (entity_of at m k) else entity_of at m k) ≡ true
      by true h = keeps m (at m) (entity_of at m k) h
      by false h = h

-- ---- the law

module _ (name : ℕ → ℕ) (events : List Event) (tokens : ℕ) (names : Names) (token declared : ℕ) (resolved : AreResolved name events tokens names) (sorted : AreSorted events tokens) (low : token < tokens) (less : declared < tokens)
    (uses : is_use token (past_of events (length events)) ≡ true) (few : times token (past_of events (length events)) ≤ 1) (e : visible name (past_of events (length events)) token ≡ Some declared)
    (never : Never is_other declared (past_of events (length events))) where
  abbrev whole : List Event
  whole = past_of events (length events)

  abbrev at : ℕ → Option Told
  at = told_below name events tokens

  right : AreRight name whole
  right = all_right name events resolved.right (length events)

  site : IsUse name token declared whole
  site = used name token declared whole right never uses few e

  abbrev y : ℕ
  y = site.first

  mine : StandsFor name declared true whole
  mine = linked_told name declared whole right never site.named

  same_first : mine.first ≡ y
  same_first = let both : Some mine.first ≡ Some y = sym mine.linked_first ∙ ap (λ s. linked name s whole) site.same ∙ site.linked_first in cc

  first : IsFirst name (name token) y whole
  first = first_is name (name token) y whole site.linked_first

  within : y < tokens
  within = sorted.within y first.value

  own : told name y whole ≡ Some (stood_for y true)
  own = first_told name (name token) y whole right first.same site.linked_first first.named no_type no_tag (sorted.unused y first.value)
    where
      no_type : Never is_typedef y whole
      no_type = elim (sorted.sort y).ordinary [ inl none ↦ absurd (first.value none) | inr none ↦ none ]

      no_tag : Never is_tag y whole
      no_tag = elim (sorted.sort y).tags [ inl none ↦ none | inr none ↦ absurd (first.value none.0) ]

  abbrev number : ℕ
  number = count_of at y

  at_is : (t : ℕ) → t < tokens → at t ≡ told name t whole
  at_is t l = ap (λ b. if b then told name t whole else None) (lt-ltb t tokens l)

  begins_there : begins (at y) y ≡ true
  begins_there = ap (λ o. begins o y) (at_is y within ∙ own) ∙ eq-eqb y y refl

  numbered : (t : ℕ) (declares : Bool) → t < tokens → told name t whole ≡ Some (stood_for y declares) → number_of at (at t) ≡ Some number
  numbered t declares l f = ap (number_of at) (at_is t l ∙ f) ∙ ap (λ b. if b then Some (count_of at y) else None) begins_there

  count_is : number < count_of at tokens
  count_is =
      let next : count_of at (suc y) ≡ count_of at y + 1 = ap (λ b. if b then count_of at y + 1 else count_of at y) begins_there in
      let more = rises at (suc y) tokens (let w = within in omega (arith, w)) in
      omega (arith, next, more)

  there : number < length names.entities
  there = let c = resolved.names.count in let k = count_is in omega (arith, c, k)

  entity_is : (t : ℕ) → t < tokens → number_of at (at t) ≡ Some number → entity_at names t ≡ Some number
  entity_is t l n =
      ap (entity_within (length names.entities)) (resolved.names.of_token t l ∙ n)
      ∙ ap (λ b. if b then Some number else None) (lt-ltb number (length names.entities) there)

  its_number : number_of at (at declared) ≡ Some number
  its_number = numbered declared true less (mine.is ∙ ap (λ z. Some (stood_for z true)) same_first)

  declares_it : declares names declared ≡ true
  declares_it =
      any_at (is_declared_by declared) names.entities number (entity_of at tokens number) (resolved.names.entities number count_is)
      (listed at declared number (stood_for mine.first true) (at_is declared less ∙ mine.is) refl its_number tokens less)

  both_stand : (k : ℕ) × ((entity_at names token ≡ Some k) × (declared_entity names declared ≡ Some k))
  both_stand =
      (number, (entity_is token low (numbered token false low site.is), ap (λ b. if b then entity_at names declared else None) declares_it ∙ entity_is declared less its_number))

pub stand : Laws.UsesStandForDeclarations
stand name events tokens names token declared resolved sorted low less uses few e never = both_stand name events tokens names token declared resolved sorted low less uses few e never
