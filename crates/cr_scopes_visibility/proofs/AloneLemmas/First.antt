-- The entity of an identifier without linkage has it as its first declaration.
use Rattle.std.proofs.Common.{◌≡◌, ℕ, zero, suc, ◌+◌, ◌<◌, ◌≤◌, Bool, true, false, List, [], ◌∷◌, ◌++◌, Option, None, Some, length, nat_lt, slice_get, slice_index_or, inl, inr, refl, sym, subst, ap, ◌∙◌, arith}
use Rattle.std.specs.Prelude.{if◌then◌else◌}
use Rattle.std.proofs.lemmas.Bool.{false≢true, eqb-true, eq-eqb, cases_lt, ltb-true}
use Rattle.std.proofs.lemmas.Option.{same_Some}
use Rattle.cr_scopes_events.specs.declared.event.Event.{Event}
use Rattle.cr_scopes.specs.declared.names.Entity.{Entity}
use Rattle.cr_scopes.specs.declared.told.Told.{Told}
use Rattle.cr_scopes.specs.Resolved.{told, begins, count_of, number_of, with_token, is_number, entity_of, past_of, told_below}
use Rattle.cr_scopes_bindings.specs.Entities.{entity_within, entity_at, first_in, first_if, first_of}
use Rattle.cr_scopes_visibility.specs.Alone.Laws
use Rattle.cr_scopes_visibility.proofs.AloneLemmas.Telling.{AreRight, all_right, token_told, none_other}

-- ---- how many entities begin

pub one_if : (b : Bool) (n : ℕ) → n ≤ (if b then n + 1 else n)
one_if true n = omega arith
one_if false n = omega arith

pub rises : (at : ℕ → Option Told) (a b : ℕ) → a ≤ b → count_of at a ≤ count_of at b
rises at a zero le = let e : a ≡ 0 = omega (arith, le) in subst (λ x. count_of at x ≤ count_of at 0) (sym e) (omega arith)
rises at a (suc b) le = elim (cases_lt b a) [
  | inl more ↦ (let e : a ≡ suc b = omega (arith, le, more) in subst (λ x. count_of at x ≤ count_of at (suc b)) (sym e) (omega arith))
  | inr less ↦ (let x = rises at a b less in let y = one_if (begins (at b) b) (count_of at b) in omega (arith, x, y))
]

behind : (at : ℕ → Option Told) (a : ℕ) → begins (at a) a ≡ true → count_of at (suc a) ≡ count_of at a + 1
behind at a h = ap (λ b. if b then count_of at a + 1 else count_of at a) h

-- two tokens that begin entities of one number are one
pub one_number : (at : ℕ → Option Told) (a b : ℕ) → begins (at a) a ≡ true → begins (at b) b ≡ true → count_of at a ≡ count_of at b → a ≡ b
one_number at a b h g e = elim (cases_lt a b) [
  | inl less ↦ (let x = rises at (suc a) b (omega (arith, less)) in let y = behind at a h in absurd (omega (arith, e, x, y)))
  | inr le ↦ elim (cases_lt b a) [
    | inl more ↦ (let x = rises at (suc b) a (omega (arith, more)) in let y = behind at b g in absurd (omega (arith, e, x, y)))
    | inr ge ↦ omega (arith, le, ge)
  ]
]

-- the number of an entity is how many begin before the token that it begins with
pub number_is : (at : ℕ → Option Told) (o : Option Told) (k : ℕ) → number_of at o ≡ Some k → (x : Told) × ((o ≡ Some x) × ((begins (at x.first) x.first ≡ true) × (count_of at x.first ≡ k)))
number_is at None k e = absurd cc
number_is at (Some x) k e = by (begins (at x.first) x.first) refl e
  where
    by : (b : Bool) → begins (at x.first) x.first ≡ b → (if b then Some (count_of at x.first) else None) ≡ Some k
        → (y : Told) × ((Some x ≡ Some y) × ((begins (at y.first) y.first ≡ true) × (count_of at y.first ≡ k)))
    by true q e = let same : count_of at x.first ≡ k = cc in (x, (refl, (q, same)))
    by false q e = absurd cc

pub number_same : (o : Option ℕ) (k : ℕ) → is_number o k ≡ true → o ≡ Some k
number_same None k e = absurd (false≢true e)
number_same (Some j) k e = ap Some (eqb-true j k e)

-- ---- the tokens that declare an entity

module _ (at : ℕ → Option Told) (tok k : ℕ) (own : Told) (own_at : at tok ≡ Some own) (own_declares : own.declares ≡ true) (is_its : is_number (number_of at (at tok)) k ≡ true)
    (others : (t : ℕ) (x : Told) → at t ≡ Some x → x.declares ≡ true → is_number (number_of at (at t)) k ≡ true → t ≡ tok) where
  abbrev declared_by : Entity → List ℕ
  declared_by e = e.declared

  abbrev declared : ℕ → List ℕ
  declared m = (entity_of at m k).declared

  -- another token adds nothing
  adds : (t : ℕ) (e : Entity) (o : Option Told) → ((x : Told) → o ≡ Some x → x.declares ≡ true → ⊥) → (with_token t o e).declared ≡ e.declared
  adds t e None f = refl
  adds t e (Some x) f = by x.declares refl
    where
      by : (b : Bool) → x.declares ≡ b → declared_by (if b then record { declared = e.declared ++ t ∷ []; uses = e.uses; space = x.space } else record { declared = e.declared; uses = e.uses ++ t ∷ []; space = x.space }) ≡ e.declared
      by true q = absurd (f x refl q)
      by false q = refl

  skips : (t : ℕ) (e : Entity) → (t ≡ tok → ⊥) → declared_by (if is_number (number_of at (at t)) k then with_token t (at t) e else e) ≡ e.declared
  skips t e other = by (is_number (number_of at (at t)) k) refl
    where
      by : (b : Bool) → is_number (number_of at (at t)) k ≡ b → declared_by (if b then with_token t (at t) e else e) ≡ e.declared
      by true q = adds t e (at t) (λ x here d. other (others t x here d q))
      by false q = refl

  -- before it none, and then it alone
  nobody_yet : (m : ℕ) → m ≤ tok → declared m ≡ []
  nobody_yet zero le = refl
  nobody_yet (suc m) le = skips m (entity_of at m k) (λ same. absurd (omega (arith, le, same))) ∙ nobody_yet m (omega (arith, le))

  itself : declared (suc tok) ≡ tok ∷ []
  itself =
      ap (λ b. declared_by (if b then with_token tok (at tok) (entity_of at tok k) else entity_of at tok k)) is_its
      ∙ ap (λ o. declared_by (with_token tok o (entity_of at tok k))) own_at
      ∙ ap (λ b. declared_by (if b then record { declared = (entity_of at tok k).declared ++ tok ∷ []; uses = (entity_of at tok k).uses; space = own.space }
      else record { declared = (entity_of at tok k).declared; uses = (entity_of at tok k).uses ++ tok ∷ []; space = own.space })) own_declares
      ∙ ap (λ ds. ds ++ tok ∷ []) (nobody_yet tok (omega arith))

  alone_from : (m : ℕ) → tok < m → declared m ≡ tok ∷ []
  alone_from zero less = absurd (omega (arith, less))
  alone_from (suc m) less = elim (cases_lt tok m) [
    | inl more ↦ skips m (entity_of at m k) (λ same. absurd (omega (arith, more, same))) ∙ alone_from m more
    | inr le ↦ (let e : m ≡ tok = omega (arith, less, le) in subst (λ n. declared (suc n) ≡ tok ∷ []) (sym e) itself)
  ]

-- ---- the law

pub told_there : (name : ℕ → ℕ) (events : List Event) (tokens t : ℕ) (x : Told) → told_below name events tokens t ≡ Some x → told name t (past_of events (length events)) ≡ Some x
told_there name events tokens t x e = by (nat_lt t tokens) e
  where
    by : (b : Bool) → (if b then told name t (past_of events (length events)) else None) ≡ Some x → told name t (past_of events (length events)) ≡ Some x
    by true e = e
    by false e = absurd cc

pub within_is : (count : ℕ) (o : Option ℕ) (e : ℕ) → entity_within count o ≡ Some e → (o ≡ Some e) × (nat_lt e count ≡ true)
within_is count None e h = absurd cc
within_is count (Some k) e h = by (nat_lt k count) refl h
  where
    by : (b : Bool) → nat_lt k count ≡ b → (if b then Some k else None) ≡ Some e → (Some k ≡ Some e) × (nat_lt e count ≡ true)
    by true q h = let same : k ≡ e = cc in (h, subst (λ n. nat_lt n count ≡ true) same q)
    by false q h = absurd cc

pub first_is : Laws.AloneIsFirst
first_is name events tokens names token found resolved low alone h = by (entity_at names token) refl h
  where
    at : ℕ → Option Told
    at = told_below name events tokens

    right : AreRight name (past_of events (length events))
    right = all_right name events resolved.right (length events)

    by : (o : Option ℕ) → entity_at names token ≡ o → first_of names o ≡ Some found → found ≡ token
    by None q h = absurd cc
    by (Some k) q h =
        let there = within_is (length names.entities) (slice_index_or names.of_token token None) k q in
        let number : number_of at (at token) ≡ Some k = sym (resolved.names.of_token token low) ∙ there.0 in
        let is = number_is at (at token) k number in
        let own = is.0 in
        let past = past_of events (length events) in
        let told_own = token_told name token past alone right own (told_there name events tokens token own is.1.0) in
        let begins_own : begins (at token) token ≡ true = subst (λ f. begins (at f) f ≡ true) told_own.1 is.1.1.0 in
        let count_own : count_of at token ≡ k = subst (λ f. count_of at f ≡ k) told_own.1 is.1.1.1 in
        let few : k < length names.entities = ltb-true k (length names.entities) there.1 in
        let entity : slice_get names.entities k ≡ Some (entity_of at tokens k) = resolved.names.entities k (let c = resolved.names.count in omega (arith, few, c)) in
        let others : (t : ℕ) (x : Told) → at t ≡ Some x → x.declares ≡ true → is_number (number_of at (at t)) k ≡ true → t ≡ token = λ t x here d same.
        let it = number_is at (at t) k (number_same (number_of at (at t)) k same) in
        let one : it.0 ≡ x = same_Some it.0 x (sym it.1.0 ∙ here) in
        let first : it.0.first ≡ token = one_number at it.0.first token it.1.1.0 begins_own (it.1.1.1 ∙ sym count_own) in
        none_other name token t past alone right x (told_there name events tokens t x here) d (ap (λ (y : Told). y.first) (sym one) ∙ first) in
        let only = alone_from at token k own is.1.0 told_own.0 (ap (λ o. is_number o k) number ∙ eq-eqb k k refl) others tokens low in
        let chosen : Some token ≡ Some found = sym (ap first_if entity ∙ ap first_in only) ∙ h in
        sym (same_Some token found chosen)
