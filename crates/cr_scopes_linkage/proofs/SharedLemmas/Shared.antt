-- Two tokens that declare one entity (C11 6.2.2p2, 6.7p3).
use Rattle.std.proofs.Common.{◌≡◌, ℕ, zero, suc, ◌<◌, ◌==◌, Bool, true, false, ◌||◌, List, [], ◌∷◌, ◌++◌, Option, None, Some, length, slice_get, slice_index_or, ◌⊎◌, inl, inr, refl, sym, subst, ap, ◌∙◌, arith}
use Rattle.std.specs.Prelude.{if◌then◌else◌}
use Rattle.std.specs.List.{list_any}
use Rattle.std.proofs.lemmas.Bool.{false≢true, eqb-true}
use Rattle.std.proofs.lemmas.Option.{same_Some}
use Rattle.cr_scopes_events.specs.declared.event.Event.{Event}
use Rattle.cr_scopes.specs.declared.names.Entity.{Entity}
use Rattle.cr_scopes.specs.declared.names.Names.{Names}
use Rattle.cr_scopes.specs.declared.told.Told.{Told}
use Rattle.cr_scopes.specs.Faults.{is_typedef}
use Rattle.cr_scopes.specs.Resolved.{told, begins, count_of, number_of, with_token, is_number, entity_of, past_of, told_below, AreResolved}
use Rattle.cr_scopes_bindings.specs.Entities.{entity_at, is_declared_by, declares, declared_entity}
use Rattle.cr_scopes_visibility.proofs.AloneLemmas.Telling.{AreRight, all_right, token_told, none_other}
use Rattle.cr_scopes_visibility.proofs.AloneLemmas.First.{one_number, number_is, told_there, within_is}
use Rattle.cr_scopes_visibility.proofs.AloneLemmas.Sight.{declared_by}
use Rattle.cr_scopes_linkage.specs.Shared.Laws
use Rattle.cr_scopes_linkage.specs.Shared.Sorts.{is_value, is_tag, Never, IsOfOneSort}
use Rattle.cr_scopes_linkage.proofs.SharedLemmas.Looked.{Once, never_once, Ways, values, types, tags, itself, ways}

-- ---- the tokens of an entity declare

pub record IsFoundIn {A : Type 0} (test : A → Bool) (items : List A) : Type 0 where
  pub place : ℕ
  pub item : A
  pub at : slice_get items place ≡ Some item
  pub passes : test item ≡ true

pub found : {A : Type 0} (test : A → Bool) (items : List A) → list_any test items ≡ true → IsFoundIn test items
found test [] e = absurd (false≢true e)
found test (x ∷ items) e = by (test x) refl e (λ f. found test items f)
  where
    by : (b : Bool) → test x ≡ b → (b || list_any test items) ≡ true → (list_any test items ≡ true → IsFoundIn test items) → IsFoundIn test (x ∷ items)
    by true q f rest = record { place = 0; item = x; at = refl; passes = q }
    by false q f rest = let r = rest f in record { place = suc r.place; item = r.item; at = r.at; passes = r.passes }

behind : (test : ℕ → Bool) (ts : List ℕ) (m : ℕ) → list_any test (ts ++ m ∷ []) ≡ true → (list_any test ts ≡ true) ⊎ (test m ≡ true)
behind test [] m e = inr (by (test m) e)
  where
    by : (b : Bool) → (b || false) ≡ true → b ≡ true
    by true e = refl
    by false e = e
behind test (t ∷ ts) m e = by (test t) e (λ f. behind test ts m f)
  where
    by : (b : Bool) → (b || list_any test (ts ++ m ∷ [])) ≡ true → (list_any test (ts ++ m ∷ []) ≡ true → (list_any test ts ≡ true) ⊎ (test m ≡ true)) → ((b || list_any test ts) ≡ true) ⊎ (test m ≡ true)
    by true e rest = inl refl
    by false e rest = rest e

-- what is told of it declares
record IsDeclared (at : ℕ → Option Told) (t : ℕ) : Type 0 where
  own : Told
  is : at t ≡ Some own
  declares_it : own.declares ≡ true

in_declared : (at : ℕ → Option Told) (m k t : ℕ) → list_any (λ d. d == t) (entity_of at m k).declared ≡ true → IsDeclared at t
in_declared at zero k t e = absurd (false≢true e)
in_declared at (suc m) k t e = by (is_number (number_of at (at m)) k) (at m) refl e (λ f. in_declared at m k t f)
  where
    with_it : (x : Told) → at m ≡ Some x → (c : Bool) → x.declares ≡ c
        → list_any (λ d. d == t) (declared_by (if c then record { declared = (entity_of at m k).declared ++ m ∷ []; uses = (entity_of at m k).uses; space = x.space }
        else record { declared = (entity_of at m k).declared; uses = (entity_of at m k).uses ++ m ∷ []; space = x.space })) ≡ true
        → (list_any (λ d. d == t) (entity_of at m k).declared ≡ true → IsDeclared at t) → IsDeclared at t
    with_it x p true d e rest = elim (behind (λ d. d == t) (entity_of at m k).declared m e) [
      | inl before ↦ rest before
      | inr same ↦ subst (IsDeclared at) (eqb-true m t same) (record { own = x; is = p; declares_it = d })
    ]
    with_it x p false d e rest = rest e

    by : (b : Bool) (o : Option Told) → at m ≡ o → list_any (λ d. d == t) (declared_by (if b then with_token m o (entity_of at m k) else entity_of at m k)) ≡ true
        → (list_any (λ d. d == t) (entity_of at m k).declared ≡ true → IsDeclared at t) → IsDeclared at t
    by false o p e rest = rest e
    by true None p e rest = rest e
    by true (Some x) p e rest = with_it x p x.declares refl e rest

-- ---- of a unit without faults

module _ (name : ℕ → ℕ) (events : List Event) (tokens : ℕ) (names : Names) (resolved : AreResolved name events tokens names) where
  abbrev at : ℕ → Option Told
  at = told_below name events tokens

  abbrev whole : List Event
  whole = past_of events (length events)

  right : AreRight name whole
  right = all_right name events resolved.right (length events)

  -- a token that declares an entity of this number
  record Declares (t k : ℕ) : Type 0 where
    own : Told
    is : told name t whole ≡ Some own
    declares_it : own.declares ≡ true
    begins_there : begins (at own.first) own.first ≡ true
    number : count_of at own.first ≡ k

  declares_told : (t : ℕ) → declares names t ≡ true → IsDeclared at t
  declares_told t e =
      let x = found (is_declared_by t) names.entities e in
      let few : x.place < length names.entities = within names.entities x.place x.item x.at in
      let c = resolved.names.count in
      let entity : x.item ≡ entity_of at tokens x.place = same_Some x.item (entity_of at tokens x.place) (sym x.at ∙ resolved.names.entities x.place (omega (arith, few, c))) in
      in_declared at tokens x.place t (subst (λ (e : Entity). list_any (λ d. d == t) e.declared ≡ true) entity x.passes)
    where
      within : (xs : List Entity) (k : ℕ) (x : Entity) → slice_get xs k ≡ Some x → k < length xs
      within [] k x e = absurd cc
      within (y ∷ xs) zero x e = omega arith
      within (y ∷ xs) (suc k) x e = let less = within xs k x e in omega (arith, less)

  declarer : (t k : ℕ) → t < tokens → declared_entity names t ≡ Some k → Declares t k
  declarer t k low e = by (declares names t) refl e
    where
      by : (b : Bool) → declares names t ≡ b → (if b then entity_at names t else None) ≡ Some k → Declares t k
      by false q e = absurd cc
      by true q e =
          let there = within_is (length names.entities) (slice_index_or names.of_token t None) k e in
          let is = number_is at (at t) k (sym (resolved.names.of_token t low) ∙ there.0) in
          let x = declares_told t q in
          let one : is.0 ≡ x.own = same_Some is.0 x.own (sym is.1.0 ∙ x.is) in
          record {
            own = is.0;
            is = told_there name events tokens t is.0 is.1.0;
            declares_it = ap (λ (y : Told). y.declares) one ∙ x.declares_it;
            begins_there = is.1.1.0;
            number = is.1.1.1;
          }

  -- they stand for one token
  one_first : (t u k : ℕ) (a : Declares t k) (b : Declares u k) → a.own.first ≡ b.own.first
  one_first t u k a b = one_number at a.own.first b.own.first a.begins_there b.begins_there (a.number ∙ sym b.number)

pub only_alone : Laws.AloneIsOnly
only_alone name events tokens names token other k resolved low less alone mine its =
    let a = declarer name events tokens names resolved token k low mine in
    let b = declarer name events tokens names resolved other k less its in
    let own = token_told name token (past_of events (length events)) alone (right name events tokens names resolved) a.own a.is in
    none_other name token other (past_of events (length events)) alone (right name events tokens names resolved) b.own b.is b.declares_it (sym (one_first name events tokens names resolved token other k a b) ∙ own.1)

-- by how both are told, and what they stand for
apart : (one other first : ℕ) (past : List Event) → Never is_value one past → Never is_typedef other past → Never is_tag other past → IsOfOneSort first past
    → (name : ℕ → ℕ) → Ways name one first past → Ways name other first past → one ≡ other
apart one other first past a b c s name (values x y) w = absurd (never_once is_value one past a x)
apart one other first past a b c s name v (types x y) = absurd (never_once is_typedef other past b x)
apart one other first past a b c s name v (tags x y) = absurd (never_once is_tag other past c x)
apart one other first past a b c s name (types x y) (values z w) = elim s.ordinary [ inl n ↦ absurd (never_once is_value first past n w) | inr n ↦ absurd (never_once is_typedef first past n y) ]
apart one other first past a b c s name (types x y) (itself e) = absurd (never_once is_typedef other past b (subst (λ t. Once is_typedef t past) e y))
apart one other first past a b c s name (tags x y) (values z w) = elim s.tags [ inl n ↦ absurd (never_once is_tag first past n y) | inr n ↦ absurd (never_once is_value first past n.0 w) ]
apart one other first past a b c s name (tags x y) (itself e) = absurd (never_once is_tag other past c (subst (λ t. Once is_tag t past) e y))
apart one other first past a b c s name (itself e) (values z w) = absurd (never_once is_value one past a (subst (λ t. Once is_value t past) e w))
apart one other first past a b c s name (itself e) (itself f) = sym e ∙ f

pub sorts_apart : Laws.SortsAreApart
sorts_apart name events tokens names one other k resolved low less mine its a b c sorts =
    let x = declarer name events tokens names resolved one k low mine in
    let y = declarer name events tokens names resolved other k less its in
    let same = one_first name events tokens names resolved one other k x y in
    let past = past_of events (length events) in
    let right_it = right name events tokens names resolved in
    apart one other y.own.first past a b c (sorts y.own.first) name (subst (λ f. Ways name one f past) same (ways name one past right_it x.own x.is x.declares_it)) (ways name other past right_it y.own y.is y.declares_it)
