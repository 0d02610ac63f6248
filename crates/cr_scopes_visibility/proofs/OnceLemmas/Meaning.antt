-- What is visible at a name is the latest declaration in scope, and so is what the name stands for, where that has no linkage.
use Rattle.std.proofs.Common.{◌≡◌, ℕ, zero, suc, ◌+◌, ◌<◌, ◌≤◌, ◌==◌, Bool, true, false, not, ◌&&◌, ◌||◌, List, [], ◌∷◌, Option, None, Some, length, slice_get, slice_index_or, refl, sym, ap, subst, ◌∙◌, arith}
use Rattle.std.specs.Prelude.{if◌then◌else◌}
use Rattle.std.proofs.lemmas.Bool.{false≢true, and_parts, eqb-true, eq-eqb, ltb-true}
use Rattle.std.proofs.lemmas.Option.{same_Some}
use Rattle.cr_scopes_events.specs.declared.event.Role.{Role}
use Rattle.cr_scopes_events.specs.declared.event.Role.TheVariants as role
use Rattle.cr_scopes_events.specs.declared.event.Event.{Event}
use Rattle.cr_scopes_events.specs.declared.event.Event.TheVariants.{Node, Opens, Closes, Name, Member}
use Rattle.cr_scopes.specs.declared.told.Told.{Told}
use Rattle.cr_scopes.specs.declared.scope.Space.TheVariants.{Ordinary}
use Rattle.cr_scopes.specs.declared.scope.Found.{Found}
use Rattle.cr_scopes.specs.declared.scope.Look.{Look}
use Rattle.cr_scopes.specs.Looking.{stands_in, begun, noted_if, look}
use Rattle.cr_scopes.specs.Resolved.{space_of, space_number, declares_by, told_if, told_of, told, begins, count_of as count_before, number_of, entity_of, past_of, told_below}
use Rattle.cr_scopes_bindings.specs.Entities.{entity_at, first_if, first_of}
use Rattle.cr_scopes_bindings.specs.Visible.{is_named, latest, visible}
use Rattle.cr_scopes_visibility.specs.Alone.Alone.{IsAlone}
use Rattle.cr_scopes_visibility.specs.Alone.Sight.{is_used}
use Rattle.cr_scopes_visibility.proofs.AloneLemmas.Telling.{AreRight, all_right, token_told, none_other}
use Rattle.cr_scopes_visibility.proofs.AloneLemmas.First.{one_number, number_is, number_same, told_there, within_is}
use Rattle.cr_scopes_visibility.specs.Uses.Uses.{is_use}
use Rattle.cr_scopes_visibility.proofs.ToldLemmas.Events.{onto, all_came}
use Rattle.cr_scopes_visibility.specs.Once.Told.{count_of}
use Rattle.cr_scopes_visibility.specs.Once.Laws
use Rattle.cr_scopes_visibility.proofs.AloneLemmas.Sight.{first_declares}

-- what is told as an ordinary identifier declares one
pub ordinary_space : (r : Role) → stands_in Ordinary r ≡ true → space_of r ≡ Ordinary
ordinary_space role.Content h = absurd (false≢true h)
ordinary_space role.Alone h = absurd (false≢true h)
ordinary_space role.Mentioned h = absurd (false≢true h)
ordinary_space r h = refl

pub ordinary_declares : (r : Role) (l : Look) → stands_in Ordinary r ≡ true → declares_by r l ≡ true
ordinary_declares role.Used l h = absurd (false≢true h)
ordinary_declares role.Mentioned l h = absurd (false≢true h)
ordinary_declares r l h = refl

pub only_used : (r : Role) → is_used r ≡ true → r ≡ role.Used
only_used role.Used h = refl
only_used r h = absurd (false≢true h)

not_named : (s : ℕ) (past : List Event) → count_of s past ≤ 0 → is_named s past ≡ false
not_named s [] h = refl
not_named s (Name t r ∷ past) h = by (s == t) h (λ g. not_named s past g)
  where
    by : (b : Bool) → (if b then 1 else 0) + count_of s past ≤ 0 → (count_of s past ≤ 0 → is_named s past ≡ false) → (b || is_named s past) ≡ false
    by true g rest = absurd (omega (arith, g))
    by false g rest = rest (omega (arith, g))
not_named s (Opens ∷ past) h = not_named s past (omega (arith, h))
not_named s (Closes ∷ past) h = not_named s past (omega (arith, h))
not_named s (Member t k ∷ past) h = not_named s past (omega (arith, h))
not_named s (Node i ∷ past) h = not_named s past (omega (arith, h))

pub count_onto : (s : ℕ) (past es : List Event) → count_of s (onto past es) ≡ count_of s past + count_of s es
count_onto s past [] = omega arith
count_onto s past (e ∷ es) = let h = count_onto s (e ∷ past) es in omega (arith, h)

module _ (name : ℕ → ℕ) (tok : ℕ) where
  -- the latest declaration in scope is that of the token, where the innermost one begins with it
  latest_alone : (s d : ℕ) (past : List Event) → IsAlone tok past → AreRight name past → (f : Found) → (look name Ordinary s d past).seen ≡ Some f → f.first ≡ tok → (v : ℕ) → latest name s d past ≡ Some v → v ≡ tok
  latest_alone s d [] a w f e first v h = absurd cc
  latest_alone s d (Closes ∷ past) a w f e first v h = latest_alone s (suc d) past a w f e first v h
  latest_alone s zero (Opens ∷ past) a w f e first v h = latest_alone s zero past a w f e first v h
  latest_alone s (suc d) (Opens ∷ past) a w f e first v h = latest_alone s d past a w f e first v h
  latest_alone s zero (Name t r ∷ past) a w f e first v h = by (stands_in Ordinary r && (name t == s)) refl e h (λ k g. latest_alone s zero past a.1 w.1 f k first v g)
    where
      own : (stands_in Ordinary r && (name t == s)) ≡ true → t ≡ tok
      own q =
          let both = and_parts (stands_in Ordinary r) (name t == s) q in
          let same : name t ≡ s = eqb-true (name t) s both.1 in
          let seen : (look name (space_of r) (name t) zero (Name t r ∷ past)).seen ≡ Some f = (λ j. (look name (ordinary_space r both.0 j) (same j) zero (Name t r ∷ past)).seen) ∙ e in
          let x : Told = record { first = f.first; declares = true; space = space_number (space_of r) } in
          let is : told_of name past t r ≡ Some x =
          ap (λ b. told_if b r (look name (space_of r) (name t) zero (Name t r ∷ past)).seen) (ordinary_declares r _ both.0) ∙ ap (told_if true r) seen in
          none_other name tok t (Name t r ∷ past) a w x (ap (λ b. if b then told_of name past t r else told name t past) (eq-eqb t t refl) ∙ is) refl first

      by : (b : Bool) → (stands_in Ordinary r && (name t == s)) ≡ b → (noted_if b (begun name past t r) (look name Ordinary s zero past)).seen ≡ Some f → (if b then Some t else latest name s zero past) ≡ Some v
          → ((look name Ordinary s zero past).seen ≡ Some f → latest name s zero past ≡ Some v → v ≡ tok) → v ≡ tok
      by true q e h rest = let same : t ≡ v = cc in sym same ∙ own q
      by false q e h rest = rest e h
  latest_alone s (suc d) (Name t r ∷ past) a w f e first v h = latest_alone s (suc d) past a.1 w.1 f e first v h
  latest_alone s d (Member t k ∷ past) a w f e first v h = latest_alone s d past a w f e first v h
  latest_alone s d (Node i ∷ past) a w f e first v h = latest_alone s d past a w f e first v h

  -- so at a use
  at_name : (past : List Event) (t : ℕ) (r : Role) → IsAlone tok (Name t r ∷ past) → AreRight name past → is_used r ≡ true → (x : Told) → told_of name past t r ≡ Some x → x.first ≡ tok → (v : ℕ) → latest name (name t) zero past ≡ Some v → v ≡ tok
  at_name past t r a w used x e first v h = by (look name Ordinary (name t) zero past).seen refl (sym (ap (told_of name past t) (only_used r used)) ∙ e)
    where
      by : (o : Option Found) → (look name Ordinary (name t) zero past).seen ≡ o → told_if false role.Used o ≡ Some x → v ≡ tok
      by None q e = let never : None ≡ Some x = e in absurd cc
      by (Some f) q e =
          let same : record { first = f.first; declares = false; space = space_number (space_of role.Used) } ≡ x = cc in
          latest_alone (name t) zero past a.1 w f q (ap (λ (y : Told). y.first) same ∙ first) v h

  visible_alone : (site : ℕ) (past : List Event) → IsAlone tok past → AreRight name past → count_of site past ≤ 1 → is_use site past ≡ true → (x : Told) → told name site past ≡ Some x → x.first ≡ tok
      → (v : ℕ) → visible name past site ≡ Some v → v ≡ tok
  visible_alone site [] a w few used x e first v h = absurd cc
  visible_alone site (Name t r ∷ past) a w few used x e first v h = by (site == t) refl few used e h (λ g u k f. visible_alone site past a.1 w.1 g u x k first v f)
    where
      by : (b : Bool) → (site == t) ≡ b → (if b then 1 else 0) + count_of site past ≤ 1 → (if b && not (is_named site past) then is_used r else is_use site past) ≡ true
          → (if b then told_of name past t r else told name site past) ≡ Some x
          → (if b && not (is_named site past) then latest name (name t) zero past else visible name past site) ≡ Some v
          → (count_of site past ≤ 1 → is_use site past ≡ true → told name site past ≡ Some x → visible name past site ≡ Some v → v ≡ tok) → v ≡ tok
      by true q g u e h rest =
          let fresh = not_named site past (omega (arith, g)) in
          let found : latest name (name t) zero past ≡ Some v = sym (ap (λ c. if not c then latest name (name t) zero past else visible name past site) fresh) ∙ h in
          let using : is_used r ≡ true = sym (ap (λ c. if not c then is_used r else is_use site past) fresh) ∙ u in
          at_name past t r a w.1 using x e first v found
      by false q g u e h rest = rest (omega (arith, g)) u e h
  visible_alone site (Opens ∷ past) a w few used x e first v h = visible_alone site past a w (omega (arith, few)) used x e first v h
  visible_alone site (Closes ∷ past) a w few used x e first v h = visible_alone site past a w (omega (arith, few)) used x e first v h
  visible_alone site (Member t k ∷ past) a w few used x e first v h = visible_alone site past a w (omega (arith, few)) used x e first v h
  visible_alone site (Node i ∷ past) a w few used x e first v h = visible_alone site past a w (omega (arith, few)) used x e first v h

-- ---- the token that an entity begins with

-- ---- the law

pub meant : Laws.WhatIsVisibleIsMeant
meant name events tokens names token site declared resolved low alone used h few seen = by (entity_at names site) refl h
  where
    at : ℕ → Option Told
    at = told_below name events tokens

    past : List Event
    past = past_of events (length events)

    right : AreRight name (past_of events (length events))
    right = all_right name events resolved.right (length events)

    counted : count_of site (past_of events (length events)) ≤ 1
    counted = subst (λ past. count_of site past ≤ 1) (all_came events) (let c = count_onto site [] events in omega (arith, c, few))

    by : (o : Option ℕ) → entity_at names site ≡ o → first_of names o ≡ Some token → declared ≡ token
    by None q h = absurd cc
    by (Some k) q h =
        let there = within_is (length names.entities) (slice_index_or names.of_token site None) k q in
        let is = number_is at (at site) k (sym (resolved.names.of_token site low) ∙ there.0) in
        let less : k < length names.entities = ltb-true k (length names.entities) there.1 in
        let entity : slice_get names.entities k ≡ Some (entity_of at tokens k) = resolved.names.entities k (let c = resolved.names.count in omega (arith, less, c)) in
        let own = first_declares at tokens k token (ap first_if (sym entity) ∙ h) in
        let number = number_is at (at token) k (number_same (number_of at (at token)) k own.number) in
        let one : number.0 ≡ own.own = same_Some number.0 own.own (sym number.1.0 ∙ own.is) in
        let told_own = token_told name token (past_of events (length events)) alone right own.own (told_there name events tokens token own.own own.is) in
        let first : number.0.first ≡ token = ap (λ (y : Told). y.first) one ∙ told_own.1 in
        let begins_own : begins (at token) token ≡ true = subst (λ f. begins (at f) f ≡ true) first number.1.1.0 in
        let count_own : count_before at token ≡ k = subst (λ f. count_before at f ≡ k) first number.1.1.1 in
        let same : is.0.first ≡ token = one_number at is.0.first token is.1.1.0 begins_own (is.1.1.1 ∙ sym count_own) in
        visible_alone name token site (past_of events (length events)) alone right counted used is.0 (told_there name events tokens site is.0 is.1.0) same declared seen
