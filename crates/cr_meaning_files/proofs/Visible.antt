-- What is visible at a name is the latest declaration in scope, and stands for what the scope had first, as the name does.
use Rattle.std.proofs.Common.{◌≡◌, ℕ, zero, suc, ◌+◌, ◌<◌, ◌≤◌, ◌==◌, Bool, true, false, not, ◌&&◌, ◌||◌, inl, inr, List, [], ◌∷◌, Option, None, Some, length, nat_lt, slice_index_or, refl, sym, ap, subst, ◌∙◌, arith}
use Rattle.std.specs.Prelude.{if◌then◌else◌}
use Rattle.std.specs.Option.{is_some}
use Rattle.std.proofs.lemmas.Bool.{false≢true, and_parts, eqb-true, eq-eqb, lt-ltb}
use Rattle.std.proofs.lemmas.Option.{same_Some}
use Rattle.cr_scopes_events.specs.declared.event.Role.{Role}
use Rattle.cr_scopes_events.specs.declared.event.Role.TheVariants as role
use Rattle.cr_scopes_events.specs.declared.event.Event.{Event}
use Rattle.cr_scopes_events.specs.declared.event.Event.TheVariants.{Node, Opens, Closes, Name, Member}
use Rattle.cr_scopes.specs.declared.names.Names.{Names}
use Rattle.cr_scopes.specs.declared.told.Told.{Told}
use Rattle.cr_scopes.specs.declared.scope.Space.TheVariants.{Ordinary}
use Rattle.cr_scopes.specs.declared.scope.Found.{Found}
use Rattle.cr_scopes.specs.Faults.{is_wrong}
use Rattle.cr_scopes.specs.Looking.{stands_in, begun, noted_if, look}
use Rattle.cr_scopes.specs.Resolved.{space_of, space_number, told_if, told_of, told, begins, count_of as count_before, number_of, past_of, told_below, AreResolved}
use Rattle.cr_scopes_bindings.specs.Entities.{entity_within, entity_at}
use Rattle.cr_scopes_bindings.specs.Visible.{is_named, latest, visible}
use Rattle.cr_scopes_visibility.specs.Alone.Alone.{IsAlone}
use Rattle.cr_scopes_visibility.specs.Alone.Sight.{is_used}
use Rattle.cr_scopes_visibility.proofs.AloneLemmas.Telling.{AreRight, all_right, token_told}
use Rattle.cr_scopes_visibility.proofs.AloneLemmas.First.{number_is, told_there, within_is}
use Rattle.cr_scopes_visibility.specs.Uses.Uses.{is_use}
use Rattle.cr_scopes_visibility.proofs.ToldLemmas.Events.{all_came}
use Rattle.cr_scopes_visibility.specs.Once.Told.{count_of}
use Rattle.cr_scopes_visibility.proofs.OnceLemmas.Meaning.{ordinary_space, ordinary_declares, only_used, count_onto}
use Rattle.cr_meaning_files.specs.Celled as Laws

module _ (name : ℕ → ℕ) (x : ℕ) where
  not_told : (past : List Event) → count_of x past ≤ 0 → told name x past ≡ None
  not_told [] h = refl
  not_told (Name t r ∷ past) h = by (x == t) h (λ g. not_told past g)
    where
      by : (b : Bool) → (if b then 1 else 0) + count_of x past ≤ 0 → (count_of x past ≤ 0 → told name x past ≡ None)
          → (if b then told_of name past t r else told name x past) ≡ None
      by true g rest = absurd (omega (arith, g))
      by false g rest = rest (omega (arith, g))
  not_told (Opens ∷ past) h = not_told past (omega (arith, h))
  not_told (Closes ∷ past) h = not_told past (omega (arith, h))
  not_told (Member t k ∷ past) h = not_told past (omega (arith, h))
  not_told (Node i ∷ past) h = not_told past (omega (arith, h))

  -- the token stands for this, as events tell
  record Stands (y : ℕ) (past : List Event) : Type 0 where
    own : Told
    is : told name x past ≡ Some own
    first : own.first ≡ y

  -- so it does later, as it is told once
  still : (t : ℕ) (r : Role) (y : ℕ) (past : List Event) → count_of x (Name t r ∷ past) ≤ 1 → Stands y past → Stands y (Name t r ∷ past)
  still t r y past few s = by (x == t) refl few
    where
      by : (b : Bool) → (x == t) ≡ b → (if b then 1 else 0) + count_of x past ≤ 1 → Stands y (Name t r ∷ past)
      by true q g = let none = not_told past (omega (arith, g)) in let never : None ≡ Some s.own = sym none ∙ s.is in absurd cc
      by false q g = record { own = s.own; is = ap (λ b. if b then told_of name past t r else told name x past) q ∙ s.is; first = s.first }

  -- what a declaration in scope tells, directly behind itself
  told_so : (t : ℕ) (r : Role) (past : List Event) (s : ℕ) (f : Found) → (stands_in Ordinary r && (name t == s)) ≡ true
      → (look name Ordinary s zero (Name t r ∷ past)).seen ≡ Some f
      → told_of name past t r ≡ Some (record { first = f.first; declares = true; space = space_number (space_of r) })
  told_so t r past s f q e =
      let both = and_parts (stands_in Ordinary r) (name t == s) q in
      let same : name t ≡ s = eqb-true (name t) s both.1 in
      let seen : (look name (space_of r) (name t) zero (Name t r ∷ past)).seen ≡ Some f = (λ j. (look name (ordinary_space r both.0 j) (same j) zero (Name t r ∷ past)).seen) ∙ e in
      ap (λ b. told_if b r (look name (space_of r) (name t) zero (Name t r ∷ past)).seen) (ordinary_declares r _ both.0) ∙ ap (told_if true r) seen

  -- the latest declaration in scope stands for what the scope has first
  latest_told : (s d : ℕ) (past : List Event) → count_of x past ≤ 1 → (f : Found) → (look name Ordinary s d past).seen ≡ Some f → latest name s d past ≡ Some x
      → Stands f.first past
  latest_told s d [] few f e h = absurd cc
  latest_told s d (Closes ∷ past) few f e h = let y = latest_told s (suc d) past (omega (arith, few)) f e h in record { own = y.own; is = y.is; first = y.first }
  latest_told s zero (Opens ∷ past) few f e h = let y = latest_told s zero past (omega (arith, few)) f e h in record { own = y.own; is = y.is; first = y.first }
  latest_told s (suc d) (Opens ∷ past) few f e h = let y = latest_told s d past (omega (arith, few)) f e h in record { own = y.own; is = y.is; first = y.first }
  latest_told s zero (Name t r ∷ past) few f e h = by (stands_in Ordinary r && (name t == s)) refl e h (λ g k l. latest_told s zero past g f k l)
    where
      less : count_of x past ≤ 1
      less = omega (arith, few)

      by : (b : Bool) → (stands_in Ordinary r && (name t == s)) ≡ b → (noted_if b (begun name past t r) (look name Ordinary s zero past)).seen ≡ Some f
          → (if b then Some t else latest name s zero past) ≡ Some x
          → (count_of x past ≤ 1 → (look name Ordinary s zero past).seen ≡ Some f → latest name s zero past ≡ Some x → Stands f.first past) → Stands f.first (Name t r ∷ past)
      by true q g h rest =
          let same : t ≡ x = cc in
          record {
            own = record { first = f.first; declares = true; space = space_number (space_of r) };
            is = ap (λ b. if b then told_of name past t r else told name x past) (eq-eqb x t (sym same)) ∙ told_so t r past s f q (ap (λ b. (noted_if b (begun name past t r) (look name Ordinary s zero past)).seen) q ∙ g);
            first = refl;
          }
      by false q g h rest = still t r f.first past few (rest less g h)
  latest_told s (suc d) (Name t r ∷ past) few f e h = still t r f.first past few (latest_told s (suc d) past (omega (arith, few)) f e h)
  latest_told s d (Member t k ∷ past) few f e h = let y = latest_told s d past (omega (arith, few)) f e h in record { own = y.own; is = y.is; first = y.first }
  latest_told s d (Node i ∷ past) few f e h = let y = latest_told s d past (omega (arith, few)) f e h in record { own = y.own; is = y.is; first = y.first }

  -- without linkage it is that itself
  latest_alone : (s d : ℕ) (past : List Event) → IsAlone x past → AreRight name past → (f : Found) → (look name Ordinary s d past).seen ≡ Some f
      → latest name s d past ≡ Some x → f.first ≡ x
  latest_alone s d [] a w f e h = absurd cc
  latest_alone s d (Closes ∷ past) a w f e h = latest_alone s (suc d) past a w f e h
  latest_alone s zero (Opens ∷ past) a w f e h = latest_alone s zero past a w f e h
  latest_alone s (suc d) (Opens ∷ past) a w f e h = latest_alone s d past a w f e h
  latest_alone s zero (Name t r ∷ past) a w f e h = by (stands_in Ordinary r && (name t == s)) refl e h (λ k l. latest_alone s zero past a.1 w.1 f k l)
    where
      by : (b : Bool) → (stands_in Ordinary r && (name t == s)) ≡ b → (noted_if b (begun name past t r) (look name Ordinary s zero past)).seen ≡ Some f
          → (if b then Some t else latest name s zero past) ≡ Some x
          → ((look name Ordinary s zero past).seen ≡ Some f → latest name s zero past ≡ Some x → f.first ≡ x) → f.first ≡ x
      by true q g h rest =
          let same : t ≡ x = cc in
          let own : Told = record { first = f.first; declares = true; space = space_number (space_of r) } in
          let is : told name x (Name t r ∷ past) ≡ Some own =
          ap (λ b. if b then told_of name past t r else told name x past) (eq-eqb x t (sym same)) ∙ told_so t r past s f q (ap (λ b. (noted_if b (begun name past t r) (look name Ordinary s zero past)).seen) q ∙ g) in
          (token_told name x (Name t r ∷ past) a w own is).1
      by false q g h rest = rest g h
  latest_alone s (suc d) (Name t r ∷ past) a w f e h = latest_alone s (suc d) past a.1 w.1 f e h
  latest_alone s d (Member t k ∷ past) a w f e h = latest_alone s d past a w f e h
  latest_alone s d (Node i ∷ past) a w f e h = latest_alone s d past a w f e h

  -- ---- at a use

  not_named : (site : ℕ) (past : List Event) → count_of site past ≤ 0 → is_named site past ≡ false
  not_named site [] h = refl
  not_named site (Name t r ∷ past) h = by (site == t) h (λ g. not_named site past g)
    where
      by : (b : Bool) → (if b then 1 else 0) + count_of site past ≤ 0 → (count_of site past ≤ 0 → is_named site past ≡ false) → (b || is_named site past) ≡ false
      by true g rest = absurd (omega (arith, g))
      by false g rest = rest (omega (arith, g))
  not_named site (Opens ∷ past) h = not_named site past (omega (arith, h))
  not_named site (Closes ∷ past) h = not_named site past (omega (arith, h))
  not_named site (Member t k ∷ past) h = not_named site past (omega (arith, h))
  not_named site (Node i ∷ past) h = not_named site past (omega (arith, h))

  -- what the name finds in scope is what it stands for
  finds : (past : List Event) (t : ℕ) (r : Role) → is_used r ≡ true → (z : Told) → told_of name past t r ≡ Some z
      → (f : Found) × (((look name Ordinary (name t) zero past).seen ≡ Some f) × (f.first ≡ z.first))
  finds past t r used z e = by (look name Ordinary (name t) zero past).seen refl (sym (ap (told_of name past t) (only_used r used)) ∙ e)
    where
      by : (o : Option Found) → (look name Ordinary (name t) zero past).seen ≡ o → told_if false role.Used o ≡ Some z
          → (f : Found) × (((look name Ordinary (name t) zero past).seen ≡ Some f) × (f.first ≡ z.first))
      by None q e = let never : None ≡ Some z = e in absurd cc
      by (Some f) q e =
          let same : record { first = f.first; declares = false; space = space_number (space_of role.Used) } ≡ z = cc in
          (f, (q, ap (λ (y : Told). y.first) same))

  module _ (site : ℕ) where
    used_told : (past : List Event) → count_of x past ≤ 1 → count_of site past ≤ 1 → is_use site past ≡ true → (z : Told) → told name site past ≡ Some z
        → visible name past site ≡ Some x → Stands z.first past
    used_told [] one few used z e h = absurd cc
    used_told (Name t r ∷ past) one few used z e h = by (site == t) refl few used e h (λ g u k l. used_told past (omega (arith, one)) g u z k l)
      where
        by : (b : Bool) → (site == t) ≡ b → (if b then 1 else 0) + count_of site past ≤ 1 → (if b && not (is_named site past) then is_used r else is_use site past) ≡ true
            → (if b then told_of name past t r else told name site past) ≡ Some z
            → (if b && not (is_named site past) then latest name (name t) zero past else visible name past site) ≡ Some x
            → (count_of site past ≤ 1 → is_use site past ≡ true → told name site past ≡ Some z → visible name past site ≡ Some x → Stands z.first past)
            → Stands z.first (Name t r ∷ past)
        by true q g u e h rest =
            let fresh = not_named site past (omega (arith, g)) in
            let found : latest name (name t) zero past ≡ Some x = sym (ap (λ c. if not c then latest name (name t) zero past else visible name past site) fresh) ∙ h in
            let using : is_used r ≡ true = sym (ap (λ c. if not c then is_used r else is_use site past) fresh) ∙ u in
            let f = finds past t r using z e in
            still t r z.first past one (subst (λ y. Stands y past) f.1.1 (latest_told (name t) zero past (omega (arith, one)) f.0 f.1.0 found))
        by false q g u e h rest = still t r z.first past one (rest (omega (arith, g)) u e h)
    used_told (Opens ∷ past) one few used z e h = let y = used_told past (omega (arith, one)) (omega (arith, few)) used z e h in record { own = y.own; is = y.is; first = y.first }
    used_told (Closes ∷ past) one few used z e h = let y = used_told past (omega (arith, one)) (omega (arith, few)) used z e h in record { own = y.own; is = y.is; first = y.first }
    used_told (Member t k ∷ past) one few used z e h = let y = used_told past (omega (arith, one)) (omega (arith, few)) used z e h in record { own = y.own; is = y.is; first = y.first }
    used_told (Node i ∷ past) one few used z e h = let y = used_told past (omega (arith, one)) (omega (arith, few)) used z e h in record { own = y.own; is = y.is; first = y.first }

    used_alone : (past : List Event) → IsAlone x past → AreRight name past → count_of site past ≤ 1 → is_use site past ≡ true → (z : Told) → told name site past ≡ Some z
        → visible name past site ≡ Some x → z.first ≡ x
    used_alone [] a w few used z e h = absurd cc
    used_alone (Name t r ∷ past) a w few used z e h = by (site == t) refl few used e h (λ g u k l. used_alone past a.1 w.1 g u z k l)
      where
        by : (b : Bool) → (site == t) ≡ b → (if b then 1 else 0) + count_of site past ≤ 1 → (if b && not (is_named site past) then is_used r else is_use site past) ≡ true
            → (if b then told_of name past t r else told name site past) ≡ Some z
            → (if b && not (is_named site past) then latest name (name t) zero past else visible name past site) ≡ Some x
            → (count_of site past ≤ 1 → is_use site past ≡ true → told name site past ≡ Some z → visible name past site ≡ Some x → z.first ≡ x) → z.first ≡ x
        by true q g u e h rest =
            let fresh = not_named site past (omega (arith, g)) in
            let found : latest name (name t) zero past ≡ Some x = sym (ap (λ c. if not c then latest name (name t) zero past else visible name past site) fresh) ∙ h in
            let using : is_used r ≡ true = sym (ap (λ c. if not c then is_used r else is_use site past) fresh) ∙ u in
            let f = finds past t r using z e in
            sym f.1.1 ∙ latest_alone (name t) zero past a.1 w.1 f.0 f.1.0 found
        by false q g u e h rest = rest (omega (arith, g)) u e h
    used_alone (Opens ∷ past) a w few used z e h = used_alone past a w (omega (arith, few)) used z e h
    used_alone (Closes ∷ past) a w few used z e h = used_alone past a w (omega (arith, few)) used z e h
    used_alone (Member t k ∷ past) a w few used z e h = used_alone past a w (omega (arith, few)) used z e h
    used_alone (Node i ∷ past) a w few used z e h = used_alone past a w (omega (arith, few)) used z e h

    -- a use that isn't at fault stands for something
    use_right : (past : List Event) (t : ℕ) (r : Role) → is_used r ≡ true → is_wrong name past t r ≡ false → (z : Told) × (told_of name past t r ≡ Some z)
    use_right past t role.Used u w = by (look name Ordinary (name t) zero past).seen w
      where
        by : (o : Option Found) → not (is_some o) ≡ false → (z : Told) × (told_if false role.Used o ≡ Some z)
        by None h = absurd (false≢true (sym h))
        by (Some f) h = (record { first = f.first; declares = false; space = space_number (space_of role.Used) }, refl)
    use_right past t r u w = absurd (false≢true u)

    use_told : (past : List Event) → AreRight name past → count_of site past ≤ 1 → is_use site past ≡ true → (z : Told) × (told name site past ≡ Some z)
    use_told [] w few u = absurd (false≢true u)
    use_told (Name t r ∷ past) w few u = by (site == t) few u (λ g v. use_told past w.1 g v)
      where
        by : (b : Bool) → (if b then 1 else 0) + count_of site past ≤ 1 → (if b && not (is_named site past) then is_used r else is_use site past) ≡ true
            → (count_of site past ≤ 1 → is_use site past ≡ true → (z : Told) × (told name site past ≡ Some z)) → (z : Told) × ((if b then told_of name past t r else told name site past) ≡ Some z)
        by true g u rest =
            let fresh = not_named site past (omega (arith, g)) in
            use_right past t r (sym (ap (λ c. if not c then is_used r else is_use site past) fresh) ∙ u) w.0
        by false g u rest = rest (omega (arith, g)) u
    use_told (Opens ∷ past) w few u = use_told past w (omega (arith, few)) u
    use_told (Closes ∷ past) w few u = use_told past w (omega (arith, few)) u
    use_told (Member t k ∷ past) w few u = use_told past w (omega (arith, few)) u
    use_told (Node i ∷ past) w few u = use_told past w (omega (arith, few)) u

-- what is told once by events is told once by those that came
pub counted : (events : List Event) (s : ℕ) → count_of s events ≤ 1 → count_of s (past_of events (length events)) ≤ 1
counted events s h = subst (λ past. count_of s past ≤ 1) (all_came events) (let c = count_onto s [] events in omega (arith, c, h))

-- ---- the laws

module _ (name : ℕ → ℕ) (events : List Event) (tokens : ℕ) (names : Names) (token site entity : ℕ) (resolved : AreResolved name events tokens names) (low : site < tokens) (less : token < tokens)
    (used : is_use site (past_of events (length events)) ≡ true) (few : count_of site events ≤ 1) (e : visible name (past_of events (length events)) site ≡ Some token) (stands : entity_at names site ≡ Some entity) where
  abbrev at : ℕ → Option Told
  at = told_below name events tokens

  abbrev whole : List Event
  whole = past_of events (length events)

  its : (slice_index_or names.of_token site None ≡ Some entity) × (nat_lt entity (length names.entities) ≡ true)
  its = within_is (length names.entities) (slice_index_or names.of_token site None) entity stands

  number : number_of at (at site) ≡ Some entity
  number = sym (resolved.names.of_token site low) ∙ its.0

  is : (z : Told) × ((at site ≡ Some z) × ((begins (at z.first) z.first ≡ true) × (count_before at z.first ≡ entity)))
  is = number_is at (at site) entity number

  site_told : told name site whole ≡ Some is.0
  site_told = told_there name events tokens site is.0 is.1.0

  of_number : number_of at (at token) ≡ Some entity → entity_at names token ≡ Some entity
  of_number n =
      ap (entity_within (length names.entities)) (resolved.names.of_token token less ∙ n)
      ∙ ap (λ b. if b then Some entity else None) its.1

  by_first : (own : Told) → at token ≡ Some own → own.first ≡ is.0.first → entity_at names token ≡ Some entity
  by_first own there same = of_number (ap (number_of at) there ∙ ap (λ f. if begins (at f) f then Some (count_before at f) else None) same ∙ ap (number_of at) (sym is.1.0) ∙ number)

  once : count_of token events ≤ 1 → entity_at names token ≡ Some entity
  once one =
      let y = used_told name token site whole (counted events token one) (counted events site few) used is.0 site_told e in
      by_first y.own (ap (λ b. if b then told name token whole else None) (lt-ltb token tokens less) ∙ y.is) y.first

  alone : IsAlone token whole → entity_at names token ≡ Some entity
  alone a = by (at token) refl begun_there
    where
      first : is.0.first ≡ token
      first = used_alone name token site whole a (all_right name events resolved.right (length events)) (counted events site few) used is.0 site_told e

      begun_there : begins (at token) token ≡ true
      begun_there = subst (λ f. begins (at f) f ≡ true) first is.1.1.0

      by : (o : Option Told) → at token ≡ o → begins o token ≡ true → entity_at names token ≡ Some entity
      by None q h = absurd (false≢true h)
      by (Some own) q h = by_first own q (eqb-true own.first token (and_parts own.declares (own.first == token) h).1 ∙ sym first)

pub stand : Laws.UsesStandForWhatTheySee
stand name events tokens names token site entity resolved low less used few steady e stands = elim steady [
  | inl one ↦ once name events tokens names token site entity resolved low less used few e stands one
  | inr a ↦ alone name events tokens names token site entity resolved low less used few e stands a
]

-- ---- the other way round

module _ (name : ℕ → ℕ) (events : List Event) (tokens : ℕ) (names : Names) (token site entity : ℕ) (resolved : AreResolved name events tokens names) (low : site < tokens) (less : token < tokens)
    (used : is_use site (past_of events (length events)) ≡ true) (few : count_of site events ≤ 1) (e : visible name (past_of events (length events)) site ≡ Some token) (stands : entity_at names token ≡ Some entity) where
  abbrev at_each : ℕ → Option Told
  at_each = told_below name events tokens

  abbrev all : List Event
  all = past_of events (length events)

  right : AreRight name all
  right = all_right name events resolved.right (length events)

  those : (slice_index_or names.of_token token None ≡ Some entity) × (nat_lt entity (length names.entities) ≡ true)
  those = within_is (length names.entities) (slice_index_or names.of_token token None) entity stands

  own : (z : Told) × ((at_each token ≡ Some z) × ((begins (at_each z.first) z.first ≡ true) × (count_before at_each z.first ≡ entity)))
  own = number_is at_each (at_each token) entity (sym (resolved.names.of_token token less) ∙ those.0)

  own_told : told name token all ≡ Some own.0
  own_told = told_there name events tokens token own.0 own.1.0

  use_is : (z : Told) × (told name site all ≡ Some z)
  use_is = use_told name token site all right (counted events site few) used

  by_same : use_is.0.first ≡ own.0.first → entity_at names site ≡ Some entity
  by_same same =
      let here : at_each site ≡ Some use_is.0 = ap (λ b. if b then told name site all else None) (lt-ltb site tokens low) ∙ use_is.1 in
      ap (entity_within (length names.entities))
      (
      resolved.names.of_token site low ∙ ap (number_of at_each) here ∙ ap (λ f. if begins (at_each f) f then Some (count_before at_each f) else None) same
      ∙ ap (λ b. if b then Some (count_before at_each own.0.first) else None) own.1.1.0 ∙ ap Some own.1.1.1)
      ∙ ap (λ b. if b then Some entity else None) those.1

  has_once : count_of token events ≤ 1 → entity_at names site ≡ Some entity
  has_once one =
      let y = used_told name token site all (counted events token one) (counted events site few) used use_is.0 use_is.1 e in
      let same : y.own ≡ own.0 = same_Some y.own own.0 (sym y.is ∙ own_told) in
      by_same (sym y.first ∙ ap (λ (z : Told). z.first) same)

  has_alone : IsAlone token all → entity_at names site ≡ Some entity
  has_alone a =
      let first : use_is.0.first ≡ token = used_alone name token site all a right (counted events site few) used use_is.0 use_is.1 e in
      by_same (first ∙ sym (token_told name token all a right own.0 own_told).1)

pub have : Laws.UsesHaveEntities
have name events tokens names token site entity resolved low less used few steady e stands = elim steady [
  | inl one ↦ has_once name events tokens names token site entity resolved low less used few e stands one
  | inr a ↦ has_alone name events tokens names token site entity resolved low less used few e stands a
]
