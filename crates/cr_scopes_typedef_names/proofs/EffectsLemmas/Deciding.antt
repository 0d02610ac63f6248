-- The latest declaration decides.
use Rattle.std.proofs.Common.{◌≡◌, ℕ, zero, suc, ◌==◌, Bool, true, false, not, ◌&&◌, ◌||◌, List, [], ◌∷◌, Option, None, Some, refl, sym, ap, subst, if◌then◌else◌}
use Rattle.std.proofs.lemmas.Bool.{false≢true, true≢false, and_parts, eqb-true}
use Rattle.cr_syntax.specs.Scopes.{Scopes, is_type, enter}
use Rattle.cr_scopes_events.specs.declared.event.Role.{Role}
use Rattle.cr_scopes_events.specs.declared.event.Event.{Event}
use Rattle.cr_scopes_events.specs.declared.event.Event.TheVariants.{Node, Opens, Closes, Name, Member}
use Rattle.cr_scopes.specs.declared.scope.Space.TheVariants.{Ordinary}
use Rattle.cr_scopes.specs.Looking.{stands_in}
use Rattle.cr_scopes_bindings.specs.Visible.{is_named, latest, visible}
use Rattle.cr_scopes_typedef_names.specs.Effects.Effects.{is_typedef, type_name, closed, scopes_of, scopes_at, tells_now, tells_before, Decides, IsSpelled}
use Rattle.cr_scopes_typedef_names.specs.Effects.Laws
use Rattle.cr_scopes_typedef_names.proofs.EffectsLemmas.Entering.{entered_is}

-- so many scopes end
abbrev closes : ℕ → Scopes → Scopes
closes zero c = c
closes (suc d) c = closes d (closed c)

closes_none : (d : ℕ) → closes d [] ≡ []
closes_none zero = refl
closes_none (suc d) = closes_none d

-- one event more
more : (event : Event) (past : List Event) (type : Bool) (found : Option ℕ) → Decides past type found → Decides (event ∷ past) type found
more event past type None h = h
more event past type (Some t) h = (h.0, (tells_before h.1.0, h.1.1))

-- what enters the innermost scope goes with it
enter_closes : (b : Bool) (spelling : ℕ → List ℕ) (t : ℕ) (r : Role) (d : ℕ) (c : Scopes) → closes (suc d) c ≡ closes (suc d) (if b then enter (type_name spelling t r) c else c)
enter_closes true spelling t r d [] = refl
enter_closes true spelling t r d (names ∷ outer) = refl
enter_closes false spelling t r d c = refl

module _ (name : ℕ → ℕ) (spelling : ℕ → List ℕ) (s : ℕ) (spelled : List ℕ) (alike : IsSpelled name spelling s spelled) where
  abbrev Holds : ℕ → List Event → Type 0
  Holds d past = Decides past (is_type (closes d (scopes_of spelling past)) spelled) (latest name s d past)

  named : (b : Bool) (t : ℕ) (r : Role) (past : List Event) (c : Scopes) (found : Option ℕ) → stands_in Ordinary r ≡ b → Decides past (is_type c spelled) found
      → Decides (Name t r ∷ past) (is_type (if b then enter (type_name spelling t r) c else c) spelled) (if b && (name t == s) then Some t else found)
  named false t r past c found q h = more (Name t r) past (is_type c spelled) found h
  named true t r past c found q h =
      subst (λ x. Decides (Name t r ∷ past) x (if name t == s then Some t else found)) (sym (entered_is (type_name spelling t r) c spelled))
      (subst (λ x. Decides (Name t r ∷ past) (if x then is_typedef r else is_type c spelled) (if name t == s then Some t else found)) (alike t) (by (name t == s)))
    where
      by : (b : Bool) → Decides (Name t r ∷ past) (if b then is_typedef r else is_type c spelled) (if b then Some t else found)
      by true = (r, (tells_now, refl))
      by false = more (Name t r) past (is_type c spelled) found h

  decided : (d : ℕ) (past : List Event) → Holds d past
  decided zero [] = refl
  decided (suc d) [] = ap (λ c. is_type c spelled) (closes_none d)
  decided zero (Closes ∷ past) = more Closes past _ (latest name s 1 past) (decided 1 past)
  decided (suc d) (Closes ∷ past) = more Closes past _ (latest name s (suc (suc d)) past) (decided (suc (suc d)) past)
  decided zero (Opens ∷ past) = more Opens past _ (latest name s zero past) (decided zero past)
  decided (suc d) (Opens ∷ past) = more Opens past _ (latest name s d past) (decided d past)
  decided zero (Name t r ∷ past) = named (stands_in Ordinary r) t r past (scopes_of spelling past) (latest name s zero past) refl (decided zero past)
  decided (suc d) (Name t r ∷ past) =
      more (Name t r) past _ (latest name s (suc d) past)
      (subst (λ c. Decides past (is_type c spelled) (latest name s (suc d) past)) (enter_closes (stands_in Ordinary r) spelling t r d (scopes_of spelling past)) (decided (suc d) past))
  decided zero (Member t k ∷ past) = more (Member t k) past _ (latest name s zero past) (decided zero past)
  decided (suc d) (Member t k ∷ past) = more (Member t k) past _ (latest name s (suc d) past) (decided (suc d) past)
  decided zero (Node i ∷ past) = more (Node i) past _ (latest name s zero past) (decided zero past)
  decided (suc d) (Node i ∷ past) = more (Node i) past _ (latest name s (suc d) past) (decided (suc d) past)

pub all_decide : Laws.TypesAreTypedefs
all_decide name spelling s spelled past alike = decided name spelling s spelled alike zero past

module _ (name : ℕ → ℕ) (spelling : ℕ → List ℕ) (token : ℕ) (alike : IsSpelled name spelling (name token) (spelling token)) where
  abbrev Stands : List Event → Type 0
  Stands past = Decides past (is_type (scopes_at spelling past token) (spelling token)) (visible name past token)

  at_name : (b : Bool) (t : ℕ) (r : Role) (past : List Event) → ((token == t) && not (is_named token past)) ≡ b → (is_named token past ≡ true → Stands past) → ((token == t) || is_named token past) ≡ true
      → Decides (Name t r ∷ past) (is_type (if b then scopes_of spelling past else scopes_at spelling past token) (spelling token)) (if b then latest name (name t) zero past else visible name past token)
  at_name true t r past q rest told =
      let same = eqb-true token t (and_parts (token == t) (not (is_named token past)) q).0 in
      more (Name t r) past _ (latest name (name t) zero past)
      (subst (λ x. Decides past (is_type (scopes_of spelling past) (spelling token)) (latest name (name x) zero past)) same (decided name spelling (name token) (spelling token) alike zero past))
  at_name false t r past q rest told = more (Name t r) past _ (visible name past token) (rest (named_before (token == t) (is_named token past) q told))
    where
      named_before : (a b : Bool) → (a && not b) ≡ false → (a || b) ≡ true → b ≡ true
      named_before true true p o = refl
      named_before true false p o = absurd (true≢false p)
      named_before false b p o = o

  stands : (past : List Event) → is_named token past ≡ true → Stands past
  stands [] h = absurd (false≢true h)
  stands (Name t r ∷ past) h = at_name ((token == t) && not (is_named token past)) t r past refl (stands past) h
  stands (Opens ∷ past) h = more Opens past _ (visible name past token) (stands past h)
  stands (Closes ∷ past) h = more Closes past _ (visible name past token) (stands past h)
  stands (Member t k ∷ past) h = more (Member t k) past _ (visible name past token) (stands past h)
  stands (Node i ∷ past) h = more (Node i) past _ (visible name past token) (stands past h)

pub first_decides : Laws.VisibleDecides
first_decides name spelling token past alike told = stands name spelling token alike past told
