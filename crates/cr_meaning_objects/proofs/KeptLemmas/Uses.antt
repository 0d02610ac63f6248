-- An entity that a use stands for is used, and one of ordinary identifiers, where no tag begins it (C11 6.2.3).
use Rattle.std.proofs.Common.{◌≡◌, ℕ, zero, suc, ◌<◌, ◌==◌, Bool, true, false, ◌&&◌, ◌||◌, List, [], ◌∷◌, ◌++◌, Option, None, Some, length, slice_get, slice_index_or, nat_lt, ◌⊎◌, inl, inr, refl, sym, subst, ap, ◌∙◌, arith, if◌then◌else◌}
use Rattle.std.specs.List.{list_any}
use Rattle.std.specs.Option.{is_some}
use Rattle.std.proofs.lemmas.Bool.{cases_lt, false≢true, eq-eqb, eqb-true, and_parts, ltb-true, lt-ltb}
use Rattle.std.proofs.lemmas.Option.{slice_get_within, same_Some}
use Rattle.cr_scopes_events.specs.declared.event.Role.{Role}
use Rattle.cr_scopes_events.specs.declared.event.Role.TheVariants as role
use Rattle.cr_scopes_events.specs.declared.event.Event.{Event}
use Rattle.cr_scopes_events.specs.declared.event.Event.TheVariants.{Node, Opens, Closes, Name, Member}
use Rattle.cr_scopes.specs.declared.names.Entity.{Entity}
use Rattle.cr_scopes.specs.declared.names.Names.{Names}
use Rattle.cr_scopes.specs.declared.scope.Look.{Look}
use Rattle.cr_scopes.specs.declared.scope.Found.{Found}
use Rattle.cr_scopes.specs.declared.scope.Space.TheVariants.{Tag}
use Rattle.cr_scopes.specs.declared.told.Told.{Told}
use Rattle.cr_scopes.specs.Looking.{or_else, stands_in, is_mention, begun, noted_if, look}
use Rattle.cr_scopes.specs.Resolved.{space_of, space_number, declares_by, told_if, told_of, told, begins, count_of, number_of, with_token, is_number, entity_of, past_of, told_below, AreResolved}
use Rattle.cr_scopes_bindings.specs.Entities.{entity_within, entity_at, is_declared_by, declares, declared_entity}
use Rattle.cr_scopes_visibility.proofs.AloneLemmas.First.{one_number, number_is, number_same, told_there, within_is}
use Rattle.cr_scopes_linkage.specs.Shared.Sorts.{is_tag, Never}
use Rattle.cr_scopes_linkage.proofs.SharedLemmas.Looked.{Once, never_once}
use Rattle.cr_scopes_linkage.proofs.FunctionsLemmas.Shared.{any_there as any_at}
use Rattle.cr_check_definitions.specs.Defined.{is_used}

-- all that is told but a use
abbrev pub is_telling : Role → Bool
is_telling role.Used = false
is_telling r = true

only_used : (r : Role) → is_telling r ≡ false → r ≡ role.Used
only_used role.Used h = refl
only_used r h = absurd (false≢true (sym h))

-- ---- what is told

told_declares : (b : Bool) (r : Role) (o : Option Found) (x : Told) → told_if b r o ≡ Some x → x.declares ≡ b
told_declares b r None x e = absurd cc
told_declares b r (Some f) x e =
    let same : record { first = f.first; declares = b; space = space_number (space_of r) } ≡ x = cc in
    sym (ap (λ (y : Told). y.declares) same)

told_space : (b : Bool) (r : Role) (o : Option Found) (x : Told) → told_if b r o ≡ Some x → x.space ≡ space_number (space_of r)
told_space b r None x e = absurd cc
told_space b r (Some f) x e =
    let same : record { first = f.first; declares = b; space = space_number (space_of r) } ≡ x = cc in
    sym (ap (λ (y : Told). y.space) same)

told_first : (b : Bool) (r : Role) (o : Option Found) (x : Told) → told_if b r o ≡ Some x → (f : Found) × ((o ≡ Some f) × (f.first ≡ x.first))
told_first b r None x e = absurd cc
told_first b r (Some f) x e =
    let same : record { first = f.first; declares = b; space = space_number (space_of r) } ≡ x = cc in
    (f, (refl, ap (λ (y : Told). y.first) same))

module _ (name : ℕ → ℕ) where
  told_use : (token : ℕ) (past : List Event) (x : Told) → Never is_telling token past → told name token past ≡ Some x → x.declares ≡ false
  told_use token [] x h e = absurd cc
  told_use token (Name t r ∷ past) x h e = by (token == t) refl e (λ f. told_use token past x h.1 f)
    where
      own : (s : Role) → r ≡ s → s ≡ role.Used → told_of name past t s ≡ Some x → x.declares ≡ false
      own role.Used q u f = told_declares false role.Used (look name (space_of role.Used) (name t) zero (Name t role.Used ∷ past)).seen x f
      own s q u f = absurd cc

      by : (b : Bool) → (token == t) ≡ b → (if b then told_of name past t r else told name token past) ≡ Some x → (told name token past ≡ Some x → x.declares ≡ false) → x.declares ≡ false
      by true q f rest = own r refl (only_used r (h.0 (sym (eqb-true token t q)))) f
      by false q f rest = rest f
  told_use token (Opens ∷ past) x h e = told_use token past x h e
  told_use token (Closes ∷ past) x h e = told_use token past x h e
  told_use token (Member t k ∷ past) x h e = told_use token past x h e
  told_use token (Node i ∷ past) x h e = told_use token past x h e

  -- ---- tags begin with tags

  begun_tag : (past : List Event) (t : ℕ) (r : Role) → stands_in Tag r ≡ true → Once is_tag (begun name past t r).first (Name t r ∷ past)
  begun_tag past t role.Content h = inl (refl, refl)
  begun_tag past t role.Alone h = inl (refl, refl)
  begun_tag past t role.Mentioned h = inl (refl, refl)
  begun_tag past t r h = absurd (false≢true h)

  record AreTags (past : List Event) (l : Look) : Type 0 where
    here : (f : Found) → l.here ≡ Some f → Once is_tag f.first past
    seen : (f : Found) → l.seen ≡ Some f → Once is_tag f.first past

  looked : (s d : ℕ) (past : List Event) → AreTags past (look name Tag s d past)
  looked s d [] = record { here = λ f e. absurd cc; seen = λ f e. absurd cc }
  looked s d (Closes ∷ past) = let h = looked s (suc d) past in record { here = h.here; seen = h.seen }
  looked s zero (Opens ∷ past) = let h = looked s zero past in record { here = λ f e. absurd cc; seen = h.seen }
  looked s (suc d) (Opens ∷ past) = let h = looked s d past in record { here = h.here; seen = h.seen }
  looked s zero (Name t r ∷ past) = by (stands_in Tag r && (name t == s)) refl (looked s zero past)
    where
      l : Look
      l = look name Tag s zero past

      later : AreTags past l → AreTags (Name t r ∷ past) l
      later h = record { here = λ f e. inr (h.here f e); seen = λ f e. inr (h.seen f e) }

      either : (o : Option Found) → ((f : Found) → o ≡ Some f → Once is_tag f.first past) → stands_in Tag r ≡ true → (f : Found) → or_else o (Some (begun name past t r)) ≡ Some f → Once is_tag f.first (Name t r ∷ past)
      either None h stands f e = let same : begun name past t r ≡ f = cc in subst (λ (x : Found). Once is_tag x.first (Name t r ∷ past)) same (begun_tag past t r stands)
      either (Some g) h stands f e = inr (h f e)

      noted : (b : Bool) → stands_in Tag r ≡ true → AreTags past l
          → AreTags (Name t r ∷ past) (if b then l else record { here = or_else l.here (Some (begun name past t r)); seen = or_else l.here (Some (begun name past t r)) })
      noted true stands h = later h
      noted false stands h = record { here = either l.here h.here stands; seen = either l.here h.here stands }

      by : (b : Bool) → (stands_in Tag r && (name t == s)) ≡ b → AreTags past l → AreTags (Name t r ∷ past) (noted_if b (begun name past t r) l)
      by true q h = noted (is_mention r && is_some l.seen) (and_parts (stands_in Tag r) (name t == s) q).0 h
      by false q h = later h
  looked s (suc d) (Name t r ∷ past) = let h = looked s (suc d) past in record { here = λ f e. inr (h.here f e); seen = λ f e. inr (h.seen f e) }
  looked s d (Member t k ∷ past) = let h = looked s d past in record { here = h.here; seen = h.seen }
  looked s d (Node i ∷ past) = let h = looked s d past in record { here = h.here; seen = h.seen }

  plain_or_tag : (token : ℕ) (past : List Event) (x : Told) → told name token past ≡ Some x → (x.space ≡ 0) ⊎ Once is_tag x.first past
  plain_or_tag token [] x e = absurd cc
  plain_or_tag token (Name t r ∷ past) x e = by (token == t) e (λ f. plain_or_tag token past x f)
    where
      tagged : (b : Bool) (s : Role) → told_if b s (look name Tag (name t) zero (Name t s ∷ past)).seen ≡ Some x → Once is_tag x.first (Name t s ∷ past)
      tagged b s f =
          let g = told_first b s (look name Tag (name t) zero (Name t s ∷ past)).seen x f in
          subst (λ y. Once is_tag y (Name t s ∷ past)) g.1.1 ((looked (name t) zero (Name t s ∷ past)).seen g.0 g.1.0)

      own : (s : Role) → told_of name past t s ≡ Some x → (x.space ≡ 0) ⊎ Once is_tag x.first (Name t s ∷ past)
      own role.Content f = inr (tagged true role.Content f)
      own role.Alone f = inr (tagged true role.Alone f)
      own role.Mentioned f = inr (tagged (declares_by role.Mentioned (look name Tag (name t) zero past)) role.Mentioned f)
      own s f = inl (told_space (declares_by s (look name Tag (name t) zero past)) s (look name (space_of s) (name t) zero (Name t s ∷ past)).seen x f)

      by : (b : Bool) → (if b then told_of name past t r else told name token past) ≡ Some x → (told name token past ≡ Some x → (x.space ≡ 0) ⊎ Once is_tag x.first past) → (x.space ≡ 0) ⊎ Once is_tag x.first (Name t r ∷ past)
      by true f rest = own r f
      by false f rest = elim (rest f) [ inl a ↦ inl a | inr a ↦ inr (inr a) ]
  plain_or_tag token (Opens ∷ past) x e = plain_or_tag token past x e
  plain_or_tag token (Closes ∷ past) x e = plain_or_tag token past x e
  plain_or_tag token (Member t k ∷ past) x e = plain_or_tag token past x e
  plain_or_tag token (Node i ∷ past) x e = plain_or_tag token past x e

-- ---- the tokens of an entity

used_more : (t : ℕ) (xs : List ℕ) → is_used (xs ++ t ∷ []) ≡ true
used_more t [] = refl
used_more t (x ∷ xs) = refl

used_still : (t : ℕ) (xs : List ℕ) → is_used xs ≡ true → is_used (xs ++ t ∷ []) ≡ true
used_still t xs h = used_more t xs

any_or_last : (d m : ℕ) (xs : List ℕ) → list_any (λ x. x == d) (xs ++ m ∷ []) ≡ true → (list_any (λ x. x == d) xs ≡ true) ⊎ (m ≡ d)
any_or_last d m [] h = by (m == d) refl h
  where
    by : (b : Bool) → (m == d) ≡ b → (b || false) ≡ true → (false ≡ true) ⊎ (m ≡ d)
    by true q g = inr (eqb-true m d q)
    by false q g = inl g
any_or_last d m (x ∷ xs) h = by (x == d) h (λ g. any_or_last d m xs g)
  where
    by : (b : Bool) → (b || list_any (λ y. y == d) (xs ++ m ∷ [])) ≡ true → (list_any (λ y. y == d) (xs ++ m ∷ []) ≡ true → (list_any (λ y. y == d) xs ≡ true) ⊎ (m ≡ d)) → ((b || list_any (λ y. y == d) xs) ≡ true) ⊎ (m ≡ d)
    by true g rest = inl refl
    by false g rest = rest g

module _ (at : ℕ → Option Told) (k : ℕ) where
  abbrev so_far : ℕ → Entity
  so_far m = entity_of at m k

  abbrev uses_in : Entity → List ℕ
  uses_in e = e.uses

  abbrev declared_in : Entity → List ℕ
  declared_in e = e.declared

  abbrev space_in : Entity → ℕ
  space_in e = e.space

  with_it : (m : ℕ) (x : Told) (e : Entity) → uses_in (with_token m (Some x) e) ≡ (if x.declares then e.uses else e.uses ++ m ∷ [])
  with_it m x e = by x.declares
    where
      by : (b : Bool) → uses_in (if b then record { declared = e.declared ++ m ∷ []; uses = e.uses; space = x.space } else record { declared = e.declared; uses = e.uses ++ m ∷ []; space = x.space }) ≡ (if b then e.uses else e.uses ++ m ∷ [])
      by true = refl
      by false = refl

  used_later : (m : ℕ) (o : Option Told) (e : Entity) → is_used e.uses ≡ true → is_used (uses_in (with_token m o e)) ≡ true
  used_later m None e h = h
  used_later m (Some x) e h = ap is_used (with_it m x e) ∙ by x.declares
    where
      by : (b : Bool) → is_used (if b then e.uses else e.uses ++ m ∷ []) ≡ true
      by true = h
      by false = used_still m e.uses h

  -- a use is one of its uses
  is_used_by : (site : ℕ) (x : Told) → at site ≡ Some x → x.declares ≡ false → is_number (number_of at (at site)) k ≡ true → (m : ℕ) → site < m → is_used (uses_in (so_far m)) ≡ true
  is_used_by site x here plain number zero low = absurd (omega (arith, low))
  is_used_by site x here plain number (suc m) low = elim (cases_lt site m) [
    | inl less ↦ later (is_number (number_of at (at m)) k) (is_used_by site x here plain number m less)
    | inr ge ↦
        (let same : m ≡ site = omega (arith, low, ge) in
        subst (λ y. is_used (uses_in (if is_number (number_of at (at y)) k then with_token y (at y) (so_far y) else so_far y)) ≡ true) (sym same)
        (ap (λ b. is_used (uses_in (if b then with_token site (at site) (so_far site) else so_far site))) number
        ∙ ap (λ o. is_used (uses_in (with_token site o (so_far site)))) here
        ∙ ap is_used (with_it site x (so_far site)) ∙ ap (λ b. is_used (if b then uses_in (so_far site) else uses_in (so_far site) ++ site ∷ [])) plain ∙ used_more site (uses_in (so_far site))))
  ]
    where
      later : (b : Bool) → is_used (uses_in (so_far m)) ≡ true → is_used (uses_in (if b then with_token m (at m) (so_far m) else so_far m)) ≡ true
      later true h = used_later m (at m) (so_far m) h
      later false h = h

  -- where all of its tokens are of one space, so is it
  in_space : ((t : ℕ) (x : Told) → at t ≡ Some x → is_number (number_of at (at t)) k ≡ true → x.space ≡ 0) → (m : ℕ) → space_in (so_far m) ≡ 0
  in_space all zero = refl
  in_space all (suc m) = by (is_number (number_of at (at m)) k) refl (at m) refl (in_space all m)
    where
      of_told : (x : Told) (e : Entity) → x.space ≡ 0 → space_in (with_token m (Some x) e) ≡ 0
      of_told x e h = own x.declares
        where
          own : (b : Bool) → space_in (if b then record { declared = e.declared ++ m ∷ []; uses = e.uses; space = x.space } else record { declared = e.declared; uses = e.uses ++ m ∷ []; space = x.space }) ≡ 0
          own true = h
          own false = h

      by : (b : Bool) → is_number (number_of at (at m)) k ≡ b → (o : Option Told) → at m ≡ o → space_in (so_far m) ≡ 0 → space_in (if b then with_token m o (so_far m) else so_far m) ≡ 0
      by false q o p h = h
      by true q None p h = h
      by true q (Some x) p h = of_told x (so_far m) (all m x p q)

  -- what declares it stands for it
  record IsListed (d m : ℕ) : Type 0 where
    low : d < m
    number : is_number (number_of at (at d)) k ≡ true
    own : Told
    is : at d ≡ Some own
    declares_it : own.declares ≡ true

  is_listed : (d m : ℕ) → list_any (λ x. x == d) (declared_in (so_far m)) ≡ true → IsListed d m
  is_listed d zero h = absurd (false≢true h)
  is_listed d (suc m) h = by (is_number (number_of at (at m)) k) refl (at m) refl h (λ g. is_listed d m g)
    where
      Early : Type 0
      Early = list_any (λ x. x == d) (declared_in (so_far m)) ≡ true → IsListed d m

      early : IsListed d m → IsListed d (suc m)
      early x = let low = x.low in record { low = omega (arith, low); number = x.number; own = x.own; is = x.is; declares_it = x.declares_it }

      added : is_number (number_of at (at m)) k ≡ true → (x : Told) → at m ≡ Some x → x.declares ≡ true → list_any (λ y. y == d) (declared_in (so_far m) ++ m ∷ []) ≡ true → Early → IsListed d (suc m)
      added q x p c g rest = elim (any_or_last d m (declared_in (so_far m)) g) [
        | inl a ↦ early (rest a)
        | inr same ↦
            record { low = omega (arith, same); number = ap (λ y. is_number (number_of at (at y)) k) (sym same) ∙ q; own = x; is = ap at (sym same) ∙ p; declares_it = c }
      ]

      of_told : is_number (number_of at (at m)) k ≡ true → (x : Told) → at m ≡ Some x → (b : Bool) → x.declares ≡ b
          → list_any (λ y. y == d) (declared_in (if b then record { declared = declared_in (so_far m) ++ m ∷ []; uses = uses_in (so_far m); space = x.space }
          else record { declared = declared_in (so_far m); uses = uses_in (so_far m) ++ m ∷ []; space = x.space })) ≡ true → Early → IsListed d (suc m)
      of_told q x p true c g rest = added q x p c g rest
      of_told q x p false c g rest = early (rest g)

      by : (b : Bool) → is_number (number_of at (at m)) k ≡ b → (o : Option Told) → at m ≡ o → list_any (λ x. x == d) (declared_in (if b then with_token m o (so_far m) else so_far m)) ≡ true → Early → IsListed d (suc m)
      by false q o p g rest = early (rest g)
      by true q None p g rest = early (rest g)
      by true q (Some x) p g rest = of_told q x p x.declares refl g rest

any_found : {A : Type 0} (test : A → Bool) (xs : List A) → list_any test xs ≡ true → (j : ℕ) × ((x : A) × ((slice_get xs j ≡ Some x) × (test x ≡ true)))
any_found test [] h = absurd (false≢true h)
any_found {A = A} test (x ∷ xs) h = by (test x) refl h (λ g. any_found test xs g)
  where
    by : (b : Bool) → test x ≡ b → (b || list_any test xs) ≡ true → (list_any test xs ≡ true → (j : ℕ) × ((y : A) × ((slice_get xs j ≡ Some y) × (test y ≡ true))))
        → (j : ℕ) × ((y : A) × ((slice_get (x ∷ xs) j ≡ Some y) × (test y ≡ true)))
    by true q g rest = (0, (x, (refl, q)))
    by false q g rest = let r = rest g in (suc r.0, r.1)

-- ---- of a unit without faults

module _ (name : ℕ → ℕ) (events : List Event) (tokens : ℕ) (names : Names) (resolved : AreResolved name events tokens names) (k : ℕ) where
  abbrev at : ℕ → Option Told
  at = told_below name events tokens

  abbrev whole : List Event
  whole = past_of events (length events)

  -- an entity that a use stands for, with the first token of what stands for it
  pub record IsUsed (site : ℕ) : Type 0 where
    pub entity : Entity
    pub is : slice_get names.entities k ≡ Some entity
    pub used : is_used entity.uses ≡ true
    pub plain : entity.space ≡ 0
    pub declared : (d : ℕ) → list_any (λ x. x == d) entity.declared ≡ true → declared_entity names d ≡ Some k

  pub first_of_site : (site : ℕ) → site < tokens → entity_at names site ≡ Some k → (x : Told) × ((told name site whole ≡ Some x) × ((begins (at x.first) x.first ≡ true) × (count_of at x.first ≡ k)))
  first_of_site site low e =
      let there = within_is (length names.entities) (slice_index_or names.of_token site None) k e in
      let is = number_is at (at site) k (sym (resolved.names.of_token site low) ∙ there.0) in
      (is.0, (told_there name events tokens site is.0 is.1.0, is.1.1))

  -- what declares an entity is told so
  pub declared_told : (token : ℕ) → declared_entity names token ≡ Some k → (x : Told) × ((told name token whole ≡ Some x) × (x.declares ≡ true))
  declared_told token h = by (declares names token) refl h
    where
      by : (b : Bool) → declares names token ≡ b → (if b then entity_at names token else None) ≡ Some k → (x : Told) × ((told name token whole ≡ Some x) × (x.declares ≡ true))
      by false q e = absurd cc
      by true q e =
          let f = any_found (is_declared_by token) names.entities q in
          let few : f.0 < count_of at tokens = (let c = resolved.names.count in let low = slice_get_within names.entities f.0 f.1.0 f.1.1.0 in omega (arith, c, low)) in
          let one : f.1.0 ≡ entity_of at tokens f.0 = same_Some f.1.0 (entity_of at tokens f.0) (sym f.1.1.0 ∙ resolved.names.entities f.0 few) in
          let x = is_listed at f.0 token tokens (ap (is_declared_by token) (sym one) ∙ f.1.1.1) in
          (x.own, (told_there name events tokens token x.own x.is, x.declares_it))

  pub is_used_there : (site : ℕ) → site < tokens → entity_at names site ≡ Some k → Never is_telling site whole
      → (first : ℕ) → begins (at first) first ≡ true → count_of at first ≡ k → Never is_tag first whole → IsUsed site
  is_used_there site low e never first begins_there count_is plain = record {
    entity = entity_of at tokens k;
    is = entity_is;
    used = is_used_by at k site own.0 own.1.0 (told_use name site whole own.0 never (told_there name events tokens site own.0 own.1.0)) numbered tokens low;
    plain = in_space at k spaces tokens;
    declared = listed;
  }
    where
      there : (slice_index_or names.of_token site None ≡ Some k) × (nat_lt k (length names.entities) ≡ true)
      there = within_is (length names.entities) (slice_index_or names.of_token site None) k e

      few : k < length names.entities
      few = ltb-true k (length names.entities) there.1

      entity_is : slice_get names.entities k ≡ Some (entity_of at tokens k)
      entity_is = resolved.names.entities k (let c = resolved.names.count in let f = few in omega (arith, f, c))

      number : number_of at (at site) ≡ Some k
      number = sym (resolved.names.of_token site low) ∙ there.0

      own : (x : Told) × ((at site ≡ Some x) × ((begins (at x.first) x.first ≡ true) × (count_of at x.first ≡ k)))
      own = number_is at (at site) k number

      numbered : is_number (number_of at (at site)) k ≡ true
      numbered = ap (λ o. is_number o k) number ∙ eq-eqb k k refl

      spaces : (t : ℕ) (x : Told) → at t ≡ Some x → is_number (number_of at (at t)) k ≡ true → x.space ≡ 0
      spaces t x here same =
          let it = number_is at (at t) k (number_same (number_of at (at t)) k same) in
          let one : it.0 ≡ x = same_Some it.0 x (sym it.1.0 ∙ here) in
          let its : it.0.first ≡ first = one_number at it.0.first first it.1.1.0 begins_there (it.1.1.1 ∙ sym count_is) in
          let x_first : x.first ≡ first = ap (λ (y : Told). y.first) (sym one) ∙ its in
          elim (plain_or_tag name t whole x (told_there name events tokens t x here)) [
            | inl zero_is ↦ zero_is
            | inr once ↦ absurd (never_once is_tag first whole plain (subst (λ y. Once is_tag y whole) x_first once))
          ]

      listed : (d : ℕ) → list_any (λ x. x == d) (entity_of at tokens k).declared ≡ true → declared_entity names d ≡ Some k
      listed d h =
          let x = is_listed at k d tokens h in
          ap (λ b. if b then entity_at names d else None) (any_at (is_declared_by d) names.entities k (entity_of at tokens k) entity_is h)
          ∙ ap (entity_within (length names.entities)) (resolved.names.of_token d x.low ∙ number_same (number_of at (at d)) k x.number)
          ∙ ap (λ b. if b then Some k else None) (lt-ltb k (length names.entities) few)
