-- What stands for an identifier without linkage is used where its declaration is in scope.
use Rattle.std.proofs.Common.{◌≡◌, ℕ, zero, suc, ◌<◌, ◌==◌, ◌⊎◌, inl, inr, Bool, true, false, ◌&&◌, List, [], ◌∷◌, ◌++◌, Option, None, Some, length, slice_get, slice_index_or, refl, sym, subst, ap, ◌∙◌, arith}
use Rattle.std.specs.Prelude.{if◌then◌else◌}
use Rattle.std.specs.Option.{is_some}
use Rattle.std.proofs.lemmas.Bool.{false≢true, and_parts, or_left, or_right, eqb-true, eq-eqb, ltb-true}
use Rattle.std.proofs.lemmas.Option.{same_Some}
use Rattle.cr_scopes_events.specs.declared.event.Role.{Role}
use Rattle.cr_scopes_events.specs.declared.event.Role.TheVariants as role
use Rattle.cr_scopes_events.specs.declared.event.Event.{Event}
use Rattle.cr_scopes_events.specs.declared.event.Event.TheVariants.{Node, Opens, Closes, Name, Member}
use Rattle.cr_scopes.specs.declared.names.Entity.{Entity}
use Rattle.cr_scopes.specs.declared.told.Told.{Told}
use Rattle.cr_scopes.specs.declared.scope.Space.{Space}
use Rattle.cr_scopes.specs.declared.scope.Space.TheVariants.{Ordinary, Tag}
use Rattle.cr_scopes.specs.declared.scope.Found.{Found}
use Rattle.cr_scopes.specs.declared.scope.Look.{Look}
use Rattle.cr_scopes.specs.Looking.{or_else, is_outermost, stands_in, is_mention, begun, noted, noted_if, look}
use Rattle.cr_scopes.specs.Resolved.{space_of, space_number, declares, told_if, told_of, told, begins, count_of, number_of, with_token, is_number, entity_of, past_of, told_below}
use Rattle.cr_scopes_bindings.specs.declared.scoped.Binding.{Binding}
use Rattle.cr_scopes_bindings.specs.declared.scoped.Binding.TheVariants.{Bound}
use Rattle.cr_scopes_bindings.specs.Stacks.{outside, stack_of}
use Rattle.cr_scopes_bindings.specs.Entities.{entity_at, first_in, first_if, first_of}
use Rattle.cr_scopes_visibility.specs.Alone.Alone.{is_plain, IsAlone}
use Rattle.cr_scopes_visibility.specs.Alone.Sight.{is_bound, is_used, IsSeen}
use Rattle.cr_scopes_visibility.specs.Alone.Laws
use Rattle.cr_scopes_visibility.proofs.AloneLemmas.Telling.{AreRight, all_right, not_tag, alone_plain, begun_first, token_told, none_other}
use Rattle.cr_scopes_visibility.proofs.AloneLemmas.First.{one_number, number_is, number_same, told_there, within_is}

-- ---- scopes that ended

abbrev ended : ℕ → List Binding → List Binding
ended zero stack = stack
ended (suc d) stack = ended d (outside stack)

name_outside : (b : Bool) (n t : ℕ) (stack : List Binding) → outside (if b then Bound n t ∷ stack else stack) ≡ outside stack
name_outside true n t stack = refl
name_outside false n t stack = refl

still_bound : (tok : ℕ) (b : Bool) (n t : ℕ) (stack : List Binding) → is_bound tok stack ≡ true → is_bound tok (if b then Bound n t ∷ stack else stack) ≡ true
still_bound tok true n t stack h = or_right (t == tok) (is_bound tok stack) h
still_bound tok false n t stack h = h

plain_ordinary : (r : Role) → is_plain r ≡ true → stands_in Ordinary r ≡ true
plain_ordinary role.Object h = refl
plain_ordinary role.Parameter h = refl
plain_ordinary role.Enumerator h = refl
plain_ordinary r h = absurd (false≢true h)

module _ (name : ℕ → ℕ) (tok : ℕ) where
  -- ---- what is found

  -- what begins with the token is declared in a scope that is open
  record IsSight (space : Space) (d : ℕ) (past : List Event) (f : Found) : Type 0 where
    stands : stands_in space f.role ≡ true
    plain : f.first ≡ tok → is_plain f.role ≡ true
    bound : f.first ≡ tok → is_bound tok (ended d (stack_of name past)) ≡ true

  abbrev IfSight : Space → ℕ → List Event → Option Found → Type 0
  IfSight space d past None = Unit {0}
  IfSight space d past (Some f) = IsSight space d past f

  record AreSights (space : Space) (d : ℕ) (past : List Event) (l : Look) : Type 0 where
    here : IfSight space d past l.here
    seen : IfSight space d past l.seen

  moved : (space : Space) (d e : ℕ) (past after : List Event) (o : Option Found) → (is_bound tok (ended d (stack_of name past)) ≡ true → is_bound tok (ended e (stack_of name after)) ≡ true)
      → IfSight space d past o → IfSight space e after o
  moved space d e past after None g h = tt
  moved space d e past after (Some f) g h = record { stands = h.stands; plain = h.plain; bound = λ q. g (h.bound q) }

  both_moved : (space : Space) (d e : ℕ) (past after : List Event) (l : Look) → (is_bound tok (ended d (stack_of name past)) ≡ true → is_bound tok (ended e (stack_of name after)) ≡ true)
      → AreSights space d past l → AreSights space e after l
  both_moved space d e past after l g h = record { here = moved space d e past after l.here g h.here; seen = moved space d e past after l.seen g h.seen }

  or_sight : (space : Space) (d : ℕ) (past : List Event) (o : Option Found) (f : Found) → IfSight space d past o → IsSight space d past f → IfSight space d past (or_else o (Some f))
  or_sight space d past None f h g = g
  or_sight space d past (Some x) f h g = h

  noted_sight : (space : Space) (d : ℕ) (past : List Event) (l : Look) (f : Found) → AreSights space d past l → IsSight space d past f → AreSights space d past (noted f l)
  noted_sight space d past l f h g = by (is_mention f.role && is_some l.seen)
    where
      by : (b : Bool) → AreSights space d past (if b then l else record { here = or_else l.here (Some f); seen = or_else l.here (Some f) })
      by true = h
      by false = record { here = or_sight space d past l.here f h.here g; seen = or_sight space d past l.here f h.here g }

  if_sight : (space : Space) (d : ℕ) (past : List Event) (b : Bool) (l : Look) (f : Found) → AreSights space d past l → (b ≡ true → IsSight space d past f) → AreSights space d past (noted_if b f l)
  if_sight space d past true l f h g = noted_sight space d past l f h (g refl)
  if_sight space d past false l f h g = h

  -- a declaration that begins with the token is one of the token
  begun_sight : (space : Space) (past : List Event) (t : ℕ) (r : Role) → (t ≡ tok → is_plain r ≡ true) → IsAlone tok past → stands_in space r ≡ true → IsSight space zero (Name t r ∷ past) (begun name past t r)
  begun_sight space past t r alone a stands = record {
    stands = stands;
    plain = λ q. alone (begun_first name tok past t r a q);
    bound = λ q.
        let same = begun_first name tok past t r a q in
        ap (λ b. is_bound tok (if b then Bound (name t) t ∷ stack_of name past else stack_of name past)) (plain_ordinary r (alone same)) ∙ or_left (t == tok) (is_bound tok (stack_of name past)) (eq-eqb t tok same);
  }

  looked : (space : Space) (s d : ℕ) (past : List Event) → IsAlone tok past → AreSights space d past (look name space s d past)
  looked space s d [] a = record { here = tt; seen = tt }
  looked space s d (Closes ∷ past) a = both_moved space (suc d) d past (Closes ∷ past) (look name space s (suc d) past) (λ x. x) (looked space s (suc d) past a)
  looked space s zero (Opens ∷ past) a = record { here = tt; seen = moved space zero zero past (Opens ∷ past) (look name space s zero past).seen (λ x. x) (looked space s zero past a).seen }
  looked space s (suc d) (Opens ∷ past) a = both_moved space d (suc d) past (Opens ∷ past) (look name space s d past) (λ x. x) (looked space s d past a)
  looked space s zero (Name t r ∷ past) a =
      if_sight space zero (Name t r ∷ past) (stands_in space r && (name t == s)) (look name space s zero past) (begun name past t r)
      (both_moved space zero zero past (Name t r ∷ past) (look name space s zero past) (still_bound tok (stands_in Ordinary r) (name t) t (stack_of name past)) (looked space s zero past a.1))
      (λ q. begun_sight space past t r (λ same. alone_plain (is_outermost past) r (a.0 same)) a.1 (and_parts (stands_in space r) (name t == s) q).0)
  looked space s (suc d) (Name t r ∷ past) a =
      both_moved space (suc d) (suc d) past (Name t r ∷ past) (look name space s (suc d) past)
      (λ x. ap (λ stack. is_bound tok (ended d stack)) (name_outside (stands_in Ordinary r) (name t) t (stack_of name past)) ∙ x) (looked space s (suc d) past a.1)
  looked space s d (Member t k ∷ past) a = both_moved space d d past (Member t k ∷ past) (look name space s d past) (λ x. x) (looked space s d past a)
  looked space s d (Node i ∷ past) a = both_moved space d d past (Node i ∷ past) (look name space s d past) (λ x. x) (looked space s d past a)

  -- ---- uses

  told_first : (b : Bool) (r : Role) (f : Found) (x : Told) → told_if b r (Some f) ≡ Some x → f.first ≡ x.first
  told_first b r f x e =
      let same : record { first = f.first; declares = b; space = space_number (space_of r) } ≡ x = cc in
      ap (λ (y : Told). y.first) same

  told_declares : (r : Role) (o : Option Found) (x : Told) → told_if true r o ≡ Some x → x.declares ≡ true
  told_declares r None x e = let never : None ≡ Some x = e in absurd cc
  told_declares r (Some f) x e =
      let same : record { first = f.first; declares = true; space = space_number (space_of r) } ≡ x = cc in
      sym (ap (λ (y : Told). y.declares) same)

  told_bound : (b : Bool) (r : Role) (past : List Event) (o : Option Found) (x : Told) → IfSight Ordinary zero past o → told_if b r o ≡ Some x → x.first ≡ tok → is_bound tok (stack_of name past) ≡ true
  told_bound b r past None x h e is = let never : None ≡ Some x = e in absurd cc
  told_bound b r past (Some f) x h e is = h.bound (told_first b r f x e ∙ is)

  told_tag : (b : Bool) (r : Role) (past : List Event) (o : Option Found) (x : Told) → IfSight Tag zero past o → told_if b r o ≡ Some x → x.first ≡ tok → ⊥
  told_tag b r past None x h e is = let never : None ≡ Some x = e in absurd cc
  told_tag b r past (Some f) x h e is = not_tag f.role (h.plain (told_first b r f x e ∙ is)) h.stands

  at_use : (past : List Event) (t : ℕ) (r : Role) → IsAlone tok (Name t r ∷ past) → (x : Told) → told_of name past t r ≡ Some x → x.first ≡ tok → (x.declares ≡ true → ⊥)
      → (is_used r ≡ true) × (is_bound tok (stack_of name past) ≡ true)
  at_use past t role.Used a x e is none = (refl, told_bound false role.Used past (look name Ordinary (name t) zero past).seen x (looked Ordinary (name t) zero past a.1).seen e is)
  at_use past t role.Mentioned a x e is none =
      absurd (told_tag (declares name past t role.Mentioned) role.Mentioned (Name t role.Mentioned ∷ past) (look name Tag (name t) zero (Name t role.Mentioned ∷ past)).seen x
      (looked Tag (name t) zero (Name t role.Mentioned ∷ past) a).seen e is)
  at_use past t r a x e is none = absurd (none (told_declares r (look name (space_of r) (name t) zero (Name t r ∷ past)).seen x e))

  used_seen : (site : ℕ) (past : List Event) → (site ≡ tok → ⊥) → IsAlone tok past → AreRight name past → (x : Told) → told name site past ≡ Some x → x.first ≡ tok → IsSeen name tok site past
  used_seen site [] other a w x e is = let never : None ≡ Some x = e in absurd cc
  used_seen site (Name t r ∷ past) other a w x e is =
      by (site == t) refl e (λ d. other (none_other name tok site (Name t r ∷ past) a w x e d is)) (λ f. used_seen site past other a.1 w.1 x f is)
    where
      by : (b : Bool) → (site == t) ≡ b → (if b then told_of name past t r else told name site past) ≡ Some x → (x.declares ≡ true → ⊥) → (told name site past ≡ Some x → IsSeen name tok site past)
          → IsSeen name tok site (Name t r ∷ past)
      by true q e none rest = let h = at_use past t r a x e is none in inl ((h.0, sym (eqb-true site t q)), h.1)
      by false q e none rest = inr (rest e)
  used_seen site (Opens ∷ past) other a w x e is = used_seen site past other a w x e is
  used_seen site (Closes ∷ past) other a w x e is = used_seen site past other a w x e is
  used_seen site (Member t k ∷ past) other a w x e is = used_seen site past other a w x e is
  used_seen site (Node i ∷ past) other a w x e is = used_seen site past other a w x e is

-- ---- the token that an entity begins with

-- it stands for the entity
pub record IsDeclarer (at : ℕ → Option Told) (k t : ℕ) : Type 0 where
  pub own : Told
  pub is : at t ≡ Some own
  pub declares : own.declares ≡ true
  pub number : is_number (number_of at (at t)) k ≡ true

pub behind : (ts : List ℕ) (m t : ℕ) → first_in (ts ++ m ∷ []) ≡ Some t → (first_in ts ≡ Some t) ⊎ (m ≡ t)
behind [] m t e = inr (same_Some m t e)
behind (u ∷ ts) m t e = inl e

abbrev pub declared_by : Entity → List ℕ
declared_by e = e.declared

pub first_declares : (at : ℕ → Option Told) (m k t : ℕ) → first_in (entity_of at m k).declared ≡ Some t → IsDeclarer at k t
first_declares at zero k t e = let never : None ≡ Some t = e in absurd cc
first_declares at (suc m) k t e = by (is_number (number_of at (at m)) k) refl (at m) refl e (λ f. first_declares at m k t f)
  where
    added : (x : Told) → at m ≡ Some x → x.declares ≡ true → is_number (number_of at (at m)) k ≡ true → (first_in (entity_of at m k).declared ≡ Some t) ⊎ (m ≡ t)
        → (first_in (entity_of at m k).declared ≡ Some t → IsDeclarer at k t) → IsDeclarer at k t
    added x p d q (inl f) rest = rest f
    added x p d q (inr same) rest = subst (IsDeclarer at k) same (record { own = x; is = p; declares = d; number = q })

    with_it : (x : Told) → at m ≡ Some x → is_number (number_of at (at m)) k ≡ true → (c : Bool) → x.declares ≡ c
        → first_in (declared_by (if c then record { declared = (entity_of at m k).declared ++ m ∷ []; uses = (entity_of at m k).uses; space = x.space }
        else record { declared = (entity_of at m k).declared; uses = (entity_of at m k).uses ++ m ∷ []; space = x.space })) ≡ Some t
        → (first_in (entity_of at m k).declared ≡ Some t → IsDeclarer at k t) → IsDeclarer at k t
    with_it x p q true d e rest = added x p d q (behind (entity_of at m k).declared m t e) rest
    with_it x p q false d e rest = rest e

    by : (b : Bool) → is_number (number_of at (at m)) k ≡ b → (o : Option Told) → at m ≡ o → first_in (declared_by (if b then with_token m o (entity_of at m k) else entity_of at m k)) ≡ Some t
        → (first_in (entity_of at m k).declared ≡ Some t → IsDeclarer at k t) → IsDeclarer at k t
    by false q o p e rest = rest e
    by true q None p e rest = rest e
    by true q (Some x) p e rest = with_it x p q x.declares refl e rest

-- ---- the law

pub seen_is : Laws.AloneIsSeen
seen_is name events tokens names token site resolved low other alone h = by (entity_at names site) refl h
  where
    at : ℕ → Option Told
    at = told_below name events tokens

    right : AreRight name (past_of events (length events))
    right = all_right name events resolved.right (length events)

    by : (o : Option ℕ) → entity_at names site ≡ o → first_of names o ≡ Some token → IsSeen name token site (past_of events (length events))
    by None q h = absurd cc
    by (Some k) q h =
        let there = within_is (length names.entities) (slice_index_or names.of_token site None) k q in
        let is = number_is at (at site) k (sym (resolved.names.of_token site low) ∙ there.0) in
        let few : k < length names.entities = ltb-true k (length names.entities) there.1 in
        let entity : slice_get names.entities k ≡ Some (entity_of at tokens k) = resolved.names.entities k (let c = resolved.names.count in omega (arith, few, c)) in
        let own = first_declares at tokens k token (ap first_if (sym entity) ∙ h) in
        let number = number_is at (at token) k (number_same (number_of at (at token)) k own.number) in
        let one : number.0 ≡ own.own = same_Some number.0 own.own (sym number.1.0 ∙ own.is) in
        let told_own = token_told name token (past_of events (length events)) alone right own.own (told_there name events tokens token own.own own.is) in
        let first : number.0.first ≡ token = ap (λ (y : Told). y.first) one ∙ told_own.1 in
        let begins_own : begins (at token) token ≡ true = subst (λ f. begins (at f) f ≡ true) first number.1.1.0 in
        let count_own : count_of at token ≡ k = subst (λ f. count_of at f ≡ k) first number.1.1.1 in
        let same : is.0.first ≡ token = one_number at is.0.first token is.1.1.0 begins_own (is.1.1.1 ∙ sym count_own) in
        used_seen name token site (past_of events (length events)) other alone right is.0 (told_there name events tokens site is.0 is.1.0) same
