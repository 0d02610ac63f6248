-- What a declaration stands for: a token that is told as it is, by an event of its own.
use Rattle.std.proofs.Common.{◌≡◌, ℕ, zero, suc, ◌==◌, Bool, true, false, not, ◌&&◌, ◌||◌, List, [], ◌∷◌, Option, None, Some, ◌⊎◌, inl, inr, refl, sym, subst, ap, ◌∙◌}
use Rattle.std.specs.Prelude.{if◌then◌else◌}
use Rattle.std.specs.Option.{is_some}
use Rattle.std.proofs.lemmas.Bool.{false≢true, and_parts, eqb-true, eq-eqb}
use Rattle.cr_scopes_events.specs.declared.event.Role.{Role}
use Rattle.cr_scopes_events.specs.declared.event.Role.TheVariants as role
use Rattle.cr_scopes_events.specs.declared.event.Event.{Event}
use Rattle.cr_scopes_events.specs.declared.event.Event.TheVariants.{Node, Opens, Closes, Name, Member}
use Rattle.cr_scopes.specs.declared.told.Told.{Told}
use Rattle.cr_scopes.specs.declared.scope.Space.{Space}
use Rattle.cr_scopes.specs.declared.scope.Space.TheVariants.{Ordinary, Tag}
use Rattle.cr_scopes.specs.declared.scope.Found.{Found}
use Rattle.cr_scopes.specs.declared.scope.Look.{Look}
use Rattle.cr_scopes.specs.Looking.{or_else, or_given, is_outermost, links, is_linked, linked, stands_in, is_mention, begun, noted_if, look}
use Rattle.cr_scopes.specs.Faults.{is_typedef, clashes, is_wrong}
use Rattle.cr_scopes.specs.Resolved.{space_of, space_number, told_if, told_of, told}
use Rattle.cr_scopes_visibility.proofs.AloneLemmas.Telling.{AreRight}
use Rattle.cr_scopes_linkage.specs.Shared.Sorts.{is_value, is_tag, Never}

-- some event tells the token so
abbrev pub Once : (Role → Bool) → ℕ → List Event → Type 0
Once test token [] = ⊥
Once test token (Name t r ∷ past) = ((t ≡ token) × (test r ≡ true)) ⊎ Once test token past
Once test token (Opens ∷ past) = Once test token past
Once test token (Closes ∷ past) = Once test token past
Once test token (Member t k ∷ past) = Once test token past
Once test token (Node i ∷ past) = Once test token past

pub never_once : (test : Role → Bool) (token : ℕ) (past : List Event) → Never test token past → Once test token past → ⊥
never_once test token [] h g = g
never_once test token (Name t r ∷ past) h (inl x) = false≢true (sym (h.0 x.0) ∙ x.1)
never_once test token (Name t r ∷ past) h (inr x) = never_once test token past h.1 x
never_once test token (Opens ∷ past) h g = never_once test token past h g
never_once test token (Closes ∷ past) h g = never_once test token past h g
never_once test token (Member t k ∷ past) h g = never_once test token past h g
never_once test token (Node i ∷ past) h g = never_once test token past h g

-- ---- roles

pub links_value : (outermost : Bool) (r : Role) → links outermost r ≡ true → is_value r ≡ true
links_value outermost role.Object h = refl
links_value outermost role.ExternObject h = refl
links_value outermost role.Function h = refl
links_value outermost r h = absurd (false≢true h)

no_value : (outermost : Bool) (r : Role) → is_value r ≡ false → links outermost r ≡ false
no_value outermost role.Object h = absurd (false≢true (sym h))
no_value outermost role.ExternObject h = absurd (false≢true (sym h))
no_value outermost role.Function h = absurd (false≢true (sym h))
no_value outermost r h = refl

type_no_value : (r : Role) → is_typedef r ≡ true → is_value r ≡ false
type_no_value role.Typedef h = refl
type_no_value r h = absurd (false≢true h)

value_no_type : (r : Role) → is_value r ≡ true → is_typedef r ≡ false
value_no_type role.Object h = refl
value_no_type role.ExternObject h = refl
value_no_type role.Function h = refl
value_no_type r h = absurd (false≢true h)

tag_stands : (r : Role) → stands_in Tag r ≡ true → is_tag r ≡ true
tag_stands role.Content h = refl
tag_stands role.Alone h = refl
tag_stands role.Mentioned h = refl
tag_stands r h = absurd (false≢true h)

pub tag_no_value : (r : Role) → is_tag r ≡ true → is_value r ≡ false
tag_no_value role.Content h = refl
tag_no_value role.Alone h = refl
tag_no_value role.Mentioned h = refl
tag_no_value r h = absurd (false≢true h)

-- two declarations side by side both have linkage, or are both types
side_by_side : (a b c d : Bool) → not ((a && b) || (c && d)) ≡ false → ((a ≡ true) × (b ≡ true)) ⊎ ((c ≡ true) × (d ≡ true))
side_by_side true true c d h = inl (refl, refl)
side_by_side true false true true h = inr (refl, refl)
side_by_side true false true false h = absurd (false≢true (sym h))
side_by_side true false false d h = absurd (false≢true (sym h))
side_by_side false b true true h = inr (refl, refl)
side_by_side false b true false h = absurd (false≢true (sym h))
side_by_side false b false d h = absurd (false≢true (sym h))

module _ (name : ℕ → ℕ) where
  -- ---- what is linked is told as a value

  linked_once : (s : ℕ) (past : List Event) (x : ℕ) → linked name s past ≡ Some x → Once is_value x past
  linked_once s [] x e = absurd cc
  linked_once s (Name t r ∷ past) x e = by (linked name s past) refl e (λ f. linked_once s past x f)
    where
      if_is : (b : Bool) → is_linked name s past t r ≡ b → (if b then Some t else None) ≡ Some x → Once is_value x (Name t r ∷ past)
      if_is true q e = let same : t ≡ x = cc in inl (same, links_value (is_outermost past) r (and_parts (name t == s) (links (is_outermost past) r) q).1)
      if_is false q e = let never : None ≡ Some x = e in absurd cc

      by : (o : Option ℕ) → linked name s past ≡ o → or_else o (if is_linked name s past t r then Some t else None) ≡ Some x → (linked name s past ≡ Some x → Once is_value x past) → Once is_value x (Name t r ∷ past)
      by None q e rest = if_is (is_linked name s past t r) refl e
      by (Some y) q e rest = inr (rest (q ∙ e))
  linked_once s (Opens ∷ past) x e = linked_once s past x e
  linked_once s (Closes ∷ past) x e = linked_once s past x e
  linked_once s (Member t k ∷ past) x e = linked_once s past x e
  linked_once s (Node i ∷ past) x e = linked_once s past x e

  -- ---- what is found is told so

  record IsSorted (space : Space) (past : List Event) (f : Found) : Type 0 where
    stands : stands_in space f.role ≡ true
    value : is_value f.role ≡ true → Once is_value f.first past
    types : is_typedef f.role ≡ true → Once is_typedef f.first past
    tags : is_tag f.role ≡ true → Once is_tag f.first past

  abbrev IfSorted : Space → List Event → Option Found → Type 0
  IfSorted space past None = Unit {0}
  IfSorted space past (Some f) = IsSorted space past f

  later : (space : Space) (past : List Event) (t : ℕ) (r : Role) (o : Option Found) → IfSorted space past o → IfSorted space (Name t r ∷ past) o
  later space past t r None h = tt
  later space past t r (Some f) h = record { stands = h.stands; value = λ q. inr (h.value q); types = λ q. inr (h.types q); tags = λ q. inr (h.tags q) }

  -- what begins no earlier is the token itself
  begun_own : (past : List Event) (t : ℕ) (r : Role) → links (is_outermost past) r ≡ false → (begun name past t r).first ≡ t
  begun_own past t r h = ap (λ b. if b then or_given (linked name (name t) past) t else t) h

  begun_value : (past : List Event) (t : ℕ) (r : Role) → is_value r ≡ true → Once is_value (begun name past t r).first (Name t r ∷ past)
  begun_value past t r h = by (links (is_outermost past) r) (linked name (name t) past) refl
    where
      by : (b : Bool) (o : Option ℕ) → linked name (name t) past ≡ o → Once is_value (if b then or_given o t else t) (Name t r ∷ past)
      by false o q = inl (refl, h)
      by true None q = inl (refl, h)
      by true (Some x) q = inr (linked_once (name t) past x q)

  begun_sorted : (space : Space) (past : List Event) (t : ℕ) (r : Role) → stands_in space r ≡ true → IsSorted space (Name t r ∷ past) (begun name past t r)
  begun_sorted space past t r stands = record {
    stands = stands;
    value = λ q. begun_value past t r q;
    types = λ q. inl (sym (begun_own past t r (no_value (is_outermost past) r (type_no_value r q))), q);
    tags = λ q. inl (sym (begun_own past t r (no_value (is_outermost past) r (tag_no_value r q))), q);
  }

  or_sorted : (space : Space) (past : List Event) (o : Option Found) (f : Found) → IfSorted space past o → IsSorted space past f → IfSorted space past (or_else o (Some f))
  or_sorted space past None f h g = g
  or_sorted space past (Some x) f h g = h

  noted_sorted : (space : Space) (past : List Event) (b : Bool) (l : Look) (f : Found) → IfSorted space past l.here → (b ≡ true → IsSorted space past f) → IfSorted space past (noted_if b f l).here
  noted_sorted space past false l f h g = h
  noted_sorted space past true l f h g = by (is_mention f.role && is_some l.seen)
    where
      by : (b : Bool) → IfSorted space past (if b then l else record { here = or_else l.here (Some f); seen = or_else l.here (Some f) }).here
      by true = h
      by false = or_sorted space past l.here f h (g refl)

  looked : (space : Space) (s d : ℕ) (past : List Event) → IfSorted space past (look name space s d past).here
  looked space s d [] = tt
  looked space s d (Closes ∷ past) = same (look name space s (suc d) past).here (looked space s (suc d) past)
    where
      same : (o : Option Found) → IfSorted space past o → IfSorted space (Closes ∷ past) o
      same None h = tt
      same (Some f) h = record { stands = h.stands; value = h.value; types = h.types; tags = h.tags }
  looked space s zero (Opens ∷ past) = tt
  looked space s (suc d) (Opens ∷ past) = same (look name space s d past).here (looked space s d past)
    where
      same : (o : Option Found) → IfSorted space past o → IfSorted space (Opens ∷ past) o
      same None h = tt
      same (Some f) h = record { stands = h.stands; value = h.value; types = h.types; tags = h.tags }
  looked space s zero (Name t r ∷ past) =
      noted_sorted space (Name t r ∷ past) (stands_in space r && (name t == s)) (look name space s zero past) (begun name past t r) (later space past t r (look name space s zero past).here (looked space s zero past))
      (λ q. begun_sorted space past t r (and_parts (stands_in space r) (name t == s) q).0)
  looked space s (suc d) (Name t r ∷ past) = later space past t r (look name space s (suc d) past).here (looked space s (suc d) past)
  looked space s d (Member t k ∷ past) = same (look name space s d past).here (looked space s d past)
    where
      same : (o : Option Found) → IfSorted space past o → IfSorted space (Member t k ∷ past) o
      same None h = tt
      same (Some f) h = record { stands = h.stands; value = h.value; types = h.types; tags = h.tags }
  looked space s d (Node i ∷ past) = same (look name space s d past).here (looked space s d past)
    where
      same : (o : Option Found) → IfSorted space past o → IfSorted space (Node i ∷ past) o
      same None h = tt
      same (Some f) h = record { stands = h.stands; value = h.value; types = h.types; tags = h.tags }

  -- what a declaration finds directly behind itself
  seen_is : (space : Space) (past : List Event) (t : ℕ) (r : Role) → stands_in space r ≡ true → (is_mention r && is_some (look name space (name t) zero past).seen) ≡ false
      → (look name space (name t) zero (Name t r ∷ past)).seen ≡ or_else (look name space (name t) zero past).here (Some (begun name past t r))
  seen_is space past t r stands mention =
      let l = look name space (name t) zero past in
      let f = begun name past t r in
      let told : (stands_in space r && (name t == name t)) ≡ true = (λ j. stands j && eq-eqb (name t) (name t) refl j) in
      ap (λ b. (noted_if b f l).seen) told ∙ ap (λ b. (if b then l else record { here = or_else l.here (Some f); seen = or_else l.here (Some f) }).seen) mention

  -- ---- how a token and the one that it stands for are told

  pub data Ways (t first : ℕ) (past : List Event) : Type 0 where
    values : Once is_value t past → Once is_value first past → Ways t first past
    types : Once is_typedef t past → Once is_typedef first past → Ways t first past
    tags : Once is_tag t past → Once is_tag first past → Ways t first past
    itself : first ≡ t → Ways t first past

  first_is : (r : Role) (f : Found) (x : Told) → told_if true r (Some f) ≡ Some x → f.first ≡ x.first
  first_is r f x e = let same : record { first = f.first; declares = true; space = space_number (space_of r) } ≡ x = cc in ap (λ (y : Told). y.first) same

  declares_not : (r : Role) (o : Option Found) (x : Told) → told_if false r o ≡ Some x → x.declares ≡ true → ⊥
  declares_not r None x e d = let never : None ≡ Some x = e in cc
  declares_not r (Some f) x e d =
      let same : record { first = f.first; declares = false; space = space_number (space_of r) } ≡ x = cc in
      false≢true (ap (λ (y : Told). y.declares) same ∙ d)

  -- an object or a function
  value_ways : (past : List Event) (t : ℕ) (r : Role) → is_value r ≡ true → (o : Option Found) → IfSorted Ordinary past o → clashes (is_outermost past) o r ≡ false
      → (x : Told) → told_if true r (or_else o (Some (begun name past t r))) ≡ Some x → Ways t x.first (Name t r ∷ past)
  value_ways past t r is None h w x e = values (inl (refl, is)) (subst (λ y. Once is_value y (Name t r ∷ past)) (first_is r (begun name past t r) x e) (begun_value past t r is))
  value_ways past t r is (Some f) h w x e =
      elim (side_by_side (links (is_outermost past) f.role) (links (is_outermost past) r) (is_typedef f.role) (is_typedef r) w) [
        | inl both ↦ values (inl (refl, is)) (subst (λ y. Once is_value y (Name t r ∷ past)) (first_is r f x e) (inr (h.value (links_value (is_outermost past) f.role both.0))))
        | inr both ↦ absurd (false≢true (sym (value_no_type r is) ∙ both.1))
      ]

  -- a type's name
  type_ways : (past : List Event) (t : ℕ) (r : Role) → is_typedef r ≡ true → (o : Option Found) → IfSorted Ordinary past o → clashes (is_outermost past) o r ≡ false
      → (x : Told) → told_if true r (or_else o (Some (begun name past t r))) ≡ Some x → Ways t x.first (Name t r ∷ past)
  type_ways past t r is None h w x e = itself (sym (first_is r (begun name past t r) x e) ∙ begun_own past t r (no_value (is_outermost past) r (type_no_value r is)))
  type_ways past t r is (Some f) h w x e =
      elim (side_by_side (links (is_outermost past) f.role) (links (is_outermost past) r) (is_typedef f.role) (is_typedef r) w) [
        | inl both ↦ absurd (false≢true (sym (no_value (is_outermost past) r (type_no_value r is)) ∙ both.1))
        | inr both ↦ types (inl (refl, is)) (subst (λ y. Once is_typedef y (Name t r ∷ past)) (first_is r f x e) (inr (h.types both.0)))
      ]

  -- a parameter or an enumerator
  own_ways : (past : List Event) (t : ℕ) (r : Role) → is_value r ≡ false → is_typedef r ≡ false → (o : Option Found) → clashes (is_outermost past) o r ≡ false
      → (x : Told) → told_if true r (or_else o (Some (begun name past t r))) ≡ Some x → Ways t x.first (Name t r ∷ past)
  own_ways past t r plain no_type None w x e = itself (sym (first_is r (begun name past t r) x e) ∙ begun_own past t r (no_value (is_outermost past) r plain))
  own_ways past t r plain no_type (Some f) w x e =
      elim (side_by_side (links (is_outermost past) f.role) (links (is_outermost past) r) (is_typedef f.role) (is_typedef r) w) [
        | inl both ↦ absurd (false≢true (sym (no_value (is_outermost past) r plain) ∙ both.1))
        | inr both ↦ absurd (false≢true (sym no_type ∙ both.1))
      ]

  -- a tag
  tag_ways : (past : List Event) (t : ℕ) (r : Role) → is_tag r ≡ true → (o : Option Found) → IfSorted Tag past o → (x : Told) → told_if true r (or_else o (Some (begun name past t r))) ≡ Some x → Ways t x.first (Name t r ∷ past)
  tag_ways past t r is None h x e = itself (sym (first_is r (begun name past t r) x e) ∙ begun_own past t r (no_value (is_outermost past) r (tag_no_value r is)))
  tag_ways past t r is (Some f) h x e = tags (inl (refl, is)) (subst (λ y. Once is_tag y (Name t r ∷ past)) (first_is r f x e) (inr (h.tags (tag_stands f.role h.stands))))

  by_role : (past : List Event) (t : ℕ) (r : Role) → is_wrong name past t r ≡ false → (x : Told) → told_of name past t r ≡ Some x → x.declares ≡ true → Ways t x.first (Name t r ∷ past)
  by_role past t role.Used w x e d = absurd (declares_not role.Used _ x e d)
  by_role past t role.Object w x e d = value_ways past t role.Object refl _ (looked Ordinary (name t) zero past) w x (sym (ap (told_if true role.Object) (seen_is Ordinary past t role.Object refl refl)) ∙ e)
  by_role past t role.ExternObject w x e d = value_ways past t role.ExternObject refl _ (looked Ordinary (name t) zero past) w x (sym (ap (told_if true role.ExternObject) (seen_is Ordinary past t role.ExternObject refl refl)) ∙ e)
  by_role past t role.Function w x e d = value_ways past t role.Function refl _ (looked Ordinary (name t) zero past) w x (sym (ap (told_if true role.Function) (seen_is Ordinary past t role.Function refl refl)) ∙ e)
  by_role past t role.Typedef w x e d = type_ways past t role.Typedef refl _ (looked Ordinary (name t) zero past) w x (sym (ap (told_if true role.Typedef) (seen_is Ordinary past t role.Typedef refl refl)) ∙ e)
  by_role past t role.Parameter w x e d = own_ways past t role.Parameter refl refl _ w x (sym (ap (told_if true role.Parameter) (seen_is Ordinary past t role.Parameter refl refl)) ∙ e)
  by_role past t role.Enumerator w x e d = own_ways past t role.Enumerator refl refl _ w x (sym (ap (told_if true role.Enumerator) (seen_is Ordinary past t role.Enumerator refl refl)) ∙ e)
  by_role past t role.Content w x e d = tag_ways past t role.Content refl _ (looked Tag (name t) zero past) x (sym (ap (told_if true role.Content) (seen_is Tag past t role.Content refl refl)) ∙ e)
  by_role past t role.Alone w x e d = tag_ways past t role.Alone refl _ (looked Tag (name t) zero past) x (sym (ap (told_if true role.Alone) (seen_is Tag past t role.Alone refl refl)) ∙ e)
  by_role past t role.Mentioned w x e d = by (is_some (look name Tag (name t) zero past).seen) refl e
    where
      by : (b : Bool) → is_some (look name Tag (name t) zero past).seen ≡ b → told_if (not b) role.Mentioned (look name Tag (name t) zero (Name t role.Mentioned ∷ past)).seen ≡ Some x → Ways t x.first (Name t role.Mentioned ∷ past)
      by true q e = absurd (declares_not role.Mentioned _ x e d)
      by false q e = tag_ways past t role.Mentioned refl _ (looked Tag (name t) zero past) x (sym (ap (told_if true role.Mentioned) (seen_is Tag past t role.Mentioned refl q)) ∙ e)

  grown : (t first u : ℕ) (r : Role) (past : List Event) → Ways t first past → Ways t first (Name u r ∷ past)
  grown t first u r past (values a b) = values (inr a) (inr b)
  grown t first u r past (types a b) = types (inr a) (inr b)
  grown t first u r past (tags a b) = tags (inr a) (inr b)
  grown t first u r past (itself e) = itself e

  -- so of what a token that declares is told as
  pub ways : (t : ℕ) (past : List Event) → AreRight name past → (x : Told) → told name t past ≡ Some x → x.declares ≡ true → Ways t x.first past
  ways t [] w x e d = absurd cc
  ways t (Name u r ∷ past) w x e d = by (t == u) refl e (λ f. ways t past w.1 x f d)
    where
      by : (b : Bool) → (t == u) ≡ b → (if b then told_of name past u r else told name t past) ≡ Some x → (told name t past ≡ Some x → Ways t x.first past) → Ways t x.first (Name u r ∷ past)
      by true q e rest = subst (λ v. Ways v x.first (Name u r ∷ past)) (sym (eqb-true t u q)) (by_role past u r w.0 x e d)
      by false q e rest = grown t x.first u r past (rest e)
  ways t (Opens ∷ past) w x e d = by (ways t past w x e d)
    where
      by : Ways t x.first past → Ways t x.first (Opens ∷ past)
      by (values a b) = values a b
      by (types a b) = types a b
      by (tags a b) = tags a b
      by (itself f) = itself f
  ways t (Closes ∷ past) w x e d = by (ways t past w x e d)
    where
      by : Ways t x.first past → Ways t x.first (Closes ∷ past)
      by (values a b) = values a b
      by (types a b) = types a b
      by (tags a b) = tags a b
      by (itself f) = itself f
  ways t (Member u k ∷ past) w x e d = by (ways t past w x e d)
    where
      by : Ways t x.first past → Ways t x.first (Member u k ∷ past)
      by (values a b) = values a b
      by (types a b) = types a b
      by (tags a b) = tags a b
      by (itself f) = itself f
  ways t (Node i ∷ past) w x e d = by (ways t past w x e d)
    where
      by : Ways t x.first past → Ways t x.first (Node i ∷ past)
      by (values a b) = values a b
      by (types a b) = types a b
      by (tags a b) = tags a b
      by (itself f) = itself f
