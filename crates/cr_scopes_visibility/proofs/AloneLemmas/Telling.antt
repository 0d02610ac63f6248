-- What an identifier without linkage stands for: itself; and no other declaration stands for it.
use Rattle.std.proofs.Common.{◌≡◌, ℕ, zero, suc, ◌-◌, ◌==◌, Bool, true, false, not, ◌&&◌, ◌||◌, List, [], ◌∷◌, Option, None, Some, slice_get, refl, sym, subst, ap, ◌∙◌, arith}
use Rattle.std.specs.Prelude.{if◌then◌else◌}
use Rattle.std.specs.Option.{is_some}
use Rattle.std.proofs.lemmas.Bool.{false≢true, both_ways, and_parts, eqb-true, eq-eqb, not-true}
use Rattle.cr_scopes_events.specs.declared.event.Role.{Role}
use Rattle.cr_scopes_events.specs.declared.event.Role.TheVariants as role
use Rattle.cr_scopes_events.specs.declared.event.Event.{Event}
use Rattle.cr_scopes_events.specs.declared.event.Event.TheVariants.{Node, Opens, Closes, Name, Member}
use Rattle.cr_scopes.specs.declared.fault.NameFault.{NameFault}
use Rattle.cr_scopes.specs.declared.told.Told.{Told}
use Rattle.cr_scopes.specs.declared.scope.Space.{Space}
use Rattle.cr_scopes.specs.declared.scope.Space.TheVariants.{Ordinary, Tag}
use Rattle.cr_scopes.specs.declared.scope.Found.{Found}
use Rattle.cr_scopes.specs.declared.scope.Look.{Look}
use Rattle.cr_scopes.specs.Looking.{or_else, or_given, depth, is_outermost, links, is_linked, linked, stands_in, is_mention, begun, noted, noted_if, look}
use Rattle.cr_scopes.specs.Faults.{is_typedef, clashes, is_wrong, fault_by, fault_where}
use Rattle.cr_scopes.specs.Resolved.{space_of, space_number, told_if, told_of, told, with_event, past_of, fault_if, fault_at}
use Rattle.cr_scopes_visibility.specs.Alone.Alone.{is_plain, stands_alone, IsAlone}

-- ---- no fault

abbrev pub AreRight : (ℕ → ℕ) → List Event → Type 0
AreRight name [] = Unit {0}
AreRight name (Name t r ∷ past) = (is_wrong name past t r ≡ false) × AreRight name past
AreRight name (Opens ∷ past) = AreRight name past
AreRight name (Closes ∷ past) = AreRight name past
AreRight name (Member t k ∷ past) = AreRight name past
AreRight name (Node i ∷ past) = AreRight name past

no_fault : (b : Bool) (fault : NameFault) → fault_where b fault ≡ None → b ≡ false
no_fault true fault e = absurd cc
no_fault false fault e = refl

right_with : (name : ℕ → ℕ) (past : List Event) (o : Option Event) → fault_if name past o ≡ None → AreRight name past → AreRight name (with_event o past)
right_with name past None e h = h
right_with name past (Some (Name t r)) e h = (no_fault (is_wrong name past t r) (fault_by r t) e, h)
right_with name past (Some Opens) e h = h
right_with name past (Some Closes) e h = h
right_with name past (Some (Member t k)) e h = h
right_with name past (Some (Node i)) e h = h

pub all_right : (name : ℕ → ℕ) (events : List Event) → ((k : ℕ) → fault_at name events k ≡ None) → (k : ℕ) → AreRight name (past_of events k)
all_right name events f zero = tt
all_right name events f (suc k) = right_with name (past_of events k) (slice_get events k) (f k) (all_right name events f k)

-- ---- roles

-- what is plain is no type and no tag, and is told as an ordinary identifier
not_type : (r : Role) → is_plain r ≡ true → is_typedef r ≡ false
not_type role.Typedef h = absurd (false≢true h)
not_type r h = refl

pub not_tag : (r : Role) → is_plain r ≡ true → stands_in Tag r ≡ true → ⊥
not_tag role.Content h g = absurd (false≢true h)
not_tag role.Alone h g = absurd (false≢true h)
not_tag role.Mentioned h g = absurd (false≢true h)
not_tag r h g = absurd (false≢true g)

pub alone_plain : (outermost : Bool) (r : Role) → stands_alone outermost r ≡ true → is_plain r ≡ true
alone_plain outermost r h = (and_parts (is_plain r) (not (links outermost r)) h).0

alone_links : (outermost : Bool) (r : Role) → stands_alone outermost r ≡ true → links outermost r ≡ false
alone_links outermost r h = not-true (links outermost r) (and_parts (is_plain r) (not (links outermost r)) h).1

-- two declarations that may stand side by side both have linkage, or are both types
no_clash : (a b c d : Bool) → not ((a && b) || (c && d)) ≡ false → (a && b ≡ false) → (c && d ≡ false) → ⊥
no_clash a b c d h e f = false≢true (sym h ∙ (λ j. not (e j || f j)))

and_false : (a b : Bool) → b ≡ false → (a && b) ≡ false
and_false true b e = e
and_false false b e = refl

false_and : (a b : Bool) → a ≡ false → (a && b) ≡ false
false_and a b e = ap (λ x. x && b) e

module _ (name : ℕ → ℕ) (tok : ℕ) where
  -- ---- what is linked isn't the token

  if_linked : (past : List Event) (t s : ℕ) (r : Role) → (t ≡ tok → stands_alone (is_outermost past) r ≡ true) → (b : Bool) → is_linked name s past t r ≡ b → (if b then Some t else None) ≡ Some tok → ⊥
  if_linked past t s r alone true q e =
      let same : t ≡ tok = cc in
      both_ways (links (is_outermost past) r) (alone_links (is_outermost past) r (alone same)) (and_parts (name t == s) (links (is_outermost past) r) q).1
  if_linked past t s r alone false q e = let never : None ≡ Some tok = e in cc

  linked_by : (o : Option ℕ) (past : List Event) (t s : ℕ) (r : Role) → (t ≡ tok → stands_alone (is_outermost past) r ≡ true) → (o ≡ Some tok → ⊥)
      → or_else o (if is_linked name s past t r then Some t else None) ≡ Some tok → ⊥
  linked_by None past t s r alone f e = if_linked past t s r alone (is_linked name s past t r) refl e
  linked_by (Some x) past t s r alone f e = f e

  linked_not : (s : ℕ) (past : List Event) → IsAlone tok past → linked name s past ≡ Some tok → ⊥
  linked_not s [] a e = cc
  linked_not s (Name t r ∷ past) a e = linked_by (linked name s past) past t s r a.0 (λ x. linked_not s past a.1 x) e
  linked_not s (Opens ∷ past) a e = linked_not s past a e
  linked_not s (Closes ∷ past) a e = linked_not s past a e
  linked_not s (Member t k ∷ past) a e = linked_not s past a e
  linked_not s (Node i ∷ past) a e = linked_not s past a e

  -- what begins with the token is told there
  pub begun_first : (past : List Event) (t : ℕ) (r : Role) → IsAlone tok past → (begun name past t r).first ≡ tok → t ≡ tok
  begun_first past t r a e = by (links (is_outermost past) r) (linked name (name t) past) refl e
    where
      by : (b : Bool) (o : Option ℕ) → linked name (name t) past ≡ o → (if b then or_given o t else t) ≡ tok → t ≡ tok
      by false o q e = e
      by true None q e = e
      by true (Some x) q e = absurd (linked_not (name t) past a (q ∙ ap Some e))

  -- ---- what is found in the innermost scope

  record IsHere (space : Space) (outermost : Bool) (f : Found) : Type 0 where
    alone : f.first ≡ tok → stands_alone outermost f.role ≡ true
    stands : stands_in space f.role ≡ true

  abbrev IfHere : Space → Bool → Option Found → Type 0
  IfHere space outermost None = Unit {0}
  IfHere space outermost (Some f) = IsHere space outermost f

  or_here : (space : Space) (outermost : Bool) (o : Option Found) (f : Found) → IfHere space outermost o → IsHere space outermost f → IfHere space outermost (or_else o (Some f))
  or_here space outermost None f h g = g
  or_here space outermost (Some x) f h g = h

  noted_here : (space : Space) (outermost : Bool) (l : Look) (f : Found) → IfHere space outermost l.here → IsHere space outermost f → IfHere space outermost (noted f l).here
  noted_here space outermost l f h g = by (is_mention f.role && is_some l.seen)
    where
      by : (b : Bool) → IfHere space outermost (if b then l else record { here = or_else l.here (Some f); seen = or_else l.here (Some f) }).here
      by true = h
      by false = or_here space outermost l.here f h g

  noted_if_here : (space : Space) (outermost : Bool) (b : Bool) (l : Look) (f : Found) → IfHere space outermost l.here → (b ≡ true → IsHere space outermost f) → IfHere space outermost (noted_if b f l).here
  noted_if_here space outermost true l f h g = noted_here space outermost l f h (g refl)
  noted_if_here space outermost false l f h g = h

  looked : (space : Space) (s d : ℕ) (past : List Event) → IsAlone tok past → IfHere space ((depth past - d) == 0) (look name space s d past).here
  looked space s d [] a = tt
  looked space s d (Closes ∷ past) a =
      let e : depth past - suc d ≡ (depth past - 1) - d = omega arith in
      subst (λ n. IfHere space (n == 0) (look name space s (suc d) past).here) e (looked space s (suc d) past a)
  looked space s zero (Opens ∷ past) a = tt
  looked space s (suc d) (Opens ∷ past) a =
      let e : depth past - d ≡ suc (depth past) - suc d = omega arith in
      subst (λ n. IfHere space (n == 0) (look name space s d past).here) e (looked space s d past a)
  looked space s zero (Name t r ∷ past) a =
      let e : depth past - 0 ≡ depth past = omega arith in
      noted_if_here space ((depth past - 0) == 0) (stands_in space r && (name t == s)) (look name space s zero past) (begun name past t r) (looked space s zero past a.1)
      (λ q. record {
        alone = λ first. subst (λ n. stands_alone (n == 0) r ≡ true) (sym e) (a.0 (begun_first past t r a.1 first));
        stands = (and_parts (stands_in space r) (name t == s) q).0;
      })
  looked space s (suc d) (Name t r ∷ past) a = looked space s (suc d) past a.1
  looked space s d (Member t k ∷ past) a = looked space s d past a
  looked space s d (Node i ∷ past) a = looked space s d past a

  innermost : (space : Space) (s : ℕ) (past : List Event) → IsAlone tok past → IfHere space (is_outermost past) (look name space s zero past).here
  innermost space s past a = let e : depth past - 0 ≡ depth past = omega arith in subst (λ n. IfHere space (n == 0) (look name space s zero past).here) e (looked space s zero past a)

  -- what a declaration finds directly behind itself
  seen_is : (space : Space) (past : List Event) (t : ℕ) (r : Role) → stands_in space r ≡ true → (is_mention r && is_some (look name space (name t) zero past).seen) ≡ false
      → (look name space (name t) zero (Name t r ∷ past)).seen ≡ or_else (look name space (name t) zero past).here (Some (begun name past t r))
  seen_is space past t r stands mention =
      let l = look name space (name t) zero past in
      let f = begun name past t r in
      let told : (stands_in space r && (name t == name t)) ≡ true = (λ j. stands j && eq-eqb (name t) (name t) refl j) in
      ap (λ b. (noted_if b f l).seen) told ∙ ap (λ b. (if b then l else record { here = or_else l.here (Some f); seen = or_else l.here (Some f) }).seen) mention

  -- ---- the token itself

  -- nothing of its name was declared in the scope
  own_first : (past : List Event) (t : ℕ) (r : Role) → IsAlone tok past → stands_alone (is_outermost past) r ≡ true → t ≡ tok → clashes (is_outermost past) (look name Ordinary (name t) zero past).here r ≡ false
      → (x : Told) → told_if true r (or_else (look name Ordinary (name t) zero past).here (Some (begun name past t r))) ≡ Some x → (x.declares ≡ true) × (x.first ≡ tok)
  own_first past t r a alone same right x e = by (look name Ordinary (name t) zero past).here right e
    where
      first : (begun name past t r).first ≡ t
      first = ap (λ b. if b then or_given (linked name (name t) past) t else t) (alone_links (is_outermost past) r alone)

      by : (o : Option Found) → clashes (is_outermost past) o r ≡ false → told_if true r (or_else o (Some (begun name past t r))) ≡ Some x → (x.declares ≡ true) × (x.first ≡ tok)
      by None right e =
          let is : record { first = (begun name past t r).first; declares = true; space = space_number (space_of r) } ≡ x = cc in
          (sym (ap (λ (y : Told). y.declares) is), sym (ap (λ (y : Told). y.first) is) ∙ first ∙ same)
      by (Some f) right e = absurd (no_clash (links (is_outermost past) f.role) (links (is_outermost past) r) (is_typedef f.role) (is_typedef r) right
          (and_false (links (is_outermost past) f.role) (links (is_outermost past) r) (alone_links (is_outermost past) r alone))
          (and_false (is_typedef f.role) (is_typedef r) (not_type r (alone_plain (is_outermost past) r alone))))

  own_told : (past : List Event) (t : ℕ) (r : Role) → IsAlone tok past → stands_alone (is_outermost past) r ≡ true → t ≡ tok → is_wrong name past t r ≡ false
      → (x : Told) → told_of name past t r ≡ Some x → (x.declares ≡ true) × (x.first ≡ tok)
  own_told past t role.Object a alone same right x e = own_first past t role.Object a alone same right x (sym (ap (told_if true role.Object) (seen_is Ordinary past t role.Object refl refl)) ∙ e)
  own_told past t role.Parameter a alone same right x e = own_first past t role.Parameter a alone same right x (sym (ap (told_if true role.Parameter) (seen_is Ordinary past t role.Parameter refl refl)) ∙ e)
  own_told past t role.Enumerator a alone same right x e = own_first past t role.Enumerator a alone same right x (sym (ap (told_if true role.Enumerator) (seen_is Ordinary past t role.Enumerator refl refl)) ∙ e)
  own_told past t r a alone same right x e = absurd (false≢true alone)

  pub token_told : (past : List Event) → IsAlone tok past → AreRight name past → (x : Told) → told name tok past ≡ Some x → (x.declares ≡ true) × (x.first ≡ tok)
  token_told [] a w x e = absurd cc
  token_told (Name t r ∷ past) a w x e = by (tok == t) refl e (λ f. token_told past a.1 w.1 x f)
    where
      by : (b : Bool) → (tok == t) ≡ b → (if b then told_of name past t r else told name tok past) ≡ Some x → (told name tok past ≡ Some x → (x.declares ≡ true) × (x.first ≡ tok))
          → (x.declares ≡ true) × (x.first ≡ tok)
      by true q e rest = let same = sym (eqb-true tok t q) in own_told past t r a.1 (a.0 same) same w.0 x e
      by false q e rest = rest e
  token_told (Opens ∷ past) a w x e = token_told past a w x e
  token_told (Closes ∷ past) a w x e = token_told past a w x e
  token_told (Member t k ∷ past) a w x e = token_told past a w x e
  token_told (Node i ∷ past) a w x e = token_told past a w x e

  -- ---- other declarations

  -- a declaration that stands for the token is the token
  found_first : (space : Space) (past : List Event) (t : ℕ) (r : Role) → IsAlone tok past → ((f : Found) → IsHere space (is_outermost past) f → f.first ≡ tok → (look name space (name t) zero past).here ≡ Some f → ⊥)
      → (x : Told) → told_if true r (or_else (look name space (name t) zero past).here (Some (begun name past t r))) ≡ Some x → x.first ≡ tok → t ≡ tok
  found_first space past t r a none x e is = by (look name space (name t) zero past).here refl (innermost space (name t) past a) e
    where
      by : (o : Option Found) → (look name space (name t) zero past).here ≡ o → IfHere space (is_outermost past) o → told_if true r (or_else o (Some (begun name past t r))) ≡ Some x → t ≡ tok
      by None q h e =
          let same : record { first = (begun name past t r).first; declares = true; space = space_number (space_of r) } ≡ x = cc in
          begun_first past t r a (ap (λ (y : Told). y.first) same ∙ is)
      by (Some f) q h e =
          let same : record { first = f.first; declares = true; space = space_number (space_of r) } ≡ x = cc in
          absurd (none f h (ap (λ (y : Told). y.first) same ∙ is) q)

  -- an ordinary one would clash with it
  ordinary_none : (past : List Event) (t : ℕ) (r : Role) → clashes (is_outermost past) (look name Ordinary (name t) zero past).here r ≡ false
      → (f : Found) → IsHere Ordinary (is_outermost past) f → f.first ≡ tok → (look name Ordinary (name t) zero past).here ≡ Some f → ⊥
  ordinary_none past t r right f h first q =
      let alone = h.alone first in
      no_clash (links (is_outermost past) f.role) (links (is_outermost past) r) (is_typedef f.role) (is_typedef r) (sym (ap (λ o. clashes (is_outermost past) o r) q) ∙ right)
      (false_and (links (is_outermost past) f.role) (links (is_outermost past) r) (alone_links (is_outermost past) f.role alone))
      (false_and (is_typedef f.role) (is_typedef r) (not_type f.role (alone_plain (is_outermost past) f.role alone)))

  -- and a tag is none
  tag_none : (past : List Event) (t : ℕ) (f : Found) → IsHere Tag (is_outermost past) f → f.first ≡ tok → (look name Tag (name t) zero past).here ≡ Some f → ⊥
  tag_none past t f h first q = not_tag f.role (alone_plain (is_outermost past) f.role (h.alone first)) h.stands

  ordinary : (past : List Event) (t : ℕ) (r : Role) → IsAlone tok past → stands_in Ordinary r ≡ true → is_mention r ≡ false → clashes (is_outermost past) (look name Ordinary (name t) zero past).here r ≡ false
      → (x : Told) → told_if true r (look name Ordinary (name t) zero (Name t r ∷ past)).seen ≡ Some x → x.first ≡ tok → t ≡ tok
  ordinary past t r a stands mention right x e is =
      found_first Ordinary past t r a (ordinary_none past t r right) x
      (sym (ap (told_if true r) (seen_is Ordinary past t r stands (false_and (is_mention r) (is_some (look name Ordinary (name t) zero past).seen) mention))) ∙ e) is

  tagged : (past : List Event) (t : ℕ) (r : Role) → IsAlone tok past → stands_in Tag r ≡ true → (is_mention r && is_some (look name Tag (name t) zero past).seen) ≡ false
      → (x : Told) → told_if true r (look name Tag (name t) zero (Name t r ∷ past)).seen ≡ Some x → x.first ≡ tok → t ≡ tok
  tagged past t r a stands mention x e is = found_first Tag past t r a (tag_none past t) x (sym (ap (told_if true r) (seen_is Tag past t r stands mention)) ∙ e) is

  -- what declares nothing
  declares_not : (r : Role) (o : Option Found) (x : Told) → told_if false r o ≡ Some x → x.declares ≡ true → ⊥
  declares_not r None x e d = let never : None ≡ Some x = e in cc
  declares_not r (Some f) x e d =
      let same : record { first = f.first; declares = false; space = space_number (space_of r) } ≡ x = cc in
      false≢true (ap (λ (y : Told). y.declares) same ∙ d)

  other_told : (past : List Event) (t : ℕ) (r : Role) → IsAlone tok past → is_wrong name past t r ≡ false → (x : Told) → told_of name past t r ≡ Some x → x.declares ≡ true → x.first ≡ tok → t ≡ tok
  other_told past t role.Used a w x e d is = absurd (declares_not role.Used _ x e d)
  other_told past t role.Content a w x e d is = tagged past t role.Content a refl refl x e is
  other_told past t role.Alone a w x e d is = tagged past t role.Alone a refl refl x e is
  other_told past t role.Mentioned a w x e d is = by (is_some (look name Tag (name t) zero past).seen) refl e
    where
      by : (b : Bool) → is_some (look name Tag (name t) zero past).seen ≡ b → told_if (not b) role.Mentioned (look name Tag (name t) zero (Name t role.Mentioned ∷ past)).seen ≡ Some x → t ≡ tok
      by true q e = absurd (declares_not role.Mentioned _ x e d)
      by false q e = tagged past t role.Mentioned a refl q x e is
  other_told past t role.Object a w x e d is = ordinary past t role.Object a refl refl w x e is
  other_told past t role.ExternObject a w x e d is = ordinary past t role.ExternObject a refl refl w x e is
  other_told past t role.Function a w x e d is = ordinary past t role.Function a refl refl w x e is
  other_told past t role.Typedef a w x e d is = ordinary past t role.Typedef a refl refl w x e is
  other_told past t role.Parameter a w x e d is = ordinary past t role.Parameter a refl refl w x e is
  other_told past t role.Enumerator a w x e d is = ordinary past t role.Enumerator a refl refl w x e is

  pub none_other : (u : ℕ) (past : List Event) → IsAlone tok past → AreRight name past → (x : Told) → told name u past ≡ Some x → x.declares ≡ true → x.first ≡ tok → u ≡ tok
  none_other u [] a w x e d is = absurd cc
  none_other u (Name t r ∷ past) a w x e d is = by (u == t) refl e (λ f. none_other u past a.1 w.1 x f d is)
    where
      by : (b : Bool) → (u == t) ≡ b → (if b then told_of name past t r else told name u past) ≡ Some x → (told name u past ≡ Some x → u ≡ tok) → u ≡ tok
      by true q e rest = eqb-true u t q ∙ other_told past t r a.1 w.0 x e d is
      by false q e rest = rest e
  none_other u (Opens ∷ past) a w x e d is = none_other u past a w x e d is
  none_other u (Closes ∷ past) a w x e d is = none_other u past a w x e d is
  none_other u (Member t k ∷ past) a w x e d is = none_other u past a w x e d is
  none_other u (Node i ∷ past) a w x e d is = none_other u past a w x e d is
