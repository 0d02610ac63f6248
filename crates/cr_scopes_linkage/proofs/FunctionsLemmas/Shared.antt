-- Tokens that are told as functions of one name declare one entity: what is linked first by the name. Each other one declares what is linked, or
-- its own.
use Rattle.std.proofs.Common.{◌≡◌, ℕ, zero, suc, ◌+◌, ◌-◌, ◌<◌, ◌==◌, Bool, true, false, not, ◌&&◌, ◌||◌, ◌⊎◌, List, [], ◌∷◌, ◌++◌, Option, None, Some, length, slice_get, inl, inr, refl, sym, subst, ap, ◌∙◌, arith}
use Rattle.std.specs.Prelude.{if◌then◌else◌}
use Rattle.std.specs.List.{list_any}
use Rattle.std.specs.Option.{is_some}
use Rattle.std.proofs.lemmas.Bool.{false≢true, and_parts, and_from, cases_lt, eqb-true, eq-eqb, lt-ltb, or_left, or_right}
use Rattle.std.proofs.lemmas.Option.{same_Some}
use Rattle.cr_scopes_events.specs.declared.event.Role.{Role}
use Rattle.cr_scopes_events.specs.declared.event.Role.TheVariants as role
use Rattle.cr_scopes_events.specs.declared.event.Event.{Event}
use Rattle.cr_scopes_events.specs.declared.event.Event.TheVariants.{Node, Opens, Closes, Name, Member}
use Rattle.cr_scopes.specs.declared.names.Entity.{Entity}
use Rattle.cr_scopes.specs.declared.names.Names.{Names}
use Rattle.cr_scopes.specs.declared.told.Told.{Told}
use Rattle.cr_scopes.specs.declared.scope.Space.TheVariants.{Ordinary}
use Rattle.cr_scopes.specs.declared.scope.Found.{Found}
use Rattle.cr_scopes.specs.declared.scope.Look.{Look}
use Rattle.cr_scopes.specs.Looking.{or_else, or_given, depth, is_outermost, links, is_linked, linked, stands_in, is_mention, begun, noted_if, look}
use Rattle.cr_scopes.specs.Faults.{is_typedef, clashes, is_wrong}
use Rattle.cr_scopes.specs.Resolved.{space_of, space_number, told_if, told_of, told, begins, count_of, number_of, with_token, is_number, entity_of, past_of, told_below, AreResolved}
use Rattle.cr_scopes_bindings.specs.Entities.{entity_within, entity_at, is_declared_by, declares, declared_entity}
use Rattle.cr_scopes_bindings.specs.Visible.{is_named}
use Rattle.cr_scopes_visibility.proofs.AloneLemmas.Telling.{AreRight, all_right}
use Rattle.cr_scopes_visibility.proofs.AloneLemmas.First.{one_if as one_more}
use Rattle.cr_scopes_linkage.specs.Shared.Sorts.{is_value, Never}
use Rattle.cr_scopes_linkage.specs.Functions.Functions.{is_no_function, is_other, IsFunction, AreValues}
use Rattle.cr_scopes_linkage.specs.Functions.Laws
use Rattle.cr_scopes_linkage.proofs.SharedLemmas.Looked.{links_value as linking_value}

-- ---- roles

only_function : (r : Role) → is_no_function r ≡ false → r ≡ role.Function
only_function role.Function h = refl
only_function r h = absurd (false≢true (sym h))

no_type : (r : Role) → is_other r ≡ false → is_typedef r ≡ false
no_type role.Typedef h = absurd (false≢true (sym h))
no_type r h = refl

-- two declarations side by side that are no types both have linkage
both_linked : (a b c d : Bool) → d ≡ false → not ((a && b) || (c && d)) ≡ false → (a ≡ true) × (b ≡ true)
both_linked true true c d e h = (refl, refl)
both_linked true false c true e h = absurd (false≢true (sym e))
both_linked true false true false e h = absurd (false≢true (sym h))
both_linked true false false false e h = absurd (false≢true (sym h))
both_linked false b c true e h = absurd (false≢true (sym e))
both_linked false b true false e h = absurd (false≢true (sym h))
both_linked false b false false e h = absurd (false≢true (sym h))

module _ (name : ℕ → ℕ) where
  -- ---- what is linked by a name

  linked_later : (s : ℕ) (past : List Event) (e : Event) (x : ℕ) → linked name s past ≡ Some x → linked name s (e ∷ past) ≡ Some x
  linked_later s past (Name t r) x h = ap (λ o. or_else o (if is_linked name s past t r then Some t else None)) h
  linked_later s past Opens x h = h
  linked_later s past Closes x h = h
  linked_later s past (Member t k) x h = h
  linked_later s past (Node i) x h = h

  or_first : (o : Option ℕ) (t : ℕ) → or_else o (Some t) ≡ Some (or_given o t)
  or_first None t = refl
  or_first (Some x) t = refl

  -- a declaration with linkage begins with it
  begun_linked : (past : List Event) (t : ℕ) (r : Role) → links (is_outermost past) r ≡ true → linked name (name t) (Name t r ∷ past) ≡ Some (begun name past t r).first
  begun_linked past t r h =
      let same : is_linked name (name t) past t r ≡ true = and_from (name t == name t) (links (is_outermost past) r) (eq-eqb (name t) (name t) refl) h in
      ap (λ b. or_else (linked name (name t) past) (if b then Some t else None)) same ∙ or_first (linked name (name t) past) t
      ∙ ap (λ b. Some (if b then or_given (linked name (name t) past) t else t)) (sym h)

  -- what is linked has the name, and is told as a value
  record IsBehind (s y : ℕ) (past : List Event) : Type 0 where
    same : name y ≡ s
    there : is_named y past ≡ true
    value : Never is_value y past → ⊥

  linked_told : (s y : ℕ) (past : List Event) → linked name s past ≡ Some y → IsBehind s y past
  linked_told s y [] e = absurd (cc e)
  linked_told s y (Name t r ∷ past) e = by (linked name s past) refl e (λ f. linked_told s y past f)
    where
      now : (b : Bool) → is_linked name s past t r ≡ b → (if b then Some t else None) ≡ Some y → IsBehind s y (Name t r ∷ past)
      now false q f = absurd (cc f)
      now true q f =
          let own : t ≡ y = cc f in
          let both = and_parts (name t == s) (links (is_outermost past) r) q in
          record {
            same = ap name (sym own) ∙ eqb-true (name t) s both.0;
            there = or_left (y == t) (is_named y past) (eq-eqb y t (sym own));
            value = λ never. false≢true (sym (never.0 own) ∙ linking_value (is_outermost past) r both.1);
          }

      by : (o : Option ℕ) → linked name s past ≡ o → or_else o (if is_linked name s past t r then Some t else None) ≡ Some y → (linked name s past ≡ Some y → IsBehind s y past) → IsBehind s y (Name t r ∷ past)
      by None q f rest = now (is_linked name s past t r) refl f
      by (Some x) q f rest =
          let h = rest (q ∙ f) in
          record { same = h.same; there = or_right (y == t) (is_named y past) h.there; value = λ never. h.value never.1 }
  linked_told s y (Opens ∷ past) e = let h = linked_told s y past e in record { same = h.same; there = h.there; value = h.value }
  linked_told s y (Closes ∷ past) e = let h = linked_told s y past e in record { same = h.same; there = h.there; value = h.value }
  linked_told s y (Member t k ∷ past) e = let h = linked_told s y past e in record { same = h.same; there = h.there; value = h.value }
  linked_told s y (Node i ∷ past) e = let h = linked_told s y past e in record { same = h.same; there = h.there; value = h.value }

  -- ---- what is found in the innermost scope, and has linkage there, is what is linked

  abbrev IfLinked : Bool → ℕ → List Event → Option Found → Type 0
  IfLinked outermost s past None = Unit {0}
  IfLinked outermost s past (Some f) = links outermost f.role ≡ true → linked name s past ≡ Some f.first

  later : (outermost : Bool) (s : ℕ) (past : List Event) (e : Event) (o : Option Found) → IfLinked outermost s past o → IfLinked outermost s (e ∷ past) o
  later outermost s past e None h = tt
  later outermost s past e (Some f) h = λ q. linked_later s past e f.first (h q)

  or_linked : (outermost : Bool) (s : ℕ) (past : List Event) (o : Option Found) (f : Found) → IfLinked outermost s past o → IfLinked outermost s past (Some f) → IfLinked outermost s past (or_else o (Some f))
  or_linked outermost s past None f h g = g
  or_linked outermost s past (Some x) f h g = h

  noted_linked : (outermost : Bool) (s : ℕ) (past : List Event) (b : Bool) (l : Look) (f : Found) → IfLinked outermost s past l.here → (b ≡ true → IfLinked outermost s past (Some f)) → IfLinked outermost s past (noted_if b f l).here
  noted_linked outermost s past false l f h g = h
  noted_linked outermost s past true l f h g = by (is_mention f.role && is_some l.seen)
    where
      by : (b : Bool) → IfLinked outermost s past (if b then l else record { here = or_else l.here (Some f); seen = or_else l.here (Some f) }).here
      by true = h
      by false = or_linked outermost s past l.here f h (g refl)

  looked : (s d : ℕ) (past : List Event) → IfLinked ((depth past - d) == 0) s past (look name Ordinary s d past).here
  looked s d [] = tt
  looked s d (Closes ∷ past) =
      let e : depth past - suc d ≡ (depth past - 1) - d = omega arith in
      subst (λ n. IfLinked (n == 0) s (Closes ∷ past) (look name Ordinary s (suc d) past).here) e (later ((depth past - suc d) == 0) s past Closes (look name Ordinary s (suc d) past).here (looked s (suc d) past))
  looked s zero (Opens ∷ past) = tt
  looked s (suc d) (Opens ∷ past) =
      let e : depth past - d ≡ suc (depth past) - suc d = omega arith in
      subst (λ n. IfLinked (n == 0) s (Opens ∷ past) (look name Ordinary s d past).here) e (later ((depth past - d) == 0) s past Opens (look name Ordinary s d past).here (looked s d past))
  looked s zero (Name t r ∷ past) =
      let e : depth past - 0 ≡ depth past = omega arith in
      noted_linked ((depth past - 0) == 0) s (Name t r ∷ past) (stands_in Ordinary r && (name t == s)) (look name Ordinary s zero past) (begun name past t r)
      (later ((depth past - 0) == 0) s past (Name t r) (look name Ordinary s zero past).here (looked s zero past))
      (λ q k.
      subst (λ x. linked name x (Name t r ∷ past) ≡ Some (begun name past t r).first) (eqb-true (name t) s (and_parts (stands_in Ordinary r) (name t == s) q).1)
      (begun_linked past t r (subst (λ n. links (n == 0) r ≡ true) e k)))
  looked s (suc d) (Name t r ∷ past) = later ((depth past - suc d) == 0) s past (Name t r) (look name Ordinary s (suc d) past).here (looked s (suc d) past)
  looked s d (Member t k ∷ past) = later ((depth past - d) == 0) s past (Member t k) (look name Ordinary s d past).here (looked s d past)
  looked s d (Node i ∷ past) = later ((depth past - d) == 0) s past (Node i) (look name Ordinary s d past).here (looked s d past)

  here_linked : (t : ℕ) (past : List Event) → IfLinked (is_outermost past) (name t) past (look name Ordinary (name t) zero past).here
  here_linked t past = let e : depth past - 0 ≡ depth past = omega arith in subst (λ n. IfLinked (n == 0) (name t) past (look name Ordinary (name t) zero past).here) e (looked (name t) zero past)

  -- ---- what an event of a token tells

  -- it declares, by what is linked where it has linkage, and else by itself
  record Stands (past : List Event) (t : ℕ) (r : Role) (o : Option Told) : Type 0 where
    own : Told
    is : o ≡ Some own
    declares_it : own.declares ≡ true
    with_linkage : links (is_outermost past) r ≡ true → linked name (name t) (Name t r ∷ past) ≡ Some own.first
    alone : links (is_outermost past) r ≡ false → own.first ≡ t

  stands_by : (past : List Event) (t : ℕ) (r : Role) → is_typedef r ≡ false → (o : Option Found) → IfLinked (is_outermost past) (name t) past o → clashes (is_outermost past) o r ≡ false
      → Stands past t r (told_if true r (or_else o (Some (begun name past t r))))
  stands_by past t r plain None h w = record {
    own = record { first = (begun name past t r).first; declares = true; space = space_number (space_of r) };
    is = refl;
    declares_it = refl;
    with_linkage = λ q. begun_linked past t r q;
    alone = λ q. ap (λ b. if b then or_given (linked name (name t) past) t else t) q;
  }
  stands_by past t r plain (Some f) h w =
      let both = both_linked (links (is_outermost past) f.role) (links (is_outermost past) r) (is_typedef f.role) (is_typedef r) plain w in
      record {
        own = record { first = f.first; declares = true; space = space_number (space_of r) };
        is = refl;
        declares_it = refl;
        with_linkage = λ q. linked_later (name t) past (Name t r) f.first (h both.0);
        alone = λ q. absurd (false≢true (sym q ∙ both.1));
      }

  stands : (past : List Event) (t : ℕ) (r : Role) → is_other r ≡ false → is_wrong name past t r ≡ false → Stands past t r (told_of name past t r)
  stands past t r plain w = by r plain w
    where
      found : Role → Look
      found r = noted_if (name t == name t) (begun name past t r) (look name Ordinary (name t) zero past)

      same : (name t == name t) ≡ true
      same = eq-eqb (name t) (name t) refl

      own : (r : Role) → is_other r ≡ false → clashes (is_outermost past) (look name Ordinary (name t) zero past).here r ≡ false
          → Stands past t r (told_if true r (or_else (look name Ordinary (name t) zero past).here (Some (begun name past t r))))
      own r plain w = stands_by past t r (no_type r plain) (look name Ordinary (name t) zero past).here (here_linked t past) w

      by : (r : Role) → is_other r ≡ false → is_wrong name past t r ≡ false → Stands past t r (told_of name past t r)
      by role.Object plain w = subst (λ b. Stands past t role.Object (told_if true role.Object (noted_if b (begun name past t role.Object) (look name Ordinary (name t) zero past)).seen)) (sym same) (own role.Object refl w)
      by role.ExternObject plain w =
          subst (λ b. Stands past t role.ExternObject (told_if true role.ExternObject (noted_if b (begun name past t role.ExternObject) (look name Ordinary (name t) zero past)).seen)) (sym same) (own role.ExternObject refl w)
      by role.Function plain w = subst (λ b. Stands past t role.Function (told_if true role.Function (noted_if b (begun name past t role.Function) (look name Ordinary (name t) zero past)).seen)) (sym same) (own role.Function refl w)
      by role.Parameter plain w = subst (λ b. Stands past t role.Parameter (told_if true role.Parameter (noted_if b (begun name past t role.Parameter) (look name Ordinary (name t) zero past)).seen)) (sym same) (own role.Parameter refl w)
      by role.Enumerator plain w = subst (λ b. Stands past t role.Enumerator (told_if true role.Enumerator (noted_if b (begun name past t role.Enumerator) (look name Ordinary (name t) zero past)).seen)) (sym same) (own role.Enumerator refl w)
      by r plain w = absurd (false≢true (sym plain))

  -- ---- what a token stands for, by its latest event

  record StandsFor (t first : ℕ) (past : List Event) : Type 0 where
    own : Told
    is : told name t past ≡ Some own
    declares_it : own.declares ≡ true
    first_is : own.first ≡ first

  behind : (a b : Bool) → a ≡ false → (a || b) ≡ true → b ≡ true
  behind true b e h = absurd (false≢true (sym e))
  behind false b e h = h

  other_event : (t u first : ℕ) (r : Role) (past : List Event) → (t == u) ≡ false → StandsFor t first past → StandsFor t first (Name u r ∷ past)
  other_event t u first r past q h = record { own = h.own; is = ap (λ b. if b then told_of name past u r else told name t past) q ∙ h.is; declares_it = h.declares_it; first_is = h.first_is }

  -- a function stands for what is linked
  function_first : (t : ℕ) (past : List Event) → is_named t past ≡ true → Never is_no_function t past → AreRight name past → (first : ℕ) × ((linked name (name t) past ≡ Some first) × StandsFor t first past)
  function_first t [] h n w = absurd (false≢true h)
  function_first t (Name u r ∷ past) h n w = by (t == u) refl (λ q. function_first t past (behind (t == u) (is_named t past) q h) n.1 w.1)
    where
      by : (b : Bool) → (t == u) ≡ b → ((t == u) ≡ false → (first : ℕ) × ((linked name (name t) past ≡ Some first) × StandsFor t first past))
          → (first : ℕ) × ((linked name (name t) (Name u r ∷ past) ≡ Some first) × StandsFor t first (Name u r ∷ past))
      by true q rest =
          let same : t ≡ u = eqb-true t u q in
          let function : r ≡ role.Function = only_function r (n.0 (sym same)) in
          let x = stands past u role.Function refl (subst (λ y. is_wrong name past u y ≡ false) function w.0) in
          let told_is : told_of name past u r ≡ Some x.own = ap (told_of name past u) function ∙ x.is in (
            x.own.first,
            (
              ap (λ y. linked name (name y) (Name u r ∷ past)) same ∙ ap (λ y. linked name (name u) (Name u y ∷ past)) function ∙ x.with_linkage refl,
              record { own = x.own; is = ap (λ b. if b then told_of name past u r else told name t past) q ∙ told_is; declares_it = x.declares_it; first_is = refl },
            ),
          )
      by false q rest =
          let x = rest q in
          (x.0, (linked_later (name t) past (Name u r) x.0 x.1.0, other_event t u x.0 r past q x.1.1))
  function_first t (Opens ∷ past) h n w = let x = function_first t past h n w in (x.0, (x.1.0, record { own = x.1.1.own; is = x.1.1.is; declares_it = x.1.1.declares_it; first_is = x.1.1.first_is }))
  function_first t (Closes ∷ past) h n w = let x = function_first t past h n w in (x.0, (x.1.0, record { own = x.1.1.own; is = x.1.1.is; declares_it = x.1.1.declares_it; first_is = x.1.1.first_is }))
  function_first t (Member u k ∷ past) h n w = let x = function_first t past h n w in (x.0, (x.1.0, record { own = x.1.1.own; is = x.1.1.is; declares_it = x.1.1.declares_it; first_is = x.1.1.first_is }))
  function_first t (Node i ∷ past) h n w = let x = function_first t past h n w in (x.0, (x.1.0, record { own = x.1.1.own; is = x.1.1.is; declares_it = x.1.1.declares_it; first_is = x.1.1.first_is }))

  -- what is linked stands for itself
  own_first : (y : ℕ) (past : List Event) → is_named y past ≡ true → Never is_other y past → AreRight name past → ((w : ℕ) → linked name (name y) past ≡ Some w → w ≡ y) → StandsFor y y past
  own_first y [] h n w f = absurd (false≢true h)
  own_first y (Name u r ∷ past) h n w f =
      by (y == u) refl (λ q. own_first y past (behind (y == u) (is_named y past) q h) n.1 w.1 (λ v e. f v (linked_later (name y) past (Name u r) v e)))
    where
      by : (b : Bool) → (y == u) ≡ b → ((y == u) ≡ false → StandsFor y y past) → StandsFor y y (Name u r ∷ past)
      by true q rest =
          let same : y ≡ u = eqb-true y u q in
          let x = stands past u r (n.0 (sym same)) w.0 in
          record { own = x.own; is = ap (λ b. if b then told_of name past u r else told name y past) q ∙ x.is; declares_it = x.declares_it; first_is = first x (links (is_outermost past) r) refl }
        where
          first : (x : Stands past u r (told_of name past u r)) (b : Bool) → links (is_outermost past) r ≡ b → x.own.first ≡ y
          first x true k = let same : y ≡ u = eqb-true y u q in f x.own.first (ap (λ z. linked name (name z) (Name u r ∷ past)) same ∙ x.with_linkage k)
          first x false k = x.alone k ∙ sym (eqb-true y u q)
      by false q rest = other_event y u y r past q (rest q)
  own_first y (Opens ∷ past) h n w f = let x = own_first y past h n w f in record { own = x.own; is = x.is; declares_it = x.declares_it; first_is = x.first_is }
  own_first y (Closes ∷ past) h n w f = let x = own_first y past h n w f in record { own = x.own; is = x.is; declares_it = x.declares_it; first_is = x.first_is }
  own_first y (Member u k ∷ past) h n w f = let x = own_first y past h n w f in record { own = x.own; is = x.is; declares_it = x.declares_it; first_is = x.first_is }
  own_first y (Node i ∷ past) h n w f = let x = own_first y past h n w f in record { own = x.own; is = x.is; declares_it = x.declares_it; first_is = x.first_is }

  -- an event that names nothing changes nothing
  as_is : (t first : ℕ) (past now : List Event) → told name t now ≡ told name t past → StandsFor t first past → StandsFor t first now
  as_is t first past now e h = record { own = h.own; is = e ∙ h.is; declares_it = h.declares_it; first_is = h.first_is }

  -- what is told as no type, no tag and no use stands for itself, or for what is linked by its name
  record StandsSomehow (t : ℕ) (past : List Event) : Type 0 where
    first : ℕ
    stands_for : StandsFor t first past
    origin : (first ≡ t) ⊎ (linked name (name t) past ≡ Some first)

  value_first : (t : ℕ) (past : List Event) → is_named t past ≡ true → Never is_other t past → AreRight name past → StandsSomehow t past
  value_first t [] h n w = absurd (false≢true h)
  value_first t (Name u r ∷ past) h n w = by (t == u) refl (λ q. value_first t past (behind (t == u) (is_named t past) q h) n.1 w.1)
    where
      by : (b : Bool) → (t == u) ≡ b → ((t == u) ≡ false → StandsSomehow t past) → StandsSomehow t (Name u r ∷ past)
      by true q rest =
          let same : t ≡ u = eqb-true t u q in
          let x = stands past u r (n.0 (sym same)) w.0 in
          record {
            first = x.own.first;
            stands_for = record { own = x.own; is = ap (λ b. if b then told_of name past u r else told name t past) q ∙ x.is; declares_it = x.declares_it; first_is = refl };
            origin = origin x (links (is_outermost past) r) refl;
          }
        where
          origin : (x : Stands past u r (told_of name past u r)) (b : Bool) → links (is_outermost past) r ≡ b → (x.own.first ≡ t) ⊎ (linked name (name t) (Name u r ∷ past) ≡ Some x.own.first)
          origin x true k = let same : t ≡ u = eqb-true t u q in inr (ap (λ z. linked name (name z) (Name u r ∷ past)) same ∙ x.with_linkage k)
          origin x false k = inl (x.alone k ∙ sym (eqb-true t u q))
      by false q rest =
          let x = rest q in
          record { first = x.first; stands_for = other_event t u x.first r past q x.stands_for; origin = later_origin x.first x.origin }
        where
          later_origin : (first : ℕ) → (first ≡ t) ⊎ (linked name (name t) past ≡ Some first) → (first ≡ t) ⊎ (linked name (name t) (Name u r ∷ past) ≡ Some first)
          later_origin first (inl e) = inl e
          later_origin first (inr e) = inr (linked_later (name t) past (Name u r) first e)
  value_first t (Opens ∷ past) h n w = let x = value_first t past h n w in record { first = x.first; stands_for = as_is t x.first past (Opens ∷ past) refl x.stands_for; origin = x.origin }
  value_first t (Closes ∷ past) h n w = let x = value_first t past h n w in record { first = x.first; stands_for = as_is t x.first past (Closes ∷ past) refl x.stands_for; origin = x.origin }
  value_first t (Member u k ∷ past) h n w = let x = value_first t past h n w in record { first = x.first; stands_for = as_is t x.first past (Member u k ∷ past) refl x.stands_for; origin = x.origin }
  value_first t (Node i ∷ past) h n w = let x = value_first t past h n w in record { first = x.first; stands_for = as_is t x.first past (Node i ∷ past) refl x.stands_for; origin = x.origin }

-- ---- entities

-- fewer begin before a token that begins one than before any later one
fewer : (at : ℕ → Option Told) (a b : ℕ) → a < b → begins (at a) a ≡ true → count_of at a < count_of at b
fewer at a zero less h = absurd (omega (arith, less))
fewer at a (suc b) less h = elim (cases_lt a b) [
  | inl more ↦ (let x = fewer at a b more h in let y = one_more (begins (at b) b) (count_of at b) in omega (arith, x, y))
  | inr le ↦
      (let same : a ≡ b = omega (arith, less, le) in
      let own : count_of at (suc a) ≡ count_of at a + 1 = ap (λ c. if c then count_of at a + 1 else count_of at a) h in
      subst (λ n. count_of at a < count_of at (suc n)) same (omega (arith, own)))
]

pub any_there : {A : Type 0} (test : A → Bool) (xs : List A) (k : ℕ) (x : A) → slice_get xs k ≡ Some x → test x ≡ true → list_any test xs ≡ true
any_there test [] k x e h = absurd (cc e)
any_there test (y ∷ xs) zero x e h = let same : y ≡ x = cc e in or_left (test y) (list_any test xs) (ap test same ∙ h)
any_there test (y ∷ xs) (suc k) x e h = or_right (test y) (list_any test xs) (any_there test xs k x e h)

any_before : (test : ℕ → Bool) (xs : List ℕ) (m : ℕ) → list_any test xs ≡ true → list_any test (xs ++ m ∷ []) ≡ true
any_before test [] m h = absurd (false≢true h)
any_before test (x ∷ xs) m h = by (test x) h (λ q. any_before test xs m q)
  where
    by : (b : Bool) → (b || list_any test xs) ≡ true → (list_any test xs ≡ true → list_any test (xs ++ m ∷ []) ≡ true) → (b || list_any test (xs ++ m ∷ [])) ≡ true
    by true h rest = refl
    by false h rest = rest h

any_last : (test : ℕ → Bool) (xs : List ℕ) (m : ℕ) → test m ≡ true → list_any test (xs ++ m ∷ []) ≡ true
any_last test [] m h = or_left (test m) false h
any_last test (x ∷ xs) m h = or_right (test x) (list_any test (xs ++ m ∷ [])) (any_last test xs m h)

abbrev has : ℕ → Entity → Bool
has t e = is_declared_by t e

module _ (at : ℕ → Option Told) (t k : ℕ) (own : Told) (is : at t ≡ Some own) (declares_it : own.declares ≡ true) (its : is_number (number_of at (at t)) k ≡ true) where
  kept : (m : ℕ) (b : Bool) (o : Option Told) (e : Entity) → has t e ≡ true → has t (if b then with_token m o e else e) ≡ true
  kept m false o e h = h
  kept m true None e h = h
  kept m true (Some x) e h = by x.declares
    where
      by : (b : Bool) → has t (if b then record { declared = e.declared ++ m ∷ []; uses = e.uses; space = x.space } else record { declared = e.declared; uses = e.uses ++ m ∷ []; space = x.space }) ≡ true
      by true = any_before (λ d. d == t) e.declared m h
      by false = h

  in_entity : (m : ℕ) → t < m → has t (entity_of at m k) ≡ true
  in_entity zero less = absurd (omega (arith, less))
  in_entity (suc m) less = elim (cases_lt t m) [
    | inl more ↦ kept m (is_number (number_of at (at m)) k) (at m) (entity_of at m k) (in_entity m more)
    | inr le ↦ (let same : t ≡ m = omega (arith, less, le) in subst (λ n. has t (entity_of at (suc n) k) ≡ true) same itself)
  ]
    where
      itself : has t (entity_of at (suc t) k) ≡ true
      itself =
          let e = entity_of at t k in
          ap (λ b. has t (if b then with_token t (at t) e else e)) its ∙ ap (λ o. has t (with_token t o e)) is
          ∙ ap (λ b. has t (if b then record { declared = e.declared ++ t ∷ []; uses = e.uses; space = own.space } else record { declared = e.declared; uses = e.uses ++ t ∷ []; space = own.space })) declares_it
          ∙ any_last (λ d. d == t) e.declared t (eq-eqb t t refl)

-- ---- the law

module _ (name : ℕ → ℕ) (events : List Event) (tokens : ℕ) (names : Names) (resolved : AreResolved name events tokens names) (values : AreValues tokens (past_of events (length events))) where
  abbrev at : ℕ → Option Told
  at = told_below name events tokens

  abbrev whole : List Event
  whole = past_of events (length events)

  right : AreRight name whole
  right = all_right name events resolved.right (length events)

  told_there : (t : ℕ) (x : Told) → t < tokens → told name t whole ≡ Some x → at t ≡ Some x
  told_there t x low e = ap (λ b. if b then told name t whole else None) (lt-ltb t tokens low) ∙ e

  -- what is linked begins an entity
  record IsBegun (y : ℕ) : Type 0 where
    low : y < tokens
    begins_there : begins (at y) y ≡ true

  begun_there : (s y : ℕ) → linked name s whole ≡ Some y → IsBegun y
  begun_there s y e = elim (values y) [
    | inl never ↦ absurd ((linked_told name s y whole e).value never)
    | inr v ↦
        (let own = linked_told name s y whole e in
        let x = own_first name y whole own.there v.1 right (λ w f. same_Some w y (sym f ∙ ap (λ z. linked name z whole) own.same ∙ e)) in
        record {
          low = v.0;
          begins_there = ap (λ o. begins o y) (told_there y x.own v.0 x.is) ∙ and_from x.own.declares (x.own.first == y) x.declares_it (eq-eqb x.own.first y x.first_is);
        })
  ]

  entity_is : (t y : ℕ) → t < tokens → IsBegun y → StandsFor name t y whole → declared_entity names t ≡ Some (count_of at y)
  entity_is t y low b x =
      ap (λ c. if c then entity_at names t else None) declares_there ∙ ap (entity_within (length names.entities)) (resolved.names.of_token t low ∙ number)
      ∙ ap (λ c. if c then Some (count_of at y) else None) (lt-ltb (count_of at y) (length names.entities) few_entities)
    where
      here : at t ≡ Some x.own
      here = told_there t x.own low x.is

      number : number_of at (at t) ≡ Some (count_of at y)
      number =
          ap (number_of at) here ∙ ap (λ z. if begins (at z) z then Some (count_of at z) else None) x.first_is
          ∙ ap (λ c. if c then Some (count_of at y) else None) b.begins_there

      few : count_of at y < count_of at tokens
      few = fewer at y tokens b.low b.begins_there

      few_entities : count_of at y < length names.entities
      few_entities = let c = resolved.names.count in let f = few in omega (arith, c, f)

      declares_there : declares names t ≡ true
      declares_there =
          any_there (is_declared_by t) names.entities (count_of at y) (entity_of at tokens (count_of at y)) (resolved.names.entities (count_of at y) few)
          (in_entity at t (count_of at y) x.own here x.declares_it (ap (λ o. is_number o (count_of at y)) number ∙ eq-eqb (count_of at y) (count_of at y) refl) tokens low)

  both : (one other : ℕ) → one < tokens → other < tokens → IsFunction one whole → IsFunction other whole → name one ≡ name other
      → (k : ℕ) × ((declared_entity names one ≡ Some k) × (declared_entity names other ≡ Some k))
  both one other low less f g same =
      let x = function_first name one whole f.named f.each right in
      let y = function_first name other whole g.named g.each right in
      let first : y.0 ≡ x.0 = same_Some y.0 x.0 (sym y.1.0 ∙ ap (λ s. linked name s whole) (sym same) ∙ x.1.0) in
      let b = begun_there (name one) x.0 x.1.0 in
      (count_of at x.0, (entity_is one x.0 low b x.1.1, entity_is other x.0 less b (subst (λ z. StandsFor name other z whole) first y.1.1)))

  -- what is told as no type, no tag and no use declares an entity
  entity : (t : ℕ) → t < tokens → is_named t whole ≡ true → Never is_other t whole → (k : ℕ) × (declared_entity names t ≡ Some k)
  entity t low named never = (count_of at x.first, entity_is t x.first low (by x.origin) x.stands_for)
    where
      x : StandsSomehow name t whole
      x = value_first name t whole named never right

      by : (x.first ≡ t) ⊎ (linked name (name t) whole ≡ Some x.first) → IsBegun x.first
      by (inl e) =
          let f = x.stands_for in
          record {
            low = subst (λ y. y < tokens) (sym e) low;
            begins_there = subst (λ y. begins (at y) y ≡ true) (sym e) (ap (λ o. begins o t) (told_there t f.own low f.is) ∙ and_from f.own.declares (f.own.first == t) f.declares_it (eq-eqb f.own.first t (f.first_is ∙ e)));
          }
      by (inr e) = begun_there (name t) x.first e

pub share : Laws.FunctionsShareEntities
share name events tokens names one other resolved values low less f g same = both name events tokens names resolved values one other low less f g same

pub has_entity : Laws.ToldNamesHaveEntities
has_entity name events tokens names token resolved values low named never = entity name events tokens names resolved values token low named never
