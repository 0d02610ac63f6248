-- What has linkage stands for the first declaration with linkage of its name, in whatever scope (C11 6.2.2p2).
use Rattle.std.proofs.Common.{◌≡◌, ℕ, zero, suc, ◌-◌, ◌≤◌, ◌==◌, Bool, true, false, not, ◌&&◌, ◌||◌, List, [], ◌∷◌, Option, None, Some, refl, sym, subst, ap, ◌∙◌, arith}
use Rattle.std.specs.Prelude.{if◌then◌else◌}
use Rattle.std.specs.Option.{is_some}
use Rattle.std.proofs.lemmas.Bool.{false≢true, and_parts, not-false, eqb-true, eq-eqb, or_left, or_right}
use Rattle.cr_scopes_events.specs.declared.event.Role.{Role}
use Rattle.cr_scopes_events.specs.declared.event.Role.TheVariants as role
use Rattle.cr_scopes_events.specs.declared.event.Event.{Event}
use Rattle.cr_scopes_events.specs.declared.event.Event.TheVariants.{Node, Opens, Closes, Name, Member}
use Rattle.cr_scopes.specs.declared.told.Told.{Told}
use Rattle.cr_scopes.specs.declared.scope.Space.TheVariants.{Ordinary}
use Rattle.cr_scopes.specs.declared.scope.Found.{Found}
use Rattle.cr_scopes.specs.declared.scope.Look.{Look}
use Rattle.cr_scopes.specs.Looking.{or_else, or_given, depth, is_outermost, links, is_linked, linked, stands_in, is_mention, begun, begun_by, noted_if, look}
use Rattle.cr_scopes.specs.Faults.{is_typedef, clashes, is_wrong}
use Rattle.cr_scopes.specs.Resolved.{told_if, told_of, told}
use Rattle.cr_scopes_bindings.specs.Visible.{is_named, latest, visible}
use Rattle.cr_scopes_visibility.specs.Alone.Sight.{is_used}
use Rattle.cr_scopes_visibility.proofs.AloneLemmas.Telling.{AreRight}
use Rattle.cr_scopes_linkage.specs.Shared.Sorts.{is_value, is_tag, Never}
use Rattle.cr_scopes_visibility.specs.Uses.Uses.{is_use}
use Rattle.cr_scopes_visibility.proofs.OnceLemmas.Meaning.{only_used}
use Rattle.cr_scopes_linkage.specs.Meant.Laws.{times, is_other}
use Rattle.cr_scopes_linkage.proofs.SharedLemmas.Looked.{links_value}

-- ---- roles

always_links : (outermost : Bool) (r : Role) → is_other r ≡ false → links outermost r ≡ true
always_links outermost role.Function h = refl
always_links outermost role.ExternObject h = refl
always_links outermost r h = absurd (false≢true (sym h))

-- an ordinary identifier is declared
abbrev is_declared : Role → Bool
is_declared role.Object = true
is_declared role.ExternObject = true
is_declared role.Function = true
is_declared role.Parameter = true
is_declared role.Enumerator = true
is_declared r = false

declared_is : (r : Role) → is_typedef r ≡ false → is_tag r ≡ false → is_used r ≡ false → is_declared r ≡ true
declared_is role.Object a b c = refl
declared_is role.ExternObject a b c = refl
declared_is role.Function a b c = refl
declared_is role.Parameter a b c = refl
declared_is role.Enumerator a b c = refl
declared_is role.Typedef a b c = absurd (false≢true (sym a))
declared_is role.Used a b c = absurd (false≢true (sym c))
declared_is r a b c = absurd (false≢true (sym b))

links_declared : (outermost : Bool) (r : Role) → links outermost r ≡ true → is_declared r ≡ true
links_declared outermost role.Object h = refl
links_declared outermost role.ExternObject h = refl
links_declared outermost role.Function h = refl
links_declared outermost r h = absurd (false≢true h)

-- ---- Booleans

none_wrong : (a b : Bool) → not ((a && true) || (b && false)) ≡ false → a ≡ true
none_wrong true b h = refl
none_wrong false true h = absurd (false≢true (sym h))
none_wrong false false h = absurd (false≢true (sym h))

all_wrong : (a b : Bool) → not ((a && false) || (b && false)) ≡ false → ⊥
all_wrong true true h = false≢true (sym h)
all_wrong true false h = false≢true (sym h)
all_wrong false true h = false≢true (sym h)
all_wrong false false h = false≢true (sym h)

-- ---- what is told directly

abbrev pub stood_for : ℕ → Bool → Told
stood_for y declares = record { first = y; declares = declares; space = 0 }

module _ (name : ℕ → ℕ) where
  stays : (s : ℕ) (past : List Event) (t : ℕ) (r : Role) (y : ℕ) → linked name s past ≡ Some y → linked name s (Name t r ∷ past) ≡ Some y
  stays s past t r y e = ap (λ o. or_else o (if is_linked name s past t r then Some t else None)) e

  -- the first declaration of a scope, where it has linkage
  here_linked : (s d : ℕ) (past : List Event) (f : Found) → (look name Ordinary s d past).here ≡ Some f → links ((depth past - d) == 0) f.role ≡ true → linked name s past ≡ Some f.first
  here_linked s d [] f e h = absurd cc
  here_linked s d (Closes ∷ past) f e h =
      let same : depth past - suc d ≡ depth past - 1 - d = omega arith in
      here_linked s (suc d) past f e (ap (λ x. links (x == 0) f.role) same ∙ h)
  here_linked s zero (Opens ∷ past) f e h = absurd cc
  here_linked s (suc d) (Opens ∷ past) f e h =
      let same : depth past - d ≡ suc (depth past) - suc d = omega arith in
      here_linked s d past f e (ap (λ x. links (x == 0) f.role) same ∙ h)
  here_linked s zero (Name t r ∷ past) f e h = by (stands_in Ordinary r && (name t == s)) refl e (λ x. here_linked s zero past f x h)
    where
      own : (name t == s) ≡ true → (o : Option ℕ) → linked name s past ≡ o → begun name past t r ≡ f → or_else o (if is_linked name s past t r then Some t else None) ≡ Some f.first
      own same o q g =
          let outermost : links (is_outermost past) r ≡ true = ap (λ (x : Found). links (is_outermost past) x.role) g ∙ (let zero_is : depth past - 0 ≡ depth past = omega arith in ap (λ x. links (x == 0) f.role) (sym zero_is) ∙ h) in
          let its : is_linked name s past t r ≡ true = (λ j. same j && outermost j) in
          let known : linked name (name t) past ≡ o = ap (λ x. linked name x past) (eqb-true (name t) s same) ∙ q in
          ap (λ b. or_else o (if b then Some t else None)) its ∙ either o
          ∙ ap Some (sym (ap (λ b. if b then or_given o t else t) outermost) ∙ sym (ap (λ x. (begun_by (is_outermost past) x t r).first) known) ∙ ap (λ (x : Found). x.first) g)
        where
          either : (o : Option ℕ) → or_else o (Some t) ≡ Some (or_given o t)
          either None = refl
          either (Some x) = refl

      l : Look
      l = look name Ordinary s zero past

      first : (b : Bool) → (name t == s) ≡ true → (if b then l else record { here = or_else l.here (Some (begun name past t r)); seen = or_else l.here (Some (begun name past t r)) }).here ≡ Some f
          → (l.here ≡ Some f → linked name s past ≡ Some f.first) → linked name s (Name t r ∷ past) ≡ Some f.first
      first true same g rest = stays s past t r f.first (rest g)
      first false same g rest = of_here l.here refl g
        where
          of_here : (o : Option Found) → l.here ≡ o → or_else o (Some (begun name past t r)) ≡ Some f → linked name s (Name t r ∷ past) ≡ Some f.first
          of_here None q g = own same (linked name s past) refl (let is : begun name past t r ≡ f = cc in is)
          of_here (Some x) q g = stays s past t r f.first (rest (q ∙ g))

      by : (b : Bool) → (stands_in Ordinary r && (name t == s)) ≡ b → (noted_if b (begun name past t r) l).here ≡ Some f → (l.here ≡ Some f → linked name s past ≡ Some f.first) → linked name s (Name t r ∷ past) ≡ Some f.first
      by false q g rest = stays s past t r f.first (rest g)
      by true q g rest = first (is_mention r && is_some l.seen) (and_parts (stands_in Ordinary r) (name t == s) q).1 g rest
  here_linked s (suc d) (Name t r ∷ past) f e h = stays s past t r f.first (here_linked s (suc d) past f e h)
  here_linked s d (Member t k ∷ past) f e h = here_linked s d past f e h
  here_linked s d (Node i ∷ past) f e h = here_linked s d past f e h

  -- ---- a declaration, by its event

  -- what it finds directly behind itself
  seen_is : (past : List Event) (t : ℕ) (r : Role) → stands_in Ordinary r ≡ true → is_mention r ≡ false
      → (look name Ordinary (name t) zero (Name t r ∷ past)).seen ≡ or_else (look name Ordinary (name t) zero past).here (Some (begun name past t r))
  seen_is past t r stands mention =
      let l = look name Ordinary (name t) zero past in
      let f = begun name past t r in
      let told : (stands_in Ordinary r && (name t == name t)) ≡ true = (λ j. stands j && eq-eqb (name t) (name t) refl j) in
      ap (λ b. (noted_if b f l).seen) told
      ∙ ap (λ b. (if b && is_some l.seen then l else record { here = or_else l.here (Some f); seen = or_else l.here (Some f) }).seen) mention

  record IsLinked (past : List Event) (t : ℕ) (r : Role) : Type 0 where
    found : Found
    seen : (look name Ordinary (name t) zero (Name t r ∷ past)).seen ≡ Some found
    first : linked name (name t) (Name t r ∷ past) ≡ Some found.first

  -- with linkage, what it clashes with has none
  module _ (past : List Event) (t : ℕ) (r : Role) (stands : stands_in Ordinary r ≡ true) (mention : is_mention r ≡ false) (types : is_typedef r ≡ false) (right : clashes (is_outermost past) (look name Ordinary (name t) zero past).here r ≡ false) where
    abbrev l : Look
    l = look name Ordinary (name t) zero past

    linking : links (is_outermost past) r ≡ true → IsLinked past t r
    linking h = by l.here refl right
      where
        own_first : (o : Option ℕ) → linked name (name t) past ≡ o → or_else o (if is_linked name (name t) past t r then Some t else None) ≡ Some (begun name past t r).first
        own_first o q =
            let its : is_linked name (name t) past t r ≡ true = (λ j. eq-eqb (name t) (name t) refl j && h j) in
            ap (λ b. or_else o (if b then Some t else None)) its ∙ either o
            ∙ ap Some (sym (ap (λ b. if b then or_given o t else t) h) ∙ sym (ap (λ x. (begun_by (is_outermost past) x t r).first) q))
          where
            either : (o : Option ℕ) → or_else o (Some t) ≡ Some (or_given o t)
            either None = refl
            either (Some x) = refl

        by : (o : Option Found) → l.here ≡ o → clashes (is_outermost past) o r ≡ false → IsLinked past t r
        by None q w = record {
          found = begun name past t r;
          seen = seen_is past t r stands mention ∙ ap (λ o. or_else o (Some (begun name past t r))) q;
          first = own_first (linked name (name t) past) refl;
        }
        by (Some f) q w =
            let fine : links (is_outermost past) f.role ≡ true =
            none_wrong (links (is_outermost past) f.role) (is_typedef f.role) (sym (λ j. not ((links (is_outermost past) f.role && h j) || (is_typedef f.role && types j))) ∙ w) in
            let zero_is : depth past - 0 ≡ depth past = omega arith in
            record {
              found = f;
              seen = seen_is past t r stands mention ∙ ap (λ o. or_else o (Some (begun name past t r))) q;
              first = stays (name t) past t r f.first (here_linked (name t) zero past f q (ap (λ x. links (x == 0) f.role) zero_is ∙ fine));
            }

    -- and without linkage it stands for itself
    alone : links (is_outermost past) r ≡ false → (look name Ordinary (name t) zero (Name t r ∷ past)).seen ≡ Some (record { first = t; role = r })
    alone h = by l.here refl right
      where
        by : (o : Option Found) → l.here ≡ o → clashes (is_outermost past) o r ≡ false → (look name Ordinary (name t) zero (Name t r ∷ past)).seen ≡ Some (record { first = t; role = r })
        by None q w =
            seen_is past t r stands mention ∙ ap (λ o. or_else o (Some (begun name past t r))) q
            ∙ ap (λ b. Some (record { first = if b then or_given (linked name (name t) past) t else t; role = r })) h
        by (Some f) q w =
            absurd (all_wrong (links (is_outermost past) f.role) (is_typedef f.role) (sym (λ j. not ((links (is_outermost past) f.role && h j) || (is_typedef f.role && types j))) ∙ w))

  -- ---- by its role

  linked_role : (past : List Event) (t : ℕ) (r : Role) → is_wrong name past t r ≡ false → links (is_outermost past) r ≡ true → IsLinked past t r
  linked_role past t role.Object w h = linking past t role.Object refl refl refl w h
  linked_role past t role.ExternObject w h = linking past t role.ExternObject refl refl refl w h
  linked_role past t role.Function w h = linking past t role.Function refl refl refl w h
  linked_role past t r w h = absurd (false≢true h)

  told_role : (past : List Event) (t : ℕ) (r : Role) → is_declared r ≡ true → (f : Found) → (look name Ordinary (name t) zero (Name t r ∷ past)).seen ≡ Some f → told_of name past t r ≡ Some (stood_for f.first true)
  told_role past t role.Object d f e = ap (told_if true role.Object) e
  told_role past t role.ExternObject d f e = ap (told_if true role.ExternObject) e
  told_role past t role.Function d f e = ap (told_if true role.Function) e
  told_role past t role.Parameter d f e = ap (told_if true role.Parameter) e
  told_role past t role.Enumerator d f e = ap (told_if true role.Enumerator) e
  told_role past t r d f e = absurd (false≢true d)

  alone_role : (past : List Event) (t : ℕ) (r : Role) → is_declared r ≡ true → is_wrong name past t r ≡ false → links (is_outermost past) r ≡ false
      → (look name Ordinary (name t) zero (Name t r ∷ past)).seen ≡ Some (record { first = t; role = r })
  alone_role past t role.Object d w h = alone past t role.Object refl refl refl w h
  alone_role past t role.ExternObject d w h = alone past t role.ExternObject refl refl refl w h
  alone_role past t role.Function d w h = alone past t role.Function refl refl refl w h
  alone_role past t role.Parameter d w h = alone past t role.Parameter refl refl refl w h
  alone_role past t role.Enumerator d w h = alone past t role.Enumerator refl refl refl w h
  alone_role past t r d w h = absurd (false≢true d)

  -- ---- a token that is always told as what has linkage

  pub record StandsFor (token : ℕ) (declares : Bool) (past : List Event) : Type 0 where
    pub first : ℕ
    pub is : told name token past ≡ Some (stood_for first declares)
    pub linked_first : linked name (name token) past ≡ Some first

  pub linked_told : (x : ℕ) (past : List Event) → AreRight name past → Never is_other x past → is_named x past ≡ true → StandsFor x true past
  linked_told x [] right never named = absurd (false≢true named)
  linked_told x (Name t r ∷ past) right never named = by (x == t) refl named (λ n. linked_told x past right.1 never.1 n)
    where
      by : (b : Bool) → (x == t) ≡ b → (b || is_named x past) ≡ true → (is_named x past ≡ true → StandsFor x true past) → StandsFor x true (Name t r ∷ past)
      by true q n rest =
          let same : t ≡ x = sym (eqb-true x t q) in
          let has = always_links (is_outermost past) r (never.0 same) in
          let own = linked_role past t r right.0 has in
          record {
            first = own.found.first;
            is = ap (λ b. if b then told_of name past t r else told name x past) q ∙ told_role past t r (links_declared (is_outermost past) r has) own.found own.seen;
            linked_first = ap (λ y. linked name (name y) (Name t r ∷ past)) (sym same) ∙ own.first;
          }
      by false q n rest =
          let own = rest n in
          record { first = own.first; is = ap (λ b. if b then told_of name past t r else told name x past) q ∙ own.is; linked_first = stays (name x) past t r own.first own.linked_first }
  linked_told x (Opens ∷ past) right never named = let y = linked_told x past right never named in record { first = y.first; is = y.is; linked_first = y.linked_first }
  linked_told x (Closes ∷ past) right never named = let y = linked_told x past right never named in record { first = y.first; is = y.is; linked_first = y.linked_first }
  linked_told x (Member t k ∷ past) right never named = let y = linked_told x past right never named in record { first = y.first; is = y.is; linked_first = y.linked_first }
  linked_told x (Node i ∷ past) right never named = let y = linked_told x past right never named in record { first = y.first; is = y.is; linked_first = y.linked_first }

  -- ---- what is in scope

  record IsSeen (s d x : ℕ) (past : List Event) : Type 0 where
    found : Found
    seen : (look name Ordinary s d past).seen ≡ Some found
    pub linked_first : linked name s past ≡ Some found.first
    pub named : is_named x past ≡ true
    pub same : name x ≡ s

  in_scope : (s d x : ℕ) (past : List Event) → AreRight name past → Never is_other x past → latest name s d past ≡ Some x → IsSeen s d x past
  in_scope s d x [] right never e = absurd cc
  in_scope s d x (Closes ∷ past) right never e =
      let y = in_scope s (suc d) x past right never e in record { found = y.found; seen = y.seen; linked_first = y.linked_first; named = y.named; same = y.same }
  in_scope s zero x (Opens ∷ past) right never e =
      let y = in_scope s zero x past right never e in record { found = y.found; seen = y.seen; linked_first = y.linked_first; named = y.named; same = y.same }
  in_scope s (suc d) x (Opens ∷ past) right never e =
      let y = in_scope s d x past right never e in record { found = y.found; seen = y.seen; linked_first = y.linked_first; named = y.named; same = y.same }
  in_scope s zero x (Name t r ∷ past) right never e = by (stands_in Ordinary r && (name t == s)) refl e (λ f. in_scope s zero x past right.1 never.1 f)
    where
      by : (b : Bool) → (stands_in Ordinary r && (name t == s)) ≡ b → (if b then Some t else latest name s zero past) ≡ Some x → (latest name s zero past ≡ Some x → IsSeen s zero x past) → IsSeen s zero x (Name t r ∷ past)
      by true q e rest =
          let same : t ≡ x = cc in
          let own = linked_role past t r right.0 (always_links (is_outermost past) r (never.0 same)) in
          let spelled = eqb-true (name t) s (and_parts (stands_in Ordinary r) (name t == s) q).1 in
          record {
            found = own.found;
            seen = ap (λ y. (look name Ordinary y zero (Name t r ∷ past)).seen) (sym spelled) ∙ own.seen;
            linked_first = ap (λ y. linked name y (Name t r ∷ past)) (sym spelled) ∙ own.first;
            named = or_left (x == t) (is_named x past) (eq-eqb x t (sym same));
            same = ap name (sym same) ∙ spelled;
          }
      by false q e rest =
          let y = rest e in
          record {
            found = y.found;
            seen = ap (λ b. (noted_if b (begun name past t r) (look name Ordinary s zero past)).seen) q ∙ y.seen;
            linked_first = stays s past t r y.found.first y.linked_first;
            named = or_right (x == t) (is_named x past) y.named;
            same = y.same;
          }
  in_scope s (suc d) x (Name t r ∷ past) right never e =
      let y = in_scope s (suc d) x past right.1 never.1 e in
      record { found = y.found; seen = y.seen; linked_first = stays s past t r y.found.first y.linked_first; named = or_right (x == t) (is_named x past) y.named; same = y.same }
  in_scope s d x (Member t k ∷ past) right never e =
      let y = in_scope s d x past right never e in record { found = y.found; seen = y.seen; linked_first = y.linked_first; named = y.named; same = y.same }
  in_scope s d x (Node i ∷ past) right never e =
      let y = in_scope s d x past right never e in record { found = y.found; seen = y.seen; linked_first = y.linked_first; named = y.named; same = y.same }

  -- ---- a name that is used once

  named_times : (x : ℕ) (past : List Event) → is_named x past ≡ true → 1 ≤ times x past
  named_times x [] h = absurd (false≢true h)
  named_times x (Name t r ∷ past) h = by (x == t) h (λ g. named_times x past g)
    where
      by : (b : Bool) → (b || is_named x past) ≡ true → (is_named x past ≡ true → 1 ≤ times x past) → 1 ≤ (if b then suc (times x past) else times x past)
      by true g rest = omega arith
      by false g rest = rest g
  named_times x (Opens ∷ past) h = named_times x past h
  named_times x (Closes ∷ past) h = named_times x past h
  named_times x (Member t k ∷ past) h = named_times x past h
  named_times x (Node i ∷ past) h = named_times x past h

  pub record IsUse (site x : ℕ) (past : List Event) : Type 0 where
    pub first : ℕ
    pub is : told name site past ≡ Some (stood_for first false)
    pub linked_first : linked name (name site) past ≡ Some first
    pub named : is_named x past ≡ true
    pub same : name x ≡ name site

  pub used : (site x : ℕ) (past : List Event) → AreRight name past → Never is_other x past → is_use site past ≡ true → times site past ≤ 1 → visible name past site ≡ Some x → IsUse site x past
  used site x [] right never h few e = absurd (false≢true h)
  used site x (Name t r ∷ past) right never h few e = by ((site == t) && not (is_named site past)) refl h e (λ g f v. used site x past right.1 never.1 g f v)
    where
      Rest : Type 0
      Rest = is_use site past ≡ true → times site past ≤ 1 → visible name past site ≡ Some x → IsUse site x past

      by : (b : Bool) → ((site == t) && not (is_named site past)) ≡ b → (if b then is_used r else is_use site past) ≡ true → (if b then latest name (name t) zero past else visible name past site) ≡ Some x → Rest
          → IsUse site x (Name t r ∷ past)
      by true q g v rest =
          let both = and_parts (site == t) (not (is_named site past)) q in
          let same : t ≡ site = sym (eqb-true site t both.0) in
          let is = only_used r g in
          let y = in_scope (name t) zero x past right.1 never.1 v in
          record {
            first = y.found.first;
            is = ap (λ b. if b then told_of name past t r else told name site past) both.0 ∙ ap (told_of name past t) is ∙ ap (told_if false role.Used) y.seen;
            linked_first = ap (λ z. linked name (name z) (Name t r ∷ past)) (sym same) ∙ stays (name t) past t r y.found.first y.linked_first;
            named = or_right (x == t) (is_named x past) y.named;
            same = y.same ∙ ap name same;
          }
      by false q g v rest = at (site == t) refl
        where
          at : (c : Bool) → (site == t) ≡ c → IsUse site x (Name t r ∷ past)
          at true p =
              let named = not-false (is_named site past) (sym (ap (λ b. b && not (is_named site past)) p) ∙ q) in
              let one = named_times site past named in
              let two : suc (times site past) ≤ 1 = subst (λ b. (if b then suc (times site past) else times site past) ≤ 1) p few in
              absurd (omega (arith, one, two))
          at false p =
              let y = rest g (subst (λ b. (if b then suc (times site past) else times site past) ≤ 1) p few) v in
              record {
                first = y.first;
                is = ap (λ b. if b then told_of name past t r else told name site past) p ∙ y.is;
                linked_first = stays (name site) past t r y.first y.linked_first;
                named = or_right (x == t) (is_named x past) y.named;
                same = y.same;
              }
  used site x (Opens ∷ past) right never h few e =
      let y = used site x past right never h few e in record { first = y.first; is = y.is; linked_first = y.linked_first; named = y.named; same = y.same }
  used site x (Closes ∷ past) right never h few e =
      let y = used site x past right never h few e in record { first = y.first; is = y.is; linked_first = y.linked_first; named = y.named; same = y.same }
  used site x (Member t k ∷ past) right never h few e =
      let y = used site x past right never h few e in record { first = y.first; is = y.is; linked_first = y.linked_first; named = y.named; same = y.same }
  used site x (Node i ∷ past) right never h few e =
      let y = used site x past right never h few e in record { first = y.first; is = y.is; linked_first = y.linked_first; named = y.named; same = y.same }

  -- ---- the first declaration with linkage stands for itself

  pub record IsFirst (s y : ℕ) (past : List Event) : Type 0 where
    pub named : is_named y past ≡ true
    pub same : name y ≡ s
    pub value : Never is_value y past → ⊥

  pub first_is : (s y : ℕ) (past : List Event) → linked name s past ≡ Some y → IsFirst s y past
  first_is s y [] e = absurd cc
  first_is s y (Name t r ∷ past) e = by (linked name s past) refl e (λ f. first_is s y past f)
    where
      own : (b : Bool) → is_linked name s past t r ≡ b → (if b then Some t else None) ≡ Some y → IsFirst s y (Name t r ∷ past)
      own true q e =
          let same : t ≡ y = cc in
          let both = and_parts (name t == s) (links (is_outermost past) r) q in
          record {
            named = or_left (y == t) (is_named y past) (eq-eqb y t (sym same));
            same = ap name (sym same) ∙ eqb-true (name t) s both.0;
            value = λ n. false≢true (sym (n.0 same) ∙ links_value (is_outermost past) r both.1);
          }
      own false q e = absurd cc

      by : (o : Option ℕ) → linked name s past ≡ o → or_else o (if is_linked name s past t r then Some t else None) ≡ Some y → (linked name s past ≡ Some y → IsFirst s y past) → IsFirst s y (Name t r ∷ past)
      by None q e rest = own (is_linked name s past t r) refl e
      by (Some z) q e rest = let x = rest (q ∙ e) in record { named = or_right (y == t) (is_named y past) x.named; same = x.same; value = λ n. x.value n.1 }
  first_is s y (Opens ∷ past) e = let x = first_is s y past e in record { named = x.named; same = x.same; value = x.value }
  first_is s y (Closes ∷ past) e = let x = first_is s y past e in record { named = x.named; same = x.same; value = x.value }
  first_is s y (Member t k ∷ past) e = let x = first_is s y past e in record { named = x.named; same = x.same; value = x.value }
  first_is s y (Node i ∷ past) e = let x = first_is s y past e in record { named = x.named; same = x.same; value = x.value }

  pub first_told : (s y : ℕ) (past : List Event) → AreRight name past → name y ≡ s → linked name s past ≡ Some y → is_named y past ≡ true → Never is_typedef y past → Never is_tag y past → Never is_used y past
      → told name y past ≡ Some (stood_for y true)
  first_told s y [] right same e n a b c = absurd cc
  first_told s y (Name t r ∷ past) right same e n a b c = by (y == t) refl n (λ f m. first_told s y past right.1 same f m a.1 b.1 c.1)
    where
      earlier : (y == t) ≡ false → (o : Option ℕ) → linked name s past ≡ o → or_else o (if is_linked name s past t r then Some t else None) ≡ Some y → linked name s past ≡ Some y
      earlier q None p f = own (is_linked name s past t r) f
        where
          own : (b : Bool) → (if b then Some t else None) ≡ Some y → linked name s past ≡ Some y
          own true f = let is : t ≡ y = cc in absurd (false≢true (sym q ∙ eq-eqb y t (sym is)))
          own false f = absurd cc
      earlier q (Some z) p f = p ∙ f

      here : t ≡ y → (l : Bool) → links (is_outermost past) r ≡ l → told_of name past t r ≡ Some (stood_for y true)
      here is true h =
          let own = linked_role past t r right.0 h in
          let first : Some own.found.first ≡ Some y = sym own.first ∙ ap (λ z. linked name z (Name t r ∷ past)) (ap name is ∙ same) ∙ e in
          let one : own.found.first ≡ y = cc in
          told_role past t r (declared_is r (a.0 is) (b.0 is) (c.0 is)) own.found own.seen ∙ ap (λ z. Some (stood_for z true)) one
      here is false h =
          let d = declared_is r (a.0 is) (b.0 is) (c.0 is) in
          told_role past t r d (record { first = t; role = r }) (alone_role past t r d right.0 h) ∙ ap (λ z. Some (stood_for z true)) is

      by : (b : Bool) → (y == t) ≡ b → (b || is_named y past) ≡ true → (linked name s past ≡ Some y → is_named y past ≡ true → told name y past ≡ Some (stood_for y true)) → told name y (Name t r ∷ past) ≡ Some (stood_for y true)
      by true q m rest = ap (λ b. if b then told_of name past t r else told name y past) q ∙ here (sym (eqb-true y t q)) (links (is_outermost past) r) refl
      by false q m rest = ap (λ b. if b then told_of name past t r else told name y past) q ∙ rest (earlier q (linked name s past) refl e) m
  first_told s y (Opens ∷ past) right same e n a b c = first_told s y past right same e n a b c
  first_told s y (Closes ∷ past) right same e n a b c = first_told s y past right same e n a b c
  first_told s y (Member t k ∷ past) right same e n a b c = first_told s y past right same e n a b c
  first_told s y (Node i ∷ past) right same e n a b c = first_told s y past right same e n a b c
