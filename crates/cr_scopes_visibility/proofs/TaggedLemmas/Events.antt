-- What events leave of tags: each that was told stands for one that declares itself, and so does what is in scope.
use Rattle.std.proofs.Common.{◌≡◌, ℕ, zero, suc, ◌+◌, ◌<◌, ◌≤◌, ◌==◌, ◌&&◌, ◌⊎◌, not, Bool, true, false, inl, inr, List, [], ◌∷◌, ◌++◌, Option, None, Some, refl, sym, ap, subst, ◌∙◌, if◌then◌else◌, arith}
use Rattle.std.specs.Option.{is_some}
use Rattle.std.proofs.lemmas.Bool.{false≢true, cases_lt, eqb-true, eq-eqb, and_parts}
use Rattle.std.proofs.lemmas.Option.{same_Some}
use Rattle.cr_tokens.specs.declared.token.Token.{Token}
use Rattle.cr_syntax.specs.declared.node.Node.{Node}
use Rattle.cr_scopes_events.specs.declared.event.Role.{Role}
use Rattle.cr_scopes_events.specs.declared.event.Role.TheVariants as role
use Rattle.cr_scopes_events.specs.declared.event.Event.{Event}
use Rattle.cr_scopes_events.specs.declared.event.Event.TheVariants as event
use Rattle.cr_scopes.specs.declared.told.Told.{Told}
use Rattle.cr_scopes.specs.declared.scope.Space.TheVariants.{Ordinary, Tag}
use Rattle.cr_scopes.specs.declared.scope.Found.{Found}
use Rattle.cr_scopes.specs.declared.scope.Look.{Look}
use Rattle.cr_scopes.specs.Looking.{or_else, stands_in, is_mention, begun, noted, noted_if, look}
use Rattle.cr_scopes.specs.Resolved.{space_of, space_number, declares_by, declares, told_if, told_of, told}
use Rattle.cr_scopes_bindings.specs.Nodes.{tag_at}
use Rattle.cr_scopes_visibility.proofs.ToldLemmas.Events.{onto, onto_append}
use Rattle.cr_scopes_visibility.specs.Tagged.Tagged.{AreTagsApart, AreMarked}

-- ---- roles of tags

stands : (r : Role) → space_of r ≡ Tag → stands_in Tag r ≡ true
stands role.Content e = refl
stands role.Alone e = refl
stands role.Mentioned e = refl
stands r e = let never : Ordinary ≡ Tag = e in absurd cc

begun_first : (name : ℕ → ℕ) (past : List Event) (t : ℕ) (r : Role) → space_of r ≡ Tag → (begun name past t r).first ≡ t
begun_first name past t role.Content e = refl
begun_first name past t role.Alone e = refl
begun_first name past t role.Mentioned e = refl
begun_first name past t r e = let never : Ordinary ≡ Tag = e in absurd cc

-- a tag declares, but for one that is mentioned where one is in scope
declares_unless : (r : Role) (l : Look) → space_of r ≡ Tag → (is_mention r && is_some l.seen) ≡ false → declares_by r l ≡ true
declares_unless role.Content l e h = refl
declares_unless role.Alone l e h = refl
declares_unless role.Mentioned l e h = ap not h
declares_unless r l e h = let never : Ordinary ≡ Tag = e in absurd cc

module _ (tokens : List Token) (nodes : List Node) (apart : AreTagsApart tokens nodes) (name : ℕ → ℕ) where
  abbrev pub Has : ℕ → ℕ → Type 0
  Has j token = tag_at nodes tokens j ≡ Some token

  -- a token is the tag of a node that was told, and declares itself
  pub record IsOwn (done : ℕ → Type 0) (token : ℕ) (past : List Event) : Type 0 where
    pub node : ℕ
    pub tag : Has node token
    pub did : done node
    pub what : Told
    pub is : told name token past ≡ Some what
    pub declares : what.declares ≡ true
    pub first : what.first ≡ token

  abbrev pub IfOwn : (ℕ → Type 0) → List Event → Option Found → Type 0
  IfOwn done past None = Unit {0}
  IfOwn done past (Some f) = IsOwn done f.first past

  pub record StandsForOwn (done : ℕ → Type 0) (token : ℕ) (past : List Event) : Type 0 where
    pub what : Told
    pub is : told name token past ≡ Some what
    pub own : IsOwn done what.first past

  pub record AreOwn (done : ℕ → Type 0) (past : List Event) (l : Look) : Type 0 where
    pub here : IfOwn done past l.here
    pub seen : IfOwn done past l.seen

  -- the tags of the nodes that were told, and all that is in scope
  pub record Holds (done : ℕ → Type 0) (past : List Event) : Type 0 where
    pub stand : (j token : ℕ) → Has j token → done j → StandsForOwn done token past
    pub sights : (s d : ℕ) → AreOwn done past (look name Tag s d past)

  -- ---- of other nodes, or behind other events

  own_moved : (done more : ℕ → Type 0) (past after : List Event) (token : ℕ) → ((j : ℕ) → Has j token → done j → (more j) × (told name token after ≡ told name token past)) → IsOwn done token past → IsOwn more token after
  own_moved done more past after token f h =
      let x = f h.node h.tag h.did in
      record { node = h.node; tag = h.tag; did = x.0; what = h.what; is = x.1 ∙ h.is; declares = h.declares; first = h.first }

  -- what is done stays, and the tokens of what is done are told as before
  record IsKept (done more : ℕ → Type 0) (past after : List Event) : Type 0 where
    kept : (j token : ℕ) → Has j token → done j → (more j) × (told name token after ≡ told name token past)

  if_moved : (done more : ℕ → Type 0) (past after : List Event) → IsKept done more past after → (o : Option Found) → IfOwn done past o → IfOwn more after o
  if_moved done more past after f None h = tt
  if_moved done more past after f (Some x) h = own_moved done more past after x.first (λ j has did. f.kept j x.first has did) h

  both_moved : (done more : ℕ → Type 0) (past after : List Event) → IsKept done more past after → (l : Look) → AreOwn done past l → AreOwn more after l
  both_moved done more past after f l h = record { here = if_moved done more past after f l.here h.here; seen = if_moved done more past after f l.seen h.seen }

  stands_moved : (done more : ℕ → Type 0) (past after : List Event) → IsKept done more past after → (j token : ℕ) → Has j token → done j → StandsForOwn done token past → StandsForOwn more token after
  stands_moved done more past after f j token has did h =
      record { what = h.what; is = (f.kept j token has did).1 ∙ h.is; own = own_moved done more past after h.what.first (λ k own own_did. f.kept k h.what.first own own_did) h.own }

  -- nodes more, that have no tags
  pub widen : (done more : ℕ → Type 0) (past : List Event) → ((j : ℕ) → done j → more j) → ((j token : ℕ) → Has j token → more j → done j) → Holds done past → Holds more past
  widen done more past f g h = record {
    stand = λ j token has did. stands_moved done more past past kept j token has (g j token has did) (h.stand j token has (g j token has did));
    sights = λ s d. both_moved done more past past kept (look name Tag s d past) (h.sights s d);
  }
    where
      kept : IsKept done more past past
      kept = record { kept = λ j token has did. (f j did, refl) }

  -- events that leave what is in scope, and tell no tag of what is done
  pub hidden : (done : ℕ → Type 0) (past after : List Event) → ((j token : ℕ) → Has j token → done j → told name token after ≡ told name token past)
      → ((s d : ℕ) → look name Tag s d after ≡ look name Tag s d past) → Holds done past → Holds done after
  hidden done past after f g h = record {
    stand = λ j token has did. stands_moved done done past after kept j token has did (h.stand j token has did);
    sights = λ s d. subst (AreOwn done after) (sym (g s d)) (both_moved done done past after kept (look name Tag s d past) (h.sights s d));
  }
    where
      kept : IsKept done done past after
      kept = record { kept = λ j token has did. (did, f j token has did) }

  -- ---- events that are no names

  none_kept : (done : ℕ → Type 0) (past after : List Event) → ((token : ℕ) → told name token after ≡ told name token past) → IsKept done done past after
  none_kept done past after f = record { kept = λ j token has did. (did, f token) }

  pub opens_more : (done : ℕ → Type 0) (past : List Event) → Holds done past → Holds done (event.Opens ∷ past)
  opens_more done past h = record {
    stand = λ j token has did. stands_moved done done past (event.Opens ∷ past) kept j token has did (h.stand j token has did);
    sights = λ s d. by s d;
  }
    where
      kept : IsKept done done past (event.Opens ∷ past)
      kept = none_kept done past (event.Opens ∷ past) (λ token. refl)

      by : (s d : ℕ) → AreOwn done (event.Opens ∷ past) (look name Tag s d (event.Opens ∷ past))
      by s zero = record { here = tt; seen = if_moved done done past (event.Opens ∷ past) kept (look name Tag s zero past).seen (h.sights s zero).seen }
      by s (suc d) = both_moved done done past (event.Opens ∷ past) kept (look name Tag s d past) (h.sights s d)

  pub closes_more : (done : ℕ → Type 0) (past : List Event) → Holds done past → Holds done (event.Closes ∷ past)
  closes_more done past h = record {
    stand = λ j token has did. stands_moved done done past (event.Closes ∷ past) kept j token has did (h.stand j token has did);
    sights = λ s d. both_moved done done past (event.Closes ∷ past) kept (look name Tag s (suc d) past) (h.sights s (suc d));
  }
    where
      kept : IsKept done done past (event.Closes ∷ past)
      kept = none_kept done past (event.Closes ∷ past) (λ token. refl)

  pub member_more : (t k : ℕ) (done : ℕ → Type 0) (past : List Event) → Holds done past → Holds done (event.Member t k ∷ past)
  member_more t k done past h = hidden done past (event.Member t k ∷ past) (λ j token has did. refl) same h
    where
      same : (s d : ℕ) → look name Tag s d (event.Member t k ∷ past) ≡ look name Tag s d past
      same s zero = refl
      same s (suc d) = refl

  pub node_more : (i : ℕ) (done : ℕ → Type 0) (past : List Event) → Holds done past → Holds done (event.Node i ∷ past)
  node_more i done past h = hidden done past (event.Node i ∷ past) (λ j token has did. refl) same h
    where
      same : (s d : ℕ) → look name Tag s d (event.Node i ∷ past) ≡ look name Tag s d past
      same s zero = refl
      same s (suc d) = refl

  -- ---- names

  pub told_other : (t : ℕ) (r : Role) (past : List Event) (token : ℕ) → (token ≡ t → ⊥) → told name token (event.Name t r ∷ past) ≡ told name token past
  told_other t r past token other = by (token == t) refl
    where
      by : (b : Bool) → (token == t) ≡ b → (if b then told_of name past t r else told name token past) ≡ told name token past
      by true q = absurd (other (eqb-true token t q))
      by false q = refl

  told_itself : (t : ℕ) (r : Role) (past : List Event) → told name t (event.Name t r ∷ past) ≡ told_of name past t r
  told_itself t r past = ap (λ b. if b then told_of name past t r else told name t past) (eq-eqb t t refl)

  -- one that is no tag
  pub name_more : (t : ℕ) (r : Role) → stands_in Tag r ≡ false → ((j : ℕ) → Has j t → ⊥) → (done : ℕ → Type 0) (past : List Event) → Holds done past → Holds done (event.Name t r ∷ past)
  name_more t r out other done past h = hidden done past (event.Name t r ∷ past) (λ j token has did. told_other t r past token (λ same. other j (has ∙ ap Some same))) same h
    where
      same : (s d : ℕ) → look name Tag s d (event.Name t r ∷ past) ≡ look name Tag s d past
      same s zero = ap (λ b. noted_if (b && (name t == s)) (begun name past t r) (look name Tag s zero past)) out
      same s (suc d) = refl

  -- the tag of a node that wasn't told
  module _ (i t : ℕ) (r : Role) (own : Has i t) (tagged : space_of r ≡ Tag) (done : ℕ → Type 0) (past : List Event) (fresh : done i → ⊥) (h : Holds done past) where
    abbrev more : ℕ → Type 0
    more j = (done j) ⊎ (j ≡ i)

    abbrev after : List Event
    after = event.Name t r ∷ past

    kept : IsKept done more past after
    kept = record { kept = λ j token has did. (inl did, told_other t r past token (λ same. fresh (subst done (apart.tags j i t (has ∙ ap Some same) own) did))) }

    abbrev was : Look
    was = look name Tag (name t) zero past

    abbrev begins : Found
    begins = begun name past t r

    look_is : look name Tag (name t) zero after ≡ noted begins was
    look_is = ap (λ b. noted_if (b && (name t == name t)) begins was) (stands r tagged) ∙ ap (λ b. noted_if b begins was) (eq-eqb (name t) (name t) refl)

    told_with : (b : Bool) (f : Found) → declares name past t r ≡ b → (noted begins was).seen ≡ Some f → told name t after ≡ Some (record { first = f.first; declares = b; space = space_number (space_of r) })
    told_with b f d e =
        told_itself t r past
        ∙ ap (λ sp. told_if (declares name past t r) r (look name sp (name t) zero after).seen) tagged
        ∙ ap (λ l. told_if (declares name past t r) r l.seen) look_is
        ∙ ap (λ o. told_if (declares name past t r) r o) e
        ∙ ap (λ c. told_if c r (Some f)) d

    record Goes : Type 0 where
      itself : StandsForOwn more t after
      sight : AreOwn more after (noted begins was)

    -- one is in scope already
    older : (f : Found) → (noted begins was).seen ≡ Some f → IsOwn done f.first past → AreOwn more after (noted begins was) → Goes
    older f e own_f sight = record {
      itself = record {
        what = record { first = f.first; declares = declares name past t r; space = space_number (space_of r) };
        is = told_with (declares name past t r) f refl e;
        own = own_moved done more past after f.first (λ j has did. kept.kept j f.first has did) own_f;
      };
      sight = sight;
    }

    goes : Goes
    goes = by (is_mention r && is_some was.seen) refl
      where
        Noted : Bool → Look
        Noted b = if b then was else record { here = or_else was.here (Some begins); seen = or_else was.here (Some begins) }

        mentioned : (o : Option Found) → was.seen ≡ o → is_some o ≡ true → noted begins was ≡ was → IfOwn done past o → Goes
        mentioned None e q is g = absurd (false≢true q)
        mentioned (Some f) e q is g = older f (ap (λ (l : Look). l.seen) is ∙ e) g (subst (AreOwn more after) (sym is) (both_moved done more past after kept was (h.sights (name t) zero)))

        seen_of : (a b : Bool) → (a && b) ≡ true → b ≡ true
        seen_of a b q = (and_parts a b q).1

        declared : (o : Option Found) → was.here ≡ o → (is_mention r && is_some was.seen) ≡ false → noted begins was ≡ record { here = or_else was.here (Some begins); seen = or_else was.here (Some begins) } → IfOwn done past o → Goes
        declared (Some f) e q is g =
            let now : noted begins was ≡ record { here = Some f; seen = Some f } = is ∙ ap (λ o. record { here = or_else o (Some begins); seen = or_else o (Some begins) }) e in
            let moved : IsOwn more f.first after = own_moved done more past after f.first (λ j has did. kept.kept j f.first has did) g in
            older f (ap (λ (l : Look). l.seen) now) g (subst (AreOwn more after) (sym now) (record { here = moved; seen = moved }))
        declared None e q is g =
            let now : noted begins was ≡ record { here = Some begins; seen = Some begins } = is ∙ ap (λ o. record { here = or_else o (Some begins); seen = or_else o (Some begins) }) e in
            let first : begins.first ≡ t = begun_first name past t r tagged in
            let known = told_with true begins (declares_unless r was tagged q) (ap (λ (l : Look). l.seen) now) in
            let it : IsOwn more begins.first after = subst (λ x. IsOwn more x after) (sym first)
            (record { node = i; tag = own; did = inr refl; what = record { first = begins.first; declares = true; space = space_number (space_of r) }; is = known; declares = refl; first = first }) in
            record {
              itself = record { what = record { first = begins.first; declares = true; space = space_number (space_of r) }; is = known; own = it };
              sight = subst (AreOwn more after) (sym now) (record { here = it; seen = it });
            }

        by : (b : Bool) → (is_mention r && is_some was.seen) ≡ b → Goes
        by true q = mentioned was.seen refl (seen_of (is_mention r) (is_some was.seen) q) (ap Noted q) (h.sights (name t) zero).seen
        by false q = declared was.here refl q (ap Noted q) (h.sights (name t) zero).here

    pub tag_more : Holds more after
    tag_more = record {
      stand = λ j token has did. by_node j token has did;
      sights = λ s d. by_look s d;
    }
      where
        by_node : (j token : ℕ) → Has j token → more j → StandsForOwn more token after
        by_node j token has (inl did) = stands_moved done more past after kept j token has did (h.stand j token has did)
        by_node j token has (inr same) = subst (λ x. StandsForOwn more x after) (same_Some t token (sym own ∙ ap (tag_at nodes tokens) (sym same) ∙ has)) goes.itself

        by_name : (s : ℕ) (b : Bool) → (name t == s) ≡ b → AreOwn more after (look name Tag s zero after)
        by_name s true q = subst (λ x. AreOwn more after (look name Tag x zero after)) (eqb-true (name t) s q) (subst (AreOwn more after) (sym look_is) goes.sight)
        by_name s false q =
            subst (AreOwn more after) (sym (ap (λ b. noted_if (b && (name t == s)) begins (look name Tag s zero past)) (stands r tagged) ∙ ap (λ b. noted_if b begins (look name Tag s zero past)) q))
            (both_moved done more past after kept (look name Tag s zero past) (h.sights s zero))

        by_look : (s d : ℕ) → AreOwn more after (look name Tag s d after)
        by_look s zero = by_name s (name t == s) refl
        by_look s (suc d) = both_moved done more past after kept (look name Tag s (suc d) past) (h.sights s (suc d))

  -- ---- runs of events

  abbrev Marked : List Event → Type 0
  Marked past = AreMarked tokens nodes past

  -- Events that tell the tags of the nodes from one number to another: these weren't told, what is outside of the innermost scope stays, and
  -- no other tags are told.
  pub record Runs (b : ℕ) (es : List Event) (e : ℕ) : Type 1 where
    pub up : b ≤ e
    pub goes : (done : ℕ → Type 0) (past : List Event) → ((j : ℕ) → b ≤ j → j < e → done j → ⊥) → Holds done past → Holds (λ j. (done j) ⊎ ((b ≤ j) × (j < e))) (onto past es)
    pub level : (past : List Event) (s d : ℕ) → look name Tag s (suc d) (onto past es) ≡ look name Tag s (suc d) past
    pub keeps : (past : List Event) (j token : ℕ) → Has j token → (j < b) ⊎ (e ≤ j) → told name token (onto past es) ≡ told name token past
    pub marks : (past : List Event) → Marked past → Marked (onto past es)

  -- nothing is told of nodes without tags
  pub passing : (b e : ℕ) → b ≤ e → ((j token : ℕ) → b ≤ j → j < e → Has j token → ⊥) → Runs b [] e
  passing b e le none = record {
    up = le;
    goes = λ done past fresh h. widen done (λ j. (done j) ⊎ ((b ≤ j) × (j < e))) past (λ j did. inl did) (back done) h;
    level = λ past s d. refl;
    keeps = λ past j token has out. refl;
    marks = λ past h. h;
  }
    where
      back : (done : ℕ → Type 0) (j token : ℕ) → Has j token → (done j) ⊎ ((b ≤ j) × (j < e)) → done j
      back done j token has (inl did) = did
      back done j token has (inr x) = absurd (none j token x.0 x.1 has)

  pub nothing : (b : ℕ) → Runs b [] b
  nothing b = passing b b (omega arith) (λ j token low high has. absurd (omega (arith, low, high)))

  pub both : (b c d : ℕ) (xs ys : List Event) → Runs b xs c → Runs c ys d → Runs b (xs ++ ys) d
  both b c d xs ys f g = record {
    up = (let x = f.up in let y = g.up in omega (arith, x, y));
    goes = run;
    level = λ past s k. ap (look name Tag s (suc k)) (onto_append past xs ys) ∙ g.level (onto past xs) s k ∙ f.level past s k;
    keeps = λ past j token has out. ap (told name token) (onto_append past xs ys) ∙ g.keeps (onto past xs) j token has (out_right j out) ∙ f.keeps past j token has (out_left j out);
    marks = λ past h. subst Marked (sym (onto_append past xs ys)) (g.marks (onto past xs) (f.marks past h));
  }
    where
      out_left : (j : ℕ) → (j < b) ⊎ (d ≤ j) → (j < b) ⊎ (c ≤ j)
      out_left j (inl x) = inl x
      out_left j (inr x) = let y = g.up in inr (omega (arith, x, y))

      out_right : (j : ℕ) → (j < b) ⊎ (d ≤ j) → (j < c) ⊎ (d ≤ j)
      out_right j (inl x) = let y = f.up in inl (omega (arith, x, y))
      out_right j (inr x) = inr x

      run : (done : ℕ → Type 0) (past : List Event) → ((j : ℕ) → b ≤ j → j < d → done j → ⊥) → Holds done past → Holds (λ j. (done j) ⊎ ((b ≤ j) × (j < d))) (onto past (xs ++ ys))
      run done past fresh h =
          subst (Holds (λ j. (done j) ⊎ ((b ≤ j) × (j < d)))) (sym (onto_append past xs ys))
          (widen twice (λ j. (done j) ⊎ ((b ≤ j) × (j < d))) (onto (onto past xs) ys) forth (λ j token has x. back j x)
          (g.goes once (onto past xs) second (f.goes done past first h)))
        where
          once : ℕ → Type 0
          once j = (done j) ⊎ ((b ≤ j) × (j < c))

          twice : ℕ → Type 0
          twice j = (once j) ⊎ ((c ≤ j) × (j < d))

          first : (j : ℕ) → b ≤ j → j < c → done j → ⊥
          first j low high did = let y = g.up in fresh j low (omega (arith, high, y)) did

          second : (j : ℕ) → c ≤ j → j < d → once j → ⊥
          second j low high (inl did) = let y = f.up in fresh j (omega (arith, low, y)) high did
          second j low high (inr x) = let y = x.1 in omega (arith, low, y)

          forth : (j : ℕ) → twice j → (done j) ⊎ ((b ≤ j) × (j < d))
          forth j (inl (inl did)) = inl did
          forth j (inl (inr x)) = let low = x.0 in let high = x.1 in let y = g.up in inr (low, omega (arith, high, y))
          forth j (inr x) = let low = x.0 in let high = x.1 in let y = f.up in inr (omega (arith, low, y), high)

          back : (j : ℕ) → (done j) ⊎ ((b ≤ j) × (j < d)) → twice j
          back j (inl did) = inl (inl did)
          back j (inr x) = elim (cases_lt j c) [ inl less ↦ inl (inr (x.0, less)) | inr ge ↦ inr (ge, x.1) ]

  -- ---- scopes

  abbrev pub scoped : List Event → List Event
  scoped es = event.Opens ∷ (es ++ event.Closes ∷ [])

  scoped_is : (past es : List Event) → onto past (scoped es) ≡ event.Closes ∷ onto (event.Opens ∷ past) es
  scoped_is past es = onto_append (event.Opens ∷ past) es (event.Closes ∷ [])

  -- what is in scope stays
  pub scope_level : (es : List Event) → ((past : List Event) (s d : ℕ) → look name Tag s (suc d) (onto past es) ≡ look name Tag s (suc d) past) → (past : List Event) (s d : ℕ)
      → look name Tag s d (onto past (scoped es)) ≡ look name Tag s d past
  scope_level es level past s d = ap (look name Tag s d) (scoped_is past es) ∙ level (event.Opens ∷ past) s d

  pub scope_keeps : (es past : List Event) (token : ℕ) → told name token (onto (event.Opens ∷ past) es) ≡ told name token (event.Opens ∷ past) → told name token (onto past (scoped es)) ≡ told name token past
  scope_keeps es past token h = ap (told name token) (scoped_is past es) ∙ h

  pub scope_marks : (es : List Event) → ((past : List Event) → Marked past → Marked (onto past es)) → (past : List Event) → Marked past → Marked (onto past (scoped es))
  scope_marks es f past h = subst Marked (sym (scoped_is past es)) (f (event.Opens ∷ past) h)

  pub scope : (b e : ℕ) (es : List Event) → Runs b es e → Runs b (scoped es) e
  scope b e es f = record {
    up = f.up;
    goes = λ done past fresh h.
        subst (Holds (λ j. (done j) ⊎ ((b ≤ j) × (j < e)))) (sym (scoped_is past es))
        (closes_more (λ j. (done j) ⊎ ((b ≤ j) × (j < e))) (onto (event.Opens ∷ past) es) (f.goes done (event.Opens ∷ past) fresh (opens_more done past h)));
    level = λ past s d. scope_level es f.level past s (suc d);
    keeps = λ past j token has out. scope_keeps es past token (f.keeps (event.Opens ∷ past) j token has out);
    marks = λ past h. scope_marks es f.marks past h;
  }

  -- a scope whose tags are to be told again
  pub forgotten : (b e : ℕ) (es : List Event) → Runs b es e → (done : ℕ → Type 0) (past : List Event) → ((j : ℕ) → b ≤ j → j < e → done j → ⊥) → Holds done past → Holds done (onto past (scoped es))
  forgotten b e es f done past fresh h =
      hidden done past (onto past (scoped es)) (λ j token has did. scope_keeps es past token (f.keeps (event.Opens ∷ past) j token has (out j did))) (scope_level es f.level past) h
    where
      out : (j : ℕ) → done j → (j < b) ⊎ (e ≤ j)
      out j did = elim (cases_lt j b) [ inl less ↦ inl less | inr ge ↦ elim (cases_lt j e) [ inl high ↦ absurd (fresh j ge high did) | inr more ↦ inr more ] ]

  -- ---- single events

  -- a name that is no tag
  pub a_name : (b t : ℕ) (r : Role) → stands_in Tag r ≡ false → ((j : ℕ) → Has j t → ⊥) → Runs b (event.Name t r ∷ []) b
  a_name b t r out other = record {
    up = omega arith;
    goes = λ done past fresh h. widen done (λ j. (done j) ⊎ ((b ≤ j) × (j < b))) (event.Name t r ∷ past) (λ j did. inl did) (λ j token has x. back done j x) (name_more t r out other done past h);
    level = λ past s d. refl;
    keeps = λ past j token has o. told_other t r past token (λ same. other j (has ∙ ap Some same));
    marks = λ past h. (record { tag = λ e. absurd (false≢true (sym out ∙ e)); other = λ e x. other x.node x.tag }, h);
  }
    where
      back : (done : ℕ → Type 0) (j : ℕ) → (done j) ⊎ ((b ≤ j) × (j < b)) → done j
      back done j (inl did) = did
      back done j (inr x) = let low = x.0 in let high = x.1 in absurd (omega (arith, low, high))

  pub a_member : (b t k : ℕ) → Runs b (event.Member t k ∷ []) b
  a_member b t k = record {
    up = omega arith;
    goes = λ done past fresh h. widen done (λ j. (done j) ⊎ ((b ≤ j) × (j < b))) (event.Member t k ∷ past) (λ j did. inl did) (λ j token has x. back done j x) (member_more t k done past h);
    level = λ past s d. refl;
    keeps = λ past j token has o. refl;
    marks = λ past h. h;
  }
    where
      back : (done : ℕ → Type 0) (j : ℕ) → (done j) ⊎ ((b ≤ j) × (j < b)) → done j
      back done j (inl did) = did
      back done j (inr x) = let low = x.0 in let high = x.1 in absurd (omega (arith, low, high))

  -- the walk comes to a node
  pub behind_node : (i b e : ℕ) (es : List Event) → Runs b es e → Runs b (event.Node i ∷ es) e
  behind_node i b e es f = record {
    up = f.up;
    goes = λ done past fresh h. f.goes done (event.Node i ∷ past) fresh (node_more i done past h);
    level = λ past s d. f.level (event.Node i ∷ past) s d;
    keeps = λ past j token has out. f.keeps (event.Node i ∷ past) j token has out;
    marks = λ past h. f.marks (event.Node i ∷ past) h;
  }

  -- the tag of a node, and then what stands below the node
  pub a_tag : (b i t : ℕ) (r : Role) (es : List Event) → Has i t → space_of r ≡ Tag → Runs b es i → Runs b (event.Name t r ∷ es) (i + 1)
  a_tag b i t r es own tagged f = record {
    up = (let x = f.up in omega (arith, x));
    goes = run;
    level = λ past s d. f.level (event.Name t r ∷ past) s d;
    keeps = λ past j token has out.
        f.keeps (event.Name t r ∷ past) j token has (out_below j out)
        ∙ told_other t r past token (λ same. (let one : j ≡ i = apart.tags j i t (has ∙ ap Some same) own in out_own j one out));
    marks = λ past h. f.marks (event.Name t r ∷ past) (record { tag = λ e. record { node = i; tag = own }; other = λ e x. false≢true (sym e ∙ stands r tagged) }, h);
  }
    where
      out_below : (j : ℕ) → (j < b) ⊎ (i + 1 ≤ j) → (j < b) ⊎ (i ≤ j)
      out_below j (inl x) = inl x
      out_below j (inr x) = inr (omega (arith, x))

      out_own : (j : ℕ) → j ≡ i → (j < b) ⊎ (i + 1 ≤ j) → ⊥
      out_own j one (inl x) = let y = f.up in omega (arith, one, x, y)
      out_own j one (inr x) = omega (arith, one, x)

      run : (done : ℕ → Type 0) (past : List Event) → ((j : ℕ) → b ≤ j → j < i + 1 → done j → ⊥) → Holds done past → Holds (λ j. (done j) ⊎ ((b ≤ j) × (j < i + 1))) (onto (event.Name t r ∷ past) es)
      run done past fresh h =
          widen twice (λ j. (done j) ⊎ ((b ≤ j) × (j < i + 1))) (onto (event.Name t r ∷ past) es) forth (λ j token has x. back j x)
          (f.goes once (event.Name t r ∷ past) second (tag_more i t r own tagged done past (fresh i f.up (omega arith)) h))
        where
          once : ℕ → Type 0
          once j = (done j) ⊎ (j ≡ i)

          twice : ℕ → Type 0
          twice j = (once j) ⊎ ((b ≤ j) × (j < i))

          second : (j : ℕ) → b ≤ j → j < i → once j → ⊥
          second j low high (inl did) = fresh j low (omega (arith, high)) did
          second j low high (inr same) = omega (arith, same, high)

          forth : (j : ℕ) → twice j → (done j) ⊎ ((b ≤ j) × (j < i + 1))
          forth j (inl (inl did)) = inl did
          forth j (inl (inr same)) = let y = f.up in inr (omega (arith, same, y), omega (arith, same))
          forth j (inr x) = let high = x.1 in inr (x.0, omega (arith, high))

          back : (j : ℕ) → (done j) ⊎ ((b ≤ j) × (j < i + 1)) → twice j
          back j (inl did) = inl (inl did)
          back j (inr x) = let high = x.1 in elim (cases_lt j i) [ inl less ↦ inr (x.0, less) | inr ge ↦ inl (inr (omega (arith, ge, high))) ]

  pub at_first : Holds (λ j. ⊥) []
  at_first = record { stand = λ j token has did. absurd did; sights = λ s d. by s d }
    where
      by : (s d : ℕ) → AreOwn (λ j. ⊥) [] (look name Tag s d [])
      by s zero = record { here = tt; seen = tt }
      by s (suc d) = record { here = tt; seen = tt }
