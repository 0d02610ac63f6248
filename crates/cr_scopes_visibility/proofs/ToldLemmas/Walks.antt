-- Each node tells the nodes below it and then itself: so what it tells goes from the first of them to behind the node.
use Rattle.std.proofs.Common.{◌≡◌, ℕ, zero, suc, ◌+◌, ◌-◌, ◌<◌, ◌≤◌, ◌⊎◌, inl, inr, Bool, true, false, List, [], ◌∷◌, ◌++◌, Option, None, Some, length, take, drop, nat_lt, ◌||◌, slice_get, refl, sym, ap, subst, ◌∙◌, if◌then◌else◌, arith}
use Rattle.std.specs.List.{flat_map}
use Rattle.std.proofs.lemmas.Bool.{false≢true, eq-eqb, lt-ltb}
use Rattle.std.proofs.lemmas.Option.{slice_get_within, same_Some}
use Rattle.cr_tokens.specs.declared.token.Token.{Token}
use Rattle.cr_syntax.specs.declared.node.Kind.{Kind}
use Rattle.cr_syntax.specs.declared.node.Kind.TheVariants as kind
use Rattle.cr_syntax.specs.declared.node.Node.{Node}
use Rattle.cr_syntax_order.specs.Listed.{AreListed, no_node, one_more}
use Rattle.cr_scopes.specs.declared.scope.Space.TheVariants.{Ordinary}
use Rattle.cr_scopes.specs.Looking.{stands_in}
use Rattle.cr_scopes_bindings.specs.Nodes.{named_by, named_if, name_at}
use Rattle.cr_scopes_bindings.specs.Visible.{is_named}
use Rattle.cr_scopes_events.specs.declared.event.Role.{Role}
use Rattle.cr_scopes_events.specs.declared.event.Role.TheVariants as role
use Rattle.cr_scopes_events.specs.declared.event.Event.{Event}
use Rattle.cr_scopes_events.specs.declared.event.Event.TheVariants as event
use Rattle.cr_scopes_events.specs.declared.event.Step.{Step}
use Rattle.cr_scopes_events.specs.declared.event.Step.TheVariants.{Happens, Inside}
use Rattle.cr_scopes_events.specs.declared.naming.Naming.{Naming}
use Rattle.cr_scopes_events.specs.declared.naming.Naming.TheVariants.{Parameters, Members, Declared}
use Rattle.cr_scopes_events.specs.declared.declarator.Derivation.{Derivation}
use Rattle.cr_scopes_events.specs.declared.declarator.Derivation.TheVariants as derivation
use Rattle.cr_scopes_events.specs.declared.declarator.Declarator.{Declarator}
use Rattle.cr_scopes_events.specs.Values.{before}
use Rattle.cr_scopes_events.specs.Declarators.{nowhere, declared_by, declared_if, declarator_of}
use Rattle.cr_scopes_events.specs.Scripts.{kind_if, kind_at, first_if, parts_if, parts_at, inside, in_scope, in_scopes, block, storage_of, role_by, event_by, named, declarator_in, initialised, declares, declaration_in, is_identifier, tag_event, content_tag, lone_tag, lone_specifiers, declaration, list_of, own_parameters, items_of, members_of, definition, script_by, script_if, script_of}
use Rattle.cr_scopes_events.specs.Events.{events_by, events_at, events_of}
use Rattle.cr_scopes_events.proofs.Walks.{events_ruled, inside_events}
use Rattle.cr_scopes_events.proofs.Descents.{declarator_ruled}
use Rattle.cr_scopes_visibility.specs.Sight.Scopes.{is_using, is_tagging}
use Rattle.cr_scopes_visibility.specs.Told.Told.{is_declaration, is_leaf, IsHeld, IsDeclarator, IsEnumerator, IsTold, AreApart}
use Rattle.cr_scopes_visibility.specs.Told.Laws
use Rattle.cr_scopes_visibility.proofs.ToldLemmas.Events.{onto, Holds, at_first, name_more, opens_more, closes_more, node_more, member_more, use_more, further, all_came}
use Rattle.cr_scopes_visibility.proofs.ToldLemmas.Steps as steps
use Rattle.cr_scopes_visibility.proofs.ToldLemmas.Steps.{Goes, over, Runs}
use Rattle.cr_scopes_visibility.proofs.ToldLemmas.Again.{AreAgain, EachAgain, told_again, later_onto, list_told, again_holds}

-- ---- nodes that are listed

pub listed_up : (nodes : List Node) (b e : ℕ) (ps : List ℕ) → AreListed nodes b ps e → b ≤ e
listed_up nodes b e [] no_node = omega arith
listed_up nodes b e (p ∷ ps) (one_more {n = n} at own rest) = let low = listed_up nodes b p n.parts own in let high = listed_up nodes (p + 1) e ps rest in omega (arith, low, high)

-- a row in two
pub record AreSplit (nodes : List Node) (b e : ℕ) (ps qs : List ℕ) : Type 0 where
  pub middle : ℕ
  pub first : AreListed nodes b ps middle
  pub second : AreListed nodes middle qs e

pub split : (nodes : List Node) (m b e : ℕ) (ps : List ℕ) → AreListed nodes b ps e → AreSplit nodes b e (take m ps) (drop m ps)
split nodes zero b e ps h = record { middle = b; first = no_node; second = h }
split nodes (suc m) b e [] no_node = record { middle = b; first = no_node; second = no_node }
split nodes (suc m) b e (p ∷ ps) (one_more at own rest) = let x = split nodes m (p + 1) e ps rest in record { middle = x.middle; first = one_more at own x.first; second = x.second }

pub none_listed : (nodes : List Node) (b e : ℕ) (ps : List ℕ) → ps ≡ [] → AreListed nodes b ps e → b ≡ e
none_listed nodes b e [] q no_node = refl
none_listed nodes b e (p ∷ ps) q h = absurd cc

-- ---- names

-- what a part of a declarator names, it declares
pub name_is : (nodes : List Node) (q token : ℕ) → (declarator_of nodes q).name ≡ Some token → name_at nodes q ≡ Some token
name_is nodes q token e = by (slice_get nodes q) refl
  where
    nameless : declarator_of nodes q ≡ nowhere → ⊥
    nameless f = let never : None ≡ Some token = sym (ap (λ (d : Declarator). d.name) f) ∙ e in cc

    by_kind : (m : Node) → slice_get nodes q ≡ Some m → (k : Kind) → m.kind ≡ k → named_by k m.first (declarator_of nodes q).name ≡ Some token
    by_kind m at kind.Enumerator f =
        absurd (nameless (declarator_ruled nodes q ∙ ap (λ o. declared_if o (before nowhere q (declarator_of nodes)) q) at ∙ ap (λ (k : Kind). declared_by k (before nowhere q (declarator_of nodes)) q m) f))
    by_kind m at k f = e

    by : (o : Option Node) → slice_get nodes q ≡ o → named_if o (declarator_of nodes q).name ≡ Some token
    by None at = absurd (nameless (declarator_ruled nodes q ∙ ap (λ o. declared_if o (before nowhere q (declarator_of nodes)) q) at))
    by (Some m) at = by_kind m at m.kind refl

tag_unordinary : (r : Role) → (r ≡ role.Content) ⊎ ((r ≡ role.Alone) ⊎ (r ≡ role.Mentioned)) → stands_in Ordinary r ≡ false
tag_unordinary r (inl e) = ap (stands_in Ordinary) e
tag_unordinary r (inr (inl e)) = ap (stands_in Ordinary) e
tag_unordinary r (inr (inr e)) = ap (stands_in Ordinary) e

module _ (nodes : List Node) (apart : AreApart nodes) (tokens : List Token) where
  abbrev Row : ℕ → List ℕ → ℕ → Type 0
  Row b ps e = AreListed nodes b ps e

  -- a node leads from the first node below it to behind itself
  abbrev IsFollowed : ℕ → Type 0
  IsFollowed i = (m : Node) → slice_get nodes i ≡ Some m → (b : ℕ) → Row b m.parts i → Goes nodes apart b (events_at tokens nodes i) (i + 1)

  module _ (i : ℕ) (followed : (k : ℕ) → k < i → IsFollowed k) where
    abbrev at : ℕ → List Event
    at = before [] i (events_at tokens nodes)

    abbrev Leads : ℕ → List Step → ℕ → Type 0
    Leads b xs e = Runs nodes apart at b xs e

    abbrev after : List Event → List Step → List Event
    after past xs = over nodes apart at past xs

    -- ---- parts

    inner : (p : ℕ) (m : Node) (b : ℕ) → slice_get nodes p ≡ Some m → Row b m.parts p → p < i → Leads b (Inside p ∷ []) (p + 1)
    inner p m b here own low past h = by (nat_lt p i) (lt-ltb p i low)
      where
        by : (c : Bool) → c ≡ true → Holds nodes apart (onto past (if c then events_at tokens nodes p else [])) (p + 1)
        by true q = followed p low m here b own past h
        by false q = absurd (false≢true q)

    -- the node itself isn't told, and uses no name
    passed : (p : ℕ) → ((m : Node) → slice_get nodes p ≡ Some m → is_using m.kind ≡ false) → Leads p [] (p + 1)
    passed p plain past h = further nodes apart p past (λ m u. absurd (false≢true (sym (plain m u.0) ∙ u.1))) h

    abbrev Each : (ℕ → List Step) → List ℕ → Type 0
    Each f ps = (k p : ℕ) → slice_get ps k ≡ Some p → (m : Node) → slice_get nodes p ≡ Some m → (b : ℕ) → Row b m.parts p → p < i → Leads b (f p) (p + 1)

    each : (f : ℕ → List Step) (b e : ℕ) (ps : List ℕ) → Row b ps e → e ≤ i → Each f ps → Leads b (flat_map f ps) e
    each f b e [] no_node le g = λ past h. h
    each f b e (p ∷ ps) (one_more {n = n} here own rest) le g =
        let high = listed_up nodes (p + 1) e ps rest in
        steps.both nodes apart at b (p + 1) e (f p) (flat_map f ps) (g 0 p refl n here b own (omega (arith, high, le))) (each f (p + 1) e ps rest le (λ k q x. g (suc k) q x))

    through : (b e : ℕ) (ps : List ℕ) → Row b ps e → e ≤ i → Leads b (inside ps) e
    through b e ps h le = each (λ p. Inside p ∷ []) b e ps h le (λ k p x m here c own low. inner p m c here own low)

    scopes : (b e : ℕ) (ps : List ℕ) → Row b ps e → e ≤ i → Leads b (in_scopes ps) e
    scopes b e ps h le = each (λ p. in_scope (Inside p ∷ [])) b e ps h le (λ k p x m here c own low. steps.scope nodes apart at c (p + 1) (Inside p ∷ []) (inner p m c here own low))

    both : (b c d : ℕ) (xs ys : List Step) → Leads b xs c → Leads c ys d → Leads b (xs ++ ys) d
    both b c d xs ys f g = steps.both nodes apart at b c d xs ys f g

    blocks : (b c d e : ℕ) (xs ys zs : List ℕ) → Row b xs c → Row c ys d → Row d zs e → e ≤ i → Leads b (block xs ys zs) e
    blocks b c d e xs ys zs f g h le =
        let two = listed_up nodes c d ys g in
        let three = listed_up nodes d e zs h in
        steps.scope nodes apart at b e (inside xs ++ in_scopes ys ++ inside zs)
        (both b d e (inside xs ++ in_scopes ys) (inside zs) (both b c d (inside xs) (in_scopes ys) (through b c xs f (omega (arith, two, three, le))) (scopes c d ys g (omega (arith, three, le)))) (through d e zs h le))

    -- ---- names

    -- what a tag tells is no use
    a_tag : (b p : ℕ) (m : Node) → slice_get nodes p ≡ Some m → is_tagging m.kind ≡ true → (r : Role) → (r ≡ role.Content) ⊎ ((r ≡ role.Alone) ⊎ (r ≡ role.Mentioned)) → (c : Bool)
        → Leads b (tag_event r (m.first + 1) c) b
    a_tag b p m here tagged r is false past h = h
    a_tag b p m here tagged r is true past h =
        name_more nodes apart (m.first + 1) r past b (λ j n u same fresh. absurd (apart.tags p j m n here u.0 tagged u.1 (sym same)))
        (λ e fresh. absurd (false≢true (sym (tag_unordinary r is) ∙ e))) h

    -- the declarators that stand here, but for those of members
    abbrev May : Naming → ℕ → Type 0
    May Parameters p = IsDeclarator nodes p
    May (Members structure) p = Unit {0}
    May (Declared storage) p = IsDeclarator nodes p

    ordinary_name : (q token : ℕ) (r : Role) → IsDeclarator nodes q → (declarator_of nodes q).name ≡ Some token → Leads (q + 1) (Happens (event.Name token r) ∷ []) (q + 1)
    ordinary_name q token r own e past h =
        name_more nodes apart token r past (q + 1) (λ j n u same fresh. absurd (apart.declared q j n (name_is nodes q token e ∙ ap Some (sym same)) u.0 u.1))
        (λ x fresh. record { declarer = q; names = name_is nodes q token e; below = omega arith; last = λ p less f. apart.wholes q p token own (name_is nodes q token e) less f; stands = inl own }) h

    one_name : (way : Naming) (q : ℕ) → May way q → (o : Option ℕ) → (declarator_of nodes q).name ≡ o → (next : Derivation)
        → Leads (q + 1) (elim o [ None ↦ [] | Some name ↦ Happens (event_by way next name) ∷ [] ]) (q + 1)
    one_name way q own None e next = λ past h. h
    one_name Parameters q own (Some token) e next = ordinary_name q token role.Parameter own e
    one_name (Members structure) q own (Some token) e next = λ past h. member_more nodes apart token structure past (q + 1) h
    one_name (Declared storage) q own (Some token) e next = ordinary_name q token (role_by storage next) own e

    named_alone : (way : Naming) (q : ℕ) → May way q → Leads (q + 1) (named way (declarator_of nodes q)) (q + 1)
    named_alone way q own = one_name way q own (declarator_of nodes q).name refl (declarator_of nodes q).next

    declarator : (way : Naming) (q : ℕ) (m : Node) (b : ℕ) → slice_get nodes q ≡ Some m → Row b m.parts q → q < i → May way q → Leads b (declarator_in way nodes q) (q + 1)
    declarator way q m b here own low may = both b (q + 1) (q + 1) (Inside q ∷ []) (named way (declarator_of nodes q)) (inner q m b here own low) (named_alone way q may)

    -- ---- declarations

    abbrev MayHold : Naming → ℕ → Type 0
    MayHold Parameters p = IsHeld nodes p
    MayHold (Members structure) p = Unit {0}
    MayHold (Declared storage) p = IsHeld nodes p

    may_alone : (way : Naming) (p : ℕ) → MayHold way p → May way p
    may_alone Parameters p h = inl h
    may_alone (Members structure) p h = tt
    may_alone (Declared storage) p h = inl h

    may_inside : (way : Naming) (p q : ℕ) (m : Node) → slice_get nodes p ≡ Some m → m.kind ≡ kind.InitDeclarator → slice_get m.parts 0 ≡ Some q → MayHold way p → May way q
    may_inside Parameters p q m here is e h = inr (record { outer = p; node = m; at = here; initialises = is; is = e; held = h })
    may_inside (Members structure) p q m here is e h = tt
    may_inside (Declared storage) p q m here is e h = inr (record { outer = p; node = m; at = here; initialises = is; is = e; held = h })

    parts_are : (p : ℕ) (m : Node) → slice_get nodes p ≡ Some m → parts_at nodes p ≡ m.parts
    parts_are p m here = ap parts_if here

    first_only : (ps : List ℕ) (k p : ℕ) → slice_get (take 1 ps) k ≡ Some p → slice_get ps 0 ≡ Some p
    first_only [] k p e = absurd cc
    first_only (q ∷ ps) zero p e = e
    first_only (q ∷ ps) (suc k) p e = absurd cc

    with_initialiser : (way : Naming) (p : ℕ) (m : Node) (b : ℕ) → slice_get nodes p ≡ Some m → m.kind ≡ kind.InitDeclarator → Row b m.parts p → p < i → MayHold way p
        → Leads b (initialised way nodes (parts_at nodes p)) (p + 1)
    with_initialiser way p m b here is own low may past h =
        let x = split nodes 1 b p m.parts own in
        let high = listed_up nodes x.middle p (drop 1 m.parts) x.second in
        let run : Leads b (initialised way nodes m.parts) p =
        both b x.middle p (flat_map (declarator_in way nodes) (take 1 m.parts)) (inside (drop 1 m.parts))
        (each (declarator_in way nodes) b x.middle (take 1 m.parts) x.first (omega (arith, high, low))
        (λ k q e y there c inner_row less. declarator way q y c there inner_row less (may_inside way p q m here is (first_only m.parts k q e) may)))
        (through x.middle p (drop 1 m.parts) x.second (omega (arith, low))) in
        subst (λ ps. Holds nodes apart (after past (initialised way nodes ps)) (p + 1)) (sym (parts_are p m here))
        (passed p (λ y there. plain y there) (after past (initialised way nodes m.parts)) (run past h))
      where
        plain : (y : Node) → slice_get nodes p ≡ Some y → is_using y.kind ≡ false
        plain y there = let same : y ≡ m = same_Some y m (sym there ∙ here) in ap (λ (z : Node). is_using z.kind) same ∙ ap is_using is

    declared : (way : Naming) (p : ℕ) (m : Node) (b : ℕ) → slice_get nodes p ≡ Some m → Row b m.parts p → p < i → MayHold way p → Leads b (declares way nodes p (kind_at nodes p)) (p + 1)
    declared way p m b here own low may = subst (λ o. Leads b (declares way nodes p (kind_if o)) (p + 1)) (sym here) (by m.kind refl)
      where
        by : (k : Kind) → m.kind ≡ k → Leads b (declares way nodes p (Some k)) (p + 1)
        by kind.InitDeclarator e = with_initialiser way p m b here e own low may
        by k e = declarator way p m b here own low (may_alone way p may)

    declaration_leads : (way : Naming) (b e : ℕ) (ps : List ℕ) → Row b ps e → e ≤ i → ((k p : ℕ) → slice_get ps (suc k) ≡ Some p → MayHold way p) → Leads b (declaration_in way nodes ps) e
    declaration_leads way b e [] h le may = λ past g. subst (λ x. Holds nodes apart past x) (none_listed nodes b e [] refl h) g
    declaration_leads way b e (s ∷ ps) h le may =
        let x = split nodes 1 b e (s ∷ ps) h in
        let high = listed_up nodes x.middle e ps x.second in
        both b x.middle e (inside (s ∷ [])) (flat_map (λ p. declares way nodes p (kind_at nodes p)) ps) (through b x.middle (s ∷ []) x.first (omega (arith, high, le)))
        (each (λ p. declares way nodes p (kind_at nodes p)) x.middle e ps x.second le (λ k p q m here c own low. declared way p m c here own low (may k p q)))

    -- ---- this node

    module _ (m : Node) (here : slice_get nodes i ≡ Some m) where
      -- where it uses no name
      ends_plain : (b : ℕ) (xs : List Step) → is_using m.kind ≡ false → Leads b xs i → Leads b xs (i + 1)
      ends_plain b xs plain f past h = further nodes apart i (after past xs) (λ n u. absurd (false≢true (sym (ap (λ (z : Node). is_using z.kind) (same_Some n m (sym u.0 ∙ here)) ∙ plain) ∙ u.1))) (f past h)

      -- and where it does
      ends_use : (b : ℕ) (xs : List Step) → b ≤ i → is_using m.kind ≡ true → Leads b xs i → Leads b (Happens (event.Name m.first role.Used) ∷ xs) (i + 1)
      ends_use b xs le used f past h =
          let next = use_more nodes apart i m past b (here, used) le h in
          further nodes apart i (after (event.Name m.first role.Used ∷ past) xs) (λ n u. told n u.0) (f (event.Name m.first role.Used ∷ past) next)
        where
          now : is_named m.first (event.Name m.first role.Used ∷ past) ≡ true
          now = (λ j. eq-eqb m.first m.first refl j || is_named m.first past)

          told : (n : Node) → slice_get nodes i ≡ Some n → is_named n.first (after (event.Name m.first role.Used ∷ past) xs) ≡ true
          told n there =
              let same : n ≡ m = same_Some n m (sym there ∙ here) in
              ap (λ (z : Node). is_named z.first (after (event.Name m.first role.Used ∷ past) xs)) same
              ∙ steps.named_over nodes apart at m.first (event.Name m.first role.Used ∷ past) xs now

      held : is_declaration m.kind ≡ true → (k p : ℕ) → slice_get m.parts k ≡ Some p → IsHeld nodes p
      held declares k p e = record { declaration = i; node = m; at = here; declares = declares; place = k; is = e }

      taken_is : (j : ℕ) (ps : List ℕ) (k p : ℕ) → slice_get (take j ps) k ≡ Some p → slice_get ps k ≡ Some p
      taken_is zero ps k p e = absurd cc
      taken_is (suc j) [] k p e = absurd cc
      taken_is (suc j) (q ∷ ps) zero p e = e
      taken_is (suc j) (q ∷ ps) (suc k) p e = taken_is j ps k p e

      module _ (b : ℕ) (own : Row b m.parts i) where
        up : b ≤ i
        up = listed_up nodes b i m.parts own

        -- ---- definitions

        abbrev way : List ℕ → Naming
        way ps = Declared (storage_of nodes ps)

        both_at : (past : List Event) (e : ℕ) (xs ys : List Step) → Holds nodes apart (after (after past xs) ys) e → Holds nodes apart (after past (xs ++ ys)) e
        both_at past e xs ys h = subst (λ es. Holds nodes apart es e) (sym (steps.over_append nodes apart at past xs ys)) h

        scope_at : (past : List Event) (e : ℕ) (xs : List Step) → Holds nodes apart (after (event.Opens ∷ past) xs) e → Holds nodes apart (after past (in_scope xs)) e
        scope_at past e xs h = both_at (event.Opens ∷ past) e xs (Happens event.Closes ∷ []) (closes_more nodes apart (after (event.Opens ∷ past) xs) e h)

        abbrev AllAgain : List Event → List ℕ → Type 0
        AllAgain past ps = EachAgain nodes apart tokens past ps

        later_each : (past xs : List Event) (ps : List ℕ) → AllAgain past ps → AllAgain (onto past xs) ps
        later_each past xs ps h k p e = later_onto past xs (events_at tokens nodes p) (h k p e)

        later_steps : (past : List Event) (xs : List Step) (ps : List ℕ) → AllAgain past ps → AllAgain (after past xs) ps
        later_steps past xs ps h = subst (λ es. AllAgain es ps) (steps.over_is nodes apart at past xs) (later_each past (flat_map (events_by at) xs) ps h)

        -- what is told again
        again_leads : (past : List Event) (e : ℕ) (ps : List ℕ) → AllAgain past ps → Holds nodes apart past e → Holds nodes apart (after past (inside ps)) e
        again_leads past e [] again h = h
        again_leads past e (p ∷ ps) again h = by (nat_lt p i) (λ es f. again_leads (onto past es) e ps (later_each past es ps (λ k q x. again (suc k) q x)) f)
          where
            by : (c : Bool) → ((es : List Event) → Holds nodes apart (onto past es) e → Holds nodes apart (after (onto past es) (inside ps)) e)
                → Holds nodes apart (after (onto past (if c then events_at tokens nodes p else [])) (inside ps)) e
            by true rest = rest (events_at tokens nodes p) (again_holds nodes apart tokens past (events_at tokens nodes p) e (again 0 p refl) h)
            by false rest = rest [] h

        -- the list of a definition's own function has been told with its declarator
        list_again : (past : List Event) (q : ℕ) → AreAgain past (events_at tokens nodes q) → AllAgain past (list_of nodes (declarator_of nodes q).next)
        list_again past q told = by (declarator_of nodes q).next refl
          where
            by : (d : Derivation) → (declarator_of nodes q).next ≡ d → AllAgain past (list_of nodes d)
            by (derivation.Function l) e = list_told nodes apart tokens q past told l e
            by derivation.Nothing e = λ k p f. absurd cc
            by derivation.Other e = λ k p f. absurd cc

        declares_again : (style : Naming) (past : List Event) (q : ℕ) (x : Node) → slice_get nodes q ≡ Some x → q < i → (k : Kind) → x.kind ≡ k
            → AllAgain (after past (declares style nodes q (Some k))) (list_of nodes (declarator_of nodes q).next)
        declares_again style past q x there low kind.InitDeclarator e =
            subst (λ (d : Declarator). AllAgain (after past (declares style nodes q (Some kind.InitDeclarator))) (list_of nodes d.next))
            (sym (declarator_ruled nodes q ∙ ap (λ o. declared_if o (before nowhere q (declarator_of nodes)) q) there ∙ ap (λ (k : Kind). declared_by k (before nowhere q (declarator_of nodes)) q x) e))
            (λ k p f. absurd cc)
        declares_again style past q x there low k e =
            later_steps (onto past (at q)) (named style (declarator_of nodes q)) (list_of nodes (declarator_of nodes q).next) (list_again (onto past (at q)) q now)
          where
            now : AreAgain (onto past (at q)) (events_at tokens nodes q)
            now = subst (λ c. AreAgain (onto past (if c then events_at tokens nodes q else [])) (events_at tokens nodes q)) (sym (lt-ltb q i low)) (told_again past (events_at tokens nodes q))

        by_definition : (ps : List ℕ) → m.parts ≡ ps → Row b ps i → m.kind ≡ kind.FunctionDefinition → Leads b (definition nodes ps) i
        by_definition [] e row is =
            both b i i (declaration_in (way []) nodes []) (in_scope []) (declaration_leads (way []) b i [] row (omega arith) (λ k p f. absurd cc)) (steps.scope nodes apart at i i [] (λ past h. h))
        by_definition (s ∷ []) e row is =
            both b i i (declaration_in (way (s ∷ [])) nodes (s ∷ [])) (in_scope []) (declaration_leads (way (s ∷ [])) b i (s ∷ []) row (omega arith) (λ k p f. absurd cc))
            (steps.scope nodes apart at i i [] (λ past h. h))
        by_definition (s ∷ q ∷ rest) e (one_more {n = y} at_s own_s (one_more {n = x} at_q own_q row)) is =
            λ past h. whole past h
          where
            le : q + 1 ≤ i
            le = listed_up nodes (q + 1) i rest row

            first : List Step
            first = declaration_in (way (s ∷ q ∷ rest)) nodes (s ∷ q ∷ [])

            own_steps : List Step
            own_steps = flat_map (own_parameters nodes) (q ∷ [])

            items : List Step
            items = flat_map (items_of nodes) rest

            parameters : List ℕ
            parameters = list_of nodes (declarator_of nodes q).next

            head : Leads b first (q + 1)
            head =
                declaration_leads (way (s ∷ q ∷ rest)) b (q + 1) (s ∷ q ∷ []) (one_more at_s own_s (one_more at_q own_q no_node)) le
                (λ k p f. held (ap is_declaration is) (suc k) p (ap (λ l. slice_get l (suc k)) e ∙ taken_is 2 (s ∷ q ∷ rest) (suc k) p f))

            again : (past : List Event) → AllAgain (event.Opens ∷ after past first) parameters
            again past =
                later_each (after past first) (event.Opens ∷ []) parameters
                (subst (λ es. AllAgain es parameters) (sym (steps.over_append nodes apart at (onto past (at s)) (declares (way (s ∷ q ∷ rest)) nodes q (kind_at nodes q)) []))
                (subst (λ o. AllAgain (after (onto past (at s)) (declares (way (s ∷ q ∷ rest)) nodes q (kind_if o))) parameters) (sym at_q)
                (declares_again (way (s ∷ q ∷ rest)) (onto past (at s)) q x at_q (omega (arith, le)) x.kind refl)))

            one_item : (k p : ℕ) → slice_get rest k ≡ Some p → (z : Node) → slice_get nodes p ≡ Some z → (c : ℕ) → Row c z.parts p → p < i → Leads c (items_of nodes p) (p + 1)
            one_item k p f z there c row_p low past g =
                subst (λ ps. Holds nodes apart (after past (inside ps)) (p + 1)) (sym (parts_are p z there))
                (passed p (λ y other. apart.bodies i k p m y here is (ap (λ l. slice_get l (suc (suc k))) e ∙ f) other) (after past (inside z.parts)) (through c p z.parts row_p (omega (arith, low)) past g))

            items_lead : Leads (q + 1) items i
            items_lead = each (items_of nodes) (q + 1) i rest row (omega arith) one_item

            whole : (past : List Event) → Holds nodes apart past b → Holds nodes apart (after past (definition nodes (s ∷ q ∷ rest))) i
            whole past h =
                both_at past i first (in_scope (own_steps ++ items))
                (scope_at (after past first) i (own_steps ++ items)
                (both_at (event.Opens ∷ after past first) i own_steps items
                (items_lead (after (event.Opens ∷ after past first) own_steps)
                (both_at (event.Opens ∷ after past first) (q + 1) (own_parameters nodes q) []
                (again_leads (event.Opens ∷ after past first) (q + 1) parameters (again past) (opens_more nodes apart (after past first) (q + 1) (head past h)))))))

        -- ---- declarations of a tag alone

        lone : (p : ℕ) (x : Node) → slice_get nodes p ≡ Some x → Row b x.parts p → p < i → Leads b (lone_specifiers nodes p (kind_at nodes p)) (p + 1)
        lone p x there row low = subst (λ o. Leads b (lone_specifiers nodes p (kind_if o)) (p + 1)) (sym there) (by x.kind refl)
          where
            by : (k : Kind) → x.kind ≡ k → Leads b (lone_specifiers nodes p (Some k)) (p + 1)
            by kind.StructTag e =
                let none = none_listed nodes b p x.parts (apart.leaves p x there (ap is_leaf e)) row in
                subst (λ o. Leads b (lone_tag (first_if o)) (p + 1)) (sym there)
                (λ past h. passed p (λ y other. ap (λ (z : Node). is_using z.kind) (same_Some y x (sym other ∙ there)) ∙ ap is_using e) (after past (lone_tag (Some x.first)))
                (subst (Holds nodes apart (after past (lone_tag (Some x.first)))) none (a_tag b p x there (ap is_tagging e) role.Alone (inr (inl refl)) true past h)))
            by k e = inner p x b there row low

        by_declaration : (ps : List ℕ) → m.parts ≡ ps → Row b ps i → m.kind ≡ kind.Declaration → Leads b (declaration nodes ps) i
        by_declaration [] e row is = λ past h. subst (λ x. Holds nodes apart past x) (none_listed nodes b i [] refl row) h
        by_declaration (p ∷ []) e (one_more {n = x} at_p own_p row) is =
            let end = none_listed nodes (p + 1) i [] refl row in
            subst (λ z. Leads b (lone_specifiers nodes p (kind_at nodes p)) z) end (lone p x at_p own_p (omega (arith, end)))
        by_declaration (p ∷ q ∷ ps) e row is =
            declaration_leads (way (p ∷ q ∷ ps)) b i (p ∷ q ∷ ps) row (omega arith) (λ k x f. held (ap is_declaration is) (suc k) x (ap (λ l. slice_get l (suc k)) e ∙ f))

        -- ---- all kinds

        parts_through : Leads b (inside m.parts) i
        parts_through = through b i m.parts own (omega arith)

        no_parts : is_leaf m.kind ≡ true → b ≡ i
        no_parts leaf = none_listed nodes b i m.parts (apart.leaves i m here leaf) own

        empty : is_leaf m.kind ≡ true → Leads b [] i
        empty leaf past h = subst (Holds nodes apart past) (no_parts leaf) h

        mention : is_leaf m.kind ≡ true → is_tagging m.kind ≡ true → Leads b (tag_event role.Mentioned (m.first + 1) true) i
        mention leaf tagged past h = subst (Holds nodes apart (after past (tag_event role.Mentioned (m.first + 1) true))) (no_parts leaf) (a_tag b i m here tagged role.Mentioned (inr (inr refl)) true past h)

        content : is_tagging m.kind ≡ true → (steps_of : List Step) → Leads b steps_of i → Leads b (content_tag tokens m.first ++ steps_of) i
        content tagged steps_of f =
            both b b i (content_tag tokens m.first) steps_of (a_tag b i m here tagged role.Content (inl refl) (is_identifier (slice_get tokens (m.first + 1)))) f

        one_member : m.kind ≡ kind.StructContent → (k p : ℕ) → slice_get m.parts k ≡ Some p → (z : Node) → slice_get nodes p ≡ Some z → (c : ℕ) → Row c z.parts p → p < i → Leads c (members_of nodes i p) (p + 1)
        one_member is k p f z there c row_p low past g =
            subst (λ ps. Holds nodes apart (after past (declaration_in (Members i) nodes ps)) (p + 1)) (sym (parts_are p z there))
            (passed p (λ y other. apart.members i k p m y here is f other) (after past (declaration_in (Members i) nodes z.parts))
            (declaration_leads (Members i) c p z.parts row_p (omega (arith, low)) (λ l q x. tt) past g))

        enumerator : m.kind ≡ kind.Enumerator → Leads i (Happens (event.Name m.first role.Enumerator) ∷ []) (i + 1)
        enumerator is past h =
            name_more nodes apart m.first role.Enumerator past (i + 1) (λ j n u same fresh. absurd (apart.declared i j n (name ∙ ap Some (sym same)) u.0 u.1))
            (λ x fresh. record { declarer = i; names = name; below = omega arith; last = λ p less f. apart.enumerators i p m.first itself name less f; stands = inr itself })
            (ends_plain i [] (ap is_using is) (λ past h. h) past h)
          where
            name : name_at nodes i ≡ Some m.first
            name = ap (λ o. named_if o (declarator_of nodes i).name) here ∙ ap (λ (k : Kind). named_by k m.first (declarator_of nodes i).name) is

            itself : IsEnumerator nodes i
            itself = record { node = m; at = here; is = is }

        controlled : Leads b (block (take 1 m.parts) (drop 1 m.parts) []) i
        controlled = let x = split nodes 1 b i m.parts own in blocks b x.middle i i (take 1 m.parts) (drop 1 m.parts) [] x.first x.second no_node (omega arith)

        by_kind : (k : Kind) → m.kind ≡ k → Leads b (script_by k tokens nodes i m) (i + 1)
        by_kind kind.FunctionDefinition e = ends_plain b (definition nodes m.parts) (ap is_using e) (by_definition m.parts refl own e)
        by_kind kind.Declaration e = ends_plain b (declaration nodes m.parts) (ap is_using e) (by_declaration m.parts refl own e)
        by_kind kind.Parameter e =
            ends_plain b (declaration_in Parameters nodes m.parts) (ap is_using e) (declaration_leads Parameters b i m.parts own (omega arith) (λ k p f. held (ap is_declaration e) (suc k) p f))
        by_kind kind.FunctionDeclarator e =
            let x = split nodes 1 b i m.parts own in
            let high = listed_up nodes x.middle i (drop 1 m.parts) x.second in
            ends_plain b (inside (take 1 m.parts) ++ block (drop 1 m.parts) [] []) (ap is_using e)
            (both b x.middle i (inside (take 1 m.parts)) (block (drop 1 m.parts) [] []) (through b x.middle (take 1 m.parts) x.first high) (blocks x.middle i i i (drop 1 m.parts) [] [] x.second no_node no_node (omega arith)))
        by_kind kind.StructContent e =
            ends_plain b (content_tag tokens m.first ++ flat_map (members_of nodes i) m.parts) (ap is_using e)
            (content (ap is_tagging e) (flat_map (members_of nodes i) m.parts) (each (members_of nodes i) b i m.parts own (omega arith) (one_member e)))
        by_kind kind.EnumContent e = ends_plain b (content_tag tokens m.first ++ inside m.parts) (ap is_using e) (content (ap is_tagging e) (inside m.parts) parts_through)
        by_kind kind.Enumerator e = both b i (i + 1) (inside m.parts) (Happens (event.Name m.first role.Enumerator) ∷ []) parts_through (enumerator e)
        by_kind kind.StructTag e = ends_plain b (tag_event role.Mentioned (m.first + 1) true) (ap is_using e) (mention (ap is_leaf e) (ap is_tagging e))
        by_kind kind.EnumTag e = ends_plain b (tag_event role.Mentioned (m.first + 1) true) (ap is_using e) (mention (ap is_leaf e) (ap is_tagging e))
        by_kind kind.TypedefName e = ends_use b [] up (ap is_using e) (empty (ap is_leaf e))
        by_kind kind.Identifier e = ends_use b [] up (ap is_using e) (empty (ap is_leaf e))
        by_kind kind.Call e = ends_use b (inside m.parts) up (ap is_using e) parts_through
        by_kind kind.Compound e = ends_plain b (block m.parts [] []) (ap is_using e) (blocks b i i i m.parts [] [] own no_node no_node (omega arith))
        by_kind kind.If e = ends_plain b (block (take 1 m.parts) (drop 1 m.parts) []) (ap is_using e) controlled
        by_kind kind.Switch e = ends_plain b (block (take 1 m.parts) (drop 1 m.parts) []) (ap is_using e) controlled
        by_kind kind.While e = ends_plain b (block (take 1 m.parts) (drop 1 m.parts) []) (ap is_using e) controlled
        by_kind kind.Do e =
            let x = split nodes 1 b i m.parts own in
            ends_plain b (block [] (take 1 m.parts) (drop 1 m.parts)) (ap is_using e) (blocks b b x.middle i [] (take 1 m.parts) (drop 1 m.parts) no_node x.first x.second (omega arith))
        by_kind kind.For e =
            let x = split nodes (length m.parts - 1) b i m.parts own in
            ends_plain b (block (take (length m.parts - 1) m.parts) (drop (length m.parts - 1) m.parts) []) (ap is_using e)
            (blocks b x.middle i i (take (length m.parts - 1) m.parts) (drop (length m.parts - 1) m.parts) [] x.first x.second no_node (omega arith))
        by_kind k e = ends_plain b (inside m.parts) (ap is_using e) parts_through

    one_followed : IsFollowed i
    one_followed m here b own past h =
        subst (λ es. Holds nodes apart (onto past es) (i + 1)) (sym (events_ruled tokens nodes i))
        (steps.goes nodes apart at b (i + 1) (script_of tokens nodes i) (subst (λ o. Leads b (script_if o tokens nodes i) (i + 1)) (sym here) (by_kind m here b own m.kind refl))
        (event.Node i ∷ past) (node_more nodes apart i past b h))

  followed_below : (k i : ℕ) → i < k → IsFollowed i
  followed_below zero i low = absurd (omega (arith, low))
  followed_below (suc k) i low = one_followed i (λ j less. followed_below k j (omega (arith, low, less)))

  -- ---- the unit

  all_told : (items : List ℕ) → AreListed nodes 0 items (length nodes) → Holds nodes apart (onto [] (events_of tokens nodes items)) (length nodes)
  all_told items listed =
      let n = length nodes in
      let followed : (k : ℕ) → k < n → IsFollowed k = λ k less. followed_below (suc k) k (omega arith) in
      subst (λ es. Holds nodes apart (onto [] es) n) (inside_events (before [] n (events_at tokens nodes)) items)
      (steps.goes nodes apart (before [] n (events_at tokens nodes)) 0 n (inside items) (through n followed 0 n items listed (omega arith)) [] (at_first nodes apart))

pub told : Laws.UsesAreTold
told tokens nodes items listed apart i n here used =
    let h = all_told nodes apart tokens items listed in
    let named = h.told i n (here, used) (slice_get_within nodes i n here) in
    subst (IsTold nodes n.first i) (all_came (events_of tokens nodes items)) (h.good i n (here, used) named)
