-- Each node tells the tags of the nodes below it and its own, in the order of numbers; a definition's parameters are told again behind its declarator.
use Rattle.std.proofs.Common.{◌≡◌, ℕ, zero, suc, ◌+◌, ◌-◌, ◌<◌, ◌≤◌, ◌⊎◌, inr, Bool, true, false, List, [], ◌∷◌, ◌++◌, Option, None, Some, length, take, drop, slice_get, refl, sym, ap, subst, ◌∙◌, if◌then◌else◌, arith}
use Rattle.std.specs.List.{flat_map}
use Rattle.std.proofs.lemmas.Bool.{false≢true, lt-ltb}
use Rattle.std.proofs.lemmas.List.{append-nil}
use Rattle.std.proofs.lemmas.Grind.{flat_map-append}
use Rattle.std.proofs.lemmas.Option.{slice_get_within, same_Some}
use Rattle.cr_tokens.specs.declared.token.Token.{Token}
use Rattle.cr_syntax.specs.declared.node.Kind.{Kind}
use Rattle.cr_syntax.specs.declared.node.Kind.TheVariants as kind
use Rattle.cr_syntax.specs.declared.node.Node.{Node}
use Rattle.cr_syntax_order.specs.Listed.{AreListed, no_node, one_more}
use Rattle.cr_scopes.specs.declared.scope.Space.TheVariants.{Tag}
use Rattle.cr_scopes.specs.Looking.{stands_in}
use Rattle.cr_scopes.specs.Resolved.{space_of}
use Rattle.cr_scopes_bindings.specs.Nodes.{named_by, named_if, name_at, tag_if_there, tag_by, tag_if, tag_at}
use Rattle.cr_scopes_events.specs.declared.event.Role.{Role}
use Rattle.cr_scopes_events.specs.declared.event.Role.TheVariants as role
use Rattle.cr_scopes_events.specs.declared.event.Event.{Event}
use Rattle.cr_scopes_events.specs.declared.event.Event.TheVariants as event
use Rattle.cr_scopes_events.specs.declared.event.Step.{Step}
use Rattle.cr_scopes_events.specs.declared.event.Step.TheVariants.{Happens, Inside}
use Rattle.cr_scopes_events.specs.declared.naming.Storage.{Storage}
use Rattle.cr_scopes_events.specs.declared.naming.Storage.TheVariants.{TypedefWord, ExternWord, NoWord}
use Rattle.cr_scopes_events.specs.declared.naming.Naming.{Naming}
use Rattle.cr_scopes_events.specs.declared.naming.Naming.TheVariants.{Parameters, Members, Declared}
use Rattle.cr_scopes_events.specs.declared.declarator.Derivation.{Derivation}
use Rattle.cr_scopes_events.specs.declared.declarator.Derivation.TheVariants as derivation
use Rattle.cr_scopes_events.specs.declared.declarator.Declarator.{Declarator}
use Rattle.cr_scopes_events.specs.Values.{before}
use Rattle.cr_scopes_events.specs.Declarators.{nowhere, innermost, in_first, declared_by, declared_if, declarator_of}
use Rattle.cr_scopes_events.specs.Scripts.{kind_if, kind_at, first_if, parts_if, parts_at, inside, in_scope, in_scopes, block, storage_of, role_by, event_by, named, declarator_in, initialised, declares, declaration_in, is_identifier, tag_event, content_tag, lone_tag, lone_specifiers, declaration, list_of, items_of, members_of, definition, script_by, script_if, script_of}
use Rattle.cr_scopes_events.specs.Events.{events_by, events_at, events_of}
use Rattle.cr_scopes_events.proofs.Walks.{events_ruled, inside_events}
use Rattle.cr_scopes_events.proofs.Descents.{declarator_ruled}
use Rattle.cr_scopes_visibility.specs.Sight.Scopes.{is_using, is_tagging}
use Rattle.cr_scopes_visibility.specs.Told.Told.{is_leaf}
use Rattle.cr_scopes_visibility.proofs.ToldLemmas.Events.{onto, all_came}
use Rattle.cr_scopes_visibility.specs.Tagged.Tagged.{AreTagsApart, StandsForTag, AreMarked}
use Rattle.cr_scopes_visibility.specs.Tagged.Laws
use Rattle.cr_scopes_visibility.proofs.TaggedLemmas.Events as events
use Rattle.cr_scopes_visibility.proofs.TaggedLemmas.Events.{Runs, Holds, scoped}
use Rattle.cr_scopes_visibility.proofs.TaggedLemmas.Gaps as gaps
use Rattle.cr_scopes_visibility.proofs.TaggedLemmas.Gaps.{HasGap}
use Rattle.cr_scopes_visibility.proofs.ToldLemmas.Walks.{listed_up, none_listed, name_is, split}

-- ---- nodes that are listed

-- ---- names

role_untagged : (storage : Storage) (d : Derivation) → stands_in Tag (role_by storage d) ≡ false
role_untagged TypedefWord d = refl
role_untagged ExternWord (derivation.Function l) = refl
role_untagged ExternWord derivation.Nothing = refl
role_untagged ExternWord derivation.Other = refl
role_untagged NoWord (derivation.Function l) = refl
role_untagged NoWord derivation.Nothing = refl
role_untagged NoWord derivation.Other = refl

tag_of_kind : (k : Kind) (tokens : List Token) (word token : ℕ) → tag_by k tokens word ≡ Some token → is_tagging k ≡ true
tag_of_kind kind.StructTag tokens word token e = refl
tag_of_kind kind.EnumTag tokens word token e = refl
tag_of_kind kind.StructContent tokens word token e = refl
tag_of_kind kind.EnumContent tokens word token e = refl
tag_of_kind k tokens word token e = let none : None ≡ Some token = e in absurd cc

module _ (tokens : List Token) (nodes : List Node) (apart : AreTagsApart tokens nodes) (name : ℕ → ℕ) where
  abbrev Row : ℕ → List ℕ → ℕ → Type 0
  Row b ps e = AreListed nodes b ps e

  abbrev Run : ℕ → List Event → ℕ → Type 1
  Run b es e = Runs tokens nodes apart name b es e

  abbrev Gap : ℕ → ℕ → ℕ → List Event → ℕ → Type 1
  Gap b from to es e = HasGap tokens nodes apart name b from to es e

  abbrev scope_of : List Event → List Event
  scope_of es = scoped tokens nodes apart name es

  -- a node leads from the first node below it to behind itself
  abbrev IsFollowed : ℕ → Type 1
  IsFollowed i = (m : Node) → slice_get nodes i ≡ Some m → (b : ℕ) → Row b m.parts i → Run b (events_at tokens nodes i) (i + 1)

  -- and so does a declarator, but for the list of its own function
  record LeavesList (b i l : ℕ) : Type 1 where
    from : ℕ
    row : Row from (drop 1 (parts_at nodes l)) l
    gap : Gap b from l (events_at tokens nodes i) (i + 1)

  abbrev IsLeft : ℕ → Type 1
  IsLeft i = (m : Node) → slice_get nodes i ≡ Some m → (b : ℕ) → Row b m.parts i → (l : ℕ) → (declarator_of nodes i).next ≡ derivation.Function l → LeavesList b i l

  -- a node that has no tag
  untagged : (p : ℕ) (m : Node) → slice_get nodes p ≡ Some m → is_tagging m.kind ≡ false → (token : ℕ) → tag_at nodes tokens p ≡ Some token → ⊥
  untagged p m here plain token e = false≢true (sym plain ∙ tag_of_kind m.kind tokens m.first token (sym (ap (λ o. tag_if o tokens) here) ∙ e))

  passed_at : (p : ℕ) → ((token : ℕ) → tag_at nodes tokens p ≡ Some token → ⊥) → Run p [] (p + 1)
  passed_at p none =
      events.passing tokens nodes apart name p (p + 1) (omega arith)
      (λ j token low high has. (let same : j ≡ p = omega (arith, low, high) in none token (sym (ap (tag_at nodes tokens) same) ∙ has)))

  module _ (i : ℕ) (followed : (k : ℕ) → k < i → IsFollowed k) (left : (k : ℕ) → k < i → IsLeft k) where
    abbrev at : ℕ → List Event
    at = before [] i (events_at tokens nodes)

    abbrev flat : List Step → List Event
    flat xs = flat_map (events_by at) xs

    abbrev Leads : ℕ → List Step → ℕ → Type 1
    Leads b xs e = Run b (flat xs) e

    both : (b c d : ℕ) (xs ys : List Step) → Leads b xs c → Leads c ys d → Leads b (xs ++ ys) d
    both b c d xs ys f g = subst (λ es. Run b es d) (sym (flat_map-append (events_by at) xs ys)) (events.both tokens nodes apart name b c d (flat xs) (flat ys) f g)

    scope_flat : (xs : List Step) → flat (in_scope xs) ≡ scope_of (flat xs)
    scope_flat xs = ap (λ es. event.Opens ∷ es) (flat_map-append (events_by at) xs (Happens event.Closes ∷ []))

    scope : (b e : ℕ) (xs : List Step) → Leads b xs e → Leads b (in_scope xs) e
    scope b e xs f = subst (λ es. Run b es e) (sym (scope_flat xs)) (events.scope tokens nodes apart name b e (flat xs) f)

    nothing : (b : ℕ) → Leads b [] b
    nothing b = events.nothing tokens nodes apart name b

    -- ---- parts

    at_is : (p : ℕ) → p < i → events_at tokens nodes p ≡ at p
    at_is p low = ap (λ c. if c then events_at tokens nodes p else []) (sym (lt-ltb p i low))

    one_is : (p : ℕ) → p < i → events_at tokens nodes p ≡ flat (Inside p ∷ [])
    one_is p low = at_is p low ∙ sym (append-nil (at p))

    inner : (p : ℕ) (m : Node) (b : ℕ) → slice_get nodes p ≡ Some m → Row b m.parts p → p < i → Leads b (Inside p ∷ []) (p + 1)
    inner p m b here own low = subst (λ es. Run b es (p + 1)) (one_is p low) (followed p low m here b own)

    -- behind steps, a node without a tag
    then_passed : (b p : ℕ) (xs : List Step) → ((m : Node) → slice_get nodes p ≡ Some m → is_tagging m.kind ≡ false) → Leads b xs p → Leads b xs (p + 1)
    then_passed b p xs plain f =
        subst (λ es. Run b es (p + 1)) (append-nil (flat xs))
        (events.both tokens nodes apart name b p (p + 1) (flat xs) [] f (passed_at p (λ token e. none token e (slice_get nodes p) refl)))
      where
        none : (token : ℕ) → tag_at nodes tokens p ≡ Some token → (o : Option Node) → slice_get nodes p ≡ o → ⊥
        none token e None here = (let never : None ≡ Some token = sym (ap (λ o. tag_if o tokens) here) ∙ e in cc)
        none token e (Some m) here = untagged p m here (plain m here) token e

    abbrev Each : (ℕ → List Step) → List ℕ → Type 1
    Each f ps = (k p : ℕ) → slice_get ps k ≡ Some p → (m : Node) → slice_get nodes p ≡ Some m → (b : ℕ) → Row b m.parts p → p < i → Leads b (f p) (p + 1)

    each : (f : ℕ → List Step) (b e : ℕ) (ps : List ℕ) → Row b ps e → e ≤ i → Each f ps → Leads b (flat_map f ps) e
    each f b e [] no_node le g = nothing b
    each f b e (p ∷ ps) (one_more {n = n} here own rest) le g =
        let high = listed_up nodes (p + 1) e ps rest in
        both b (p + 1) e (f p) (flat_map f ps) (g 0 p refl n here b own (omega (arith, high, le))) (each f (p + 1) e ps rest le (λ k q x. g (suc k) q x))

    through : (b e : ℕ) (ps : List ℕ) → Row b ps e → e ≤ i → Leads b (inside ps) e
    through b e ps h le = each (λ p. Inside p ∷ []) b e ps h le (λ k p x m here c own low. inner p m c here own low)

    scopes : (b e : ℕ) (ps : List ℕ) → Row b ps e → e ≤ i → Leads b (in_scopes ps) e
    scopes b e ps h le = each (λ p. in_scope (Inside p ∷ [])) b e ps h le (λ k p x m here c own low. scope c (p + 1) (Inside p ∷ []) (inner p m c here own low))

    in_block : (b c d e : ℕ) (xs ys zs : List ℕ) → Row b xs c → Row c ys d → Row d zs e → e ≤ i → Leads b (inside xs ++ in_scopes ys ++ inside zs) e
    in_block b c d e xs ys zs f g h le =
        let two = listed_up nodes c d ys g in
        let three = listed_up nodes d e zs h in
        both b d e (inside xs ++ in_scopes ys) (inside zs) (both b c d (inside xs) (in_scopes ys) (through b c xs f (omega (arith, two, three, le))) (scopes c d ys g (omega (arith, three, le)))) (through d e zs h le)

    blocks : (b c d e : ℕ) (xs ys zs : List ℕ) → Row b xs c → Row c ys d → Row d zs e → e ≤ i → Leads b (block xs ys zs) e
    blocks b c d e xs ys zs f g h le = scope b e (inside xs ++ in_scopes ys ++ inside zs) (in_block b c d e xs ys zs f g h le)

    -- ---- names

    ordinary_name : (q token : ℕ) (r : Role) → stands_in Tag r ≡ false → name_at nodes q ≡ Some token → (b : ℕ) → Leads b (Happens (event.Name token r) ∷ []) b
    ordinary_name q token r out e b = events.a_name tokens nodes apart name b token r out (λ j has. apart.declared q j token e has)

    one_name : (way : Naming) (q : ℕ) (o : Option ℕ) → (declarator_of nodes q).name ≡ o → (next : Derivation)
        → Leads (q + 1) (elim o [ None ↦ [] | Some name ↦ Happens (event_by way next name) ∷ [] ]) (q + 1)
    one_name way q None e next = nothing (q + 1)
    one_name Parameters q (Some token) e next = ordinary_name q token role.Parameter refl (name_is nodes q token e) (q + 1)
    one_name (Members structure) q (Some token) e next = events.a_member tokens nodes apart name (q + 1) token structure
    one_name (Declared storage) q (Some token) e next = ordinary_name q token (role_by storage next) (role_untagged storage next) (name_is nodes q token e) (q + 1)

    named_alone : (way : Naming) (q : ℕ) → Leads (q + 1) (named way (declarator_of nodes q)) (q + 1)
    named_alone way q = one_name way q (declarator_of nodes q).name refl (declarator_of nodes q).next

    declarator : (way : Naming) (q : ℕ) (m : Node) (b : ℕ) → slice_get nodes q ≡ Some m → Row b m.parts q → q < i → Leads b (declarator_in way nodes q) (q + 1)
    declarator way q m b here own low = both b (q + 1) (q + 1) (Inside q ∷ []) (named way (declarator_of nodes q)) (inner q m b here own low) (named_alone way q)

    -- ---- declarations

    parts_are : (p : ℕ) (m : Node) → slice_get nodes p ≡ Some m → parts_at nodes p ≡ m.parts
    parts_are p m here = ap parts_if here

    with_initialiser : (way : Naming) (p : ℕ) (m : Node) (b : ℕ) → slice_get nodes p ≡ Some m → m.kind ≡ kind.InitDeclarator → Row b m.parts p → p < i → Leads b (initialised way nodes (parts_at nodes p)) (p + 1)
    with_initialiser way p m b here is own low =
        let x = split nodes 1 b p m.parts own in
        let high = listed_up nodes x.middle p (drop 1 m.parts) x.second in
        subst (λ ps. Leads b (initialised way nodes ps) (p + 1)) (sym (parts_are p m here))
        (then_passed b p (initialised way nodes m.parts) (λ y there. plain y there)
        (both b x.middle p (flat_map (declarator_in way nodes) (take 1 m.parts)) (inside (drop 1 m.parts))
        (each (declarator_in way nodes) b x.middle (take 1 m.parts) x.first (omega (arith, high, low)) (λ k q e y there c inner_row less. declarator way q y c there inner_row less))
        (through x.middle p (drop 1 m.parts) x.second (omega (arith, low)))))
      where
        plain : (y : Node) → slice_get nodes p ≡ Some y → is_tagging y.kind ≡ false
        plain y there = let same : y ≡ m = same_Some y m (sym there ∙ here) in ap (λ (z : Node). is_tagging z.kind) same ∙ ap is_tagging is

    declared : (way : Naming) (p : ℕ) (m : Node) (b : ℕ) → slice_get nodes p ≡ Some m → Row b m.parts p → p < i → Leads b (declares way nodes p (kind_at nodes p)) (p + 1)
    declared way p m b here own low = subst (λ o. Leads b (declares way nodes p (kind_if o)) (p + 1)) (sym here) (by m.kind refl)
      where
        by : (k : Kind) → m.kind ≡ k → Leads b (declares way nodes p (Some k)) (p + 1)
        by kind.InitDeclarator e = with_initialiser way p m b here e own low
        by k e = declarator way p m b here own low

    declaration_leads : (way : Naming) (b e : ℕ) (ps : List ℕ) → Row b ps e → e ≤ i → Leads b (declaration_in way nodes ps) e
    declaration_leads way b e [] h le = subst (λ x. Leads b [] x) (none_listed nodes b e [] refl h) (nothing b)
    declaration_leads way b e (s ∷ ps) h le =
        let x = split nodes 1 b e (s ∷ ps) h in
        let high = listed_up nodes x.middle e ps x.second in
        both b x.middle e (inside (s ∷ [])) (flat_map (λ p. declares way nodes p (kind_at nodes p)) ps) (through b x.middle (s ∷ []) x.first (omega (arith, high, le)))
        (each (λ p. declares way nodes p (kind_at nodes p)) x.middle e ps x.second le (λ k p q m here c own low. declared way p m c here own low))

    -- ---- this node

    module _ (m : Node) (here : slice_get nodes i ≡ Some m) where
      ends_plain : (b : ℕ) (xs : List Step) → is_tagging m.kind ≡ false → Leads b xs i → Leads b xs (i + 1)
      ends_plain b xs plain f = then_passed b i xs (λ n there. ap (λ (z : Node). is_tagging z.kind) (same_Some n m (sym there ∙ here)) ∙ plain) f

      a_use : (b : ℕ) → is_using m.kind ≡ true → Leads b (Happens (event.Name m.first role.Used) ∷ []) b
      a_use b used = events.a_name tokens nodes apart name b m.first role.Used refl (λ j has. apart.uses j i m.first m has here used refl)

      -- the tag and then what is below
      with_tag : (b : ℕ) (r : Role) (c : Bool) (xs : List Step) → (c ≡ true → tag_at nodes tokens i ≡ Some (m.first + 1)) → (c ≡ false → (token : ℕ) → tag_at nodes tokens i ≡ Some token → ⊥) → space_of r ≡ Tag
          → Leads b xs i → Leads b (tag_event r (m.first + 1) c ++ xs) (i + 1)
      with_tag b r true xs has none tagged f = events.a_tag tokens nodes apart name b i (m.first + 1) r (flat xs) (has refl) tagged f
      with_tag b r false xs has none tagged f =
          subst (λ es. Run b es (i + 1)) (append-nil (flat xs)) (events.both tokens nodes apart name b i (i + 1) (flat xs) [] f (passed_at i (none refl)))

      tag_is : (k : Kind) → m.kind ≡ k → tag_at nodes tokens i ≡ tag_by k tokens m.first
      tag_is k e = ap (λ o. tag_if o tokens) here ∙ ap (λ (x : Kind). tag_by x tokens m.first) e

      module _ (b : ℕ) (own : Row b m.parts i) where
        -- ---- definitions

        abbrev way : List ℕ → Naming
        way ps = Declared (storage_of nodes ps)

        by_definition : (ps : List ℕ) → m.parts ≡ ps → Row b ps i → m.kind ≡ kind.FunctionDefinition → Leads b (definition nodes ps) i
        by_definition [] e row is = both b i i (declaration_in (way []) nodes []) (in_scope []) (declaration_leads (way []) b i [] row (omega arith)) (scope i i [] (nothing i))
        by_definition (s ∷ []) e row is =
            both b i i (declaration_in (way (s ∷ [])) nodes (s ∷ [])) (in_scope []) (declaration_leads (way (s ∷ [])) b i (s ∷ []) row (omega arith)) (scope i i [] (nothing i))
        by_definition (s ∷ q ∷ rest) e (one_more {n = y} at_s own_s (one_more {n = x} at_q own_q row)) is = by_next (declarator_of nodes q).next refl
          where
            le : q + 1 ≤ i
            le = listed_up nodes (q + 1) i rest row

            between : s + 1 ≤ q
            between = listed_up nodes (s + 1) q x.parts own_q

            first : List Step
            first = declaration_in (way (s ∷ q ∷ rest)) nodes (s ∷ q ∷ [])

            items : List Step
            items = flat_map (items_of nodes) rest

            head : Leads b first (q + 1)
            head = declaration_leads (way (s ∷ q ∷ rest)) b (q + 1) (s ∷ q ∷ []) (one_more at_s own_s (one_more at_q own_q no_node)) le

            one_item : (k p : ℕ) → slice_get rest k ≡ Some p → (z : Node) → slice_get nodes p ≡ Some z → (c : ℕ) → Row c z.parts p → p < i → Leads c (items_of nodes p) (p + 1)
            one_item k p f z there c row_p low =
                subst (λ ps. Leads c (inside ps) (p + 1)) (sym (parts_are p z there))
                (then_passed c p (inside z.parts) (λ y other. apart.bodies i k p m y here is (ap (λ l. slice_get l (suc (suc k))) e ∙ f) other) (through c p z.parts row_p (omega (arith, low))))

            items_lead : Leads (q + 1) items i
            items_lead = each (items_of nodes) (q + 1) i rest row (omega arith) one_item

            -- the list is told again
            abbrev_list : Derivation → List Step
            abbrev_list d = inside (list_of nodes d) ++ []

            plain_next : (d : Derivation) → list_of nodes d ≡ [] → Leads b (first ++ in_scope ((inside (list_of nodes d) ++ []) ++ items)) i
            plain_next d none =
                subst (λ ps. Leads b (first ++ in_scope ((inside ps ++ []) ++ items)) i) (sym none) (both b (q + 1) i first (in_scope items) head (scope (q + 1) i items items_lead))

            -- with the declarator's own list left out
            gap_of : (l from : ℕ) → Gap (s + 1) from l (events_at tokens nodes q) (q + 1) → (k : Kind) → x.kind ≡ k → (declarator_of nodes q).next ≡ derivation.Function l
                → Gap (s + 1) from l (flat (declares (way (s ∷ q ∷ rest)) nodes q (Some k) ++ [])) (q + 1)
            gap_of l from g kind.InitDeclarator f d =
                (let none : (declarator_of nodes q) ≡ nowhere =
                declarator_ruled nodes q ∙ ap (λ o. declared_if o (before nowhere q (declarator_of nodes)) q) at_q ∙ ap (λ (k : Kind). declared_by k (before nowhere q (declarator_of nodes)) q x) f in
                let never : derivation.Nothing ≡ derivation.Function l = sym (ap (λ (w : Declarator). w.next) none) ∙ d in
                absurd cc)
            gap_of l from g k f d =
                subst (λ es. Gap (s + 1) from l es (q + 1)) equal
                (gaps.gap_behind tokens nodes apart name (s + 1) from l (q + 1) (q + 1) (events_at tokens nodes q) (flat (named (way (s ∷ q ∷ rest)) (declarator_of nodes q))) g (named_alone (way (s ∷ q ∷ rest)) q))
              where
                steps : List Step
                steps = named (way (s ∷ q ∷ rest)) (declarator_of nodes q)

                equal : events_at tokens nodes q ++ flat steps ≡ flat ((Inside q ∷ steps) ++ [])
                equal = ap (λ es. es ++ flat steps) (at_is q (omega (arith, le))) ∙ ap flat (sym (append-nil (Inside q ∷ steps)))

            listed_next : (l : ℕ) → (declarator_of nodes q).next ≡ derivation.Function l → Leads b (first ++ in_scope ((inside (drop 1 (parts_at nodes l)) ++ []) ++ items)) i
            listed_next l d = by (left q (omega (arith, le)) x at_q (s + 1) own_q l d)
              where
                by : LeavesList (s + 1) q l → Leads b (first ++ in_scope ((inside (drop 1 (parts_at nodes l)) ++ []) ++ items)) i
                by g =
                    subst (λ es. Run b es i) equal
                    (gaps.again tokens nodes apart name b g.from l (q + 1) i (flat first) (flat (inside (drop 1 (parts_at nodes l)) ++ [])) (flat items) gap head listed items_lead)
                  where
                    gap : Gap b g.from l (flat first) (q + 1)
                    gap =
                        gaps.gap_before tokens nodes apart name b (s + 1) g.from l (q + 1) (at s) (flat (declares (way (s ∷ q ∷ rest)) nodes q (kind_at nodes q) ++ []))
                        (subst (λ es. Run b es (s + 1)) (at_is s (omega (arith, between, le))) (followed s (omega (arith, between, le)) y at_s b own_s))
                        (subst (λ o. Gap (s + 1) g.from l (flat (declares (way (s ∷ q ∷ rest)) nodes q (kind_if o) ++ [])) (q + 1)) (sym at_q) (gap_of l g.from g.gap x.kind refl d))

                    listed : Leads g.from (inside (drop 1 (parts_at nodes l)) ++ []) l
                    listed =
                        subst (λ xs. Leads g.from xs l) (sym (append-nil (inside (drop 1 (parts_at nodes l)))))
                        (through g.from l (drop 1 (parts_at nodes l)) g.row (let high = g.gap.high in omega (arith, high, le)))

                    own_list : List Step
                    own_list = inside (drop 1 (parts_at nodes l)) ++ []

                    equal : flat first ++ scope_of (flat own_list ++ flat items) ≡ flat (first ++ in_scope (own_list ++ items))
                    equal =
                        ap (λ es. flat first ++ scope_of es) (sym (flat_map-append (events_by at) own_list items))
                        ∙ ap (λ es. flat first ++ es) (sym (scope_flat (own_list ++ items)))
                        ∙ sym (flat_map-append (events_by at) first (in_scope (own_list ++ items)))

            by_next : (d : Derivation) → (declarator_of nodes q).next ≡ d → Leads b (definition nodes (s ∷ q ∷ rest)) i
            by_next (derivation.Function l) d = subst (λ z. Leads b (first ++ in_scope ((inside (list_of nodes z) ++ []) ++ items)) i) (sym d) (listed_next l d)
            by_next derivation.Nothing d = subst (λ z. Leads b (first ++ in_scope ((inside (list_of nodes z) ++ []) ++ items)) i) (sym d) (plain_next derivation.Nothing refl)
            by_next derivation.Other d = subst (λ z. Leads b (first ++ in_scope ((inside (list_of nodes z) ++ []) ++ items)) i) (sym d) (plain_next derivation.Other refl)

        -- ---- declarations of a tag alone

        lone : (p : ℕ) (x : Node) → slice_get nodes p ≡ Some x → Row b x.parts p → p < i → Leads b (lone_specifiers nodes p (kind_at nodes p)) (p + 1)
        lone p x there row low = subst (λ o. Leads b (lone_specifiers nodes p (kind_if o)) (p + 1)) (sym there) (by x.kind refl)
          where
            by : (k : Kind) → x.kind ≡ k → Leads b (lone_specifiers nodes p (Some k)) (p + 1)
            by kind.StructTag e =
                let none = none_listed nodes b p x.parts (apart.leaves p x there (ap is_leaf e)) row in
                subst (λ o. Leads b (lone_tag (first_if o)) (p + 1)) (sym there)
                (subst (λ c. Leads c (lone_tag (Some x.first)) (p + 1)) (sym none)
                (events.a_tag tokens nodes apart name p p (x.first + 1) role.Alone [] (ap (λ o. tag_if o tokens) there ∙ ap (λ (z : Kind). tag_by z tokens x.first) e) refl (nothing p)))
            by k e = inner p x b there row low

        by_declaration : (ps : List ℕ) → m.parts ≡ ps → Row b ps i → Leads b (declaration nodes ps) i
        by_declaration [] e row = subst (λ x. Leads b [] x) (none_listed nodes b i [] refl row) (nothing b)
        by_declaration (p ∷ []) e (one_more {n = x} at_p own_p row) =
            let end = none_listed nodes (p + 1) i [] refl row in
            subst (λ z. Leads b (lone_specifiers nodes p (kind_at nodes p)) z) end (lone p x at_p own_p (omega (arith, end)))
        by_declaration (p ∷ q ∷ ps) e row = declaration_leads (way (p ∷ q ∷ ps)) b i (p ∷ q ∷ ps) row (omega arith)

        -- ---- all kinds

        parts_through : Leads b (inside m.parts) i
        parts_through = through b i m.parts own (omega arith)

        no_parts : is_leaf m.kind ≡ true → b ≡ i
        no_parts leaf = none_listed nodes b i m.parts (apart.leaves i m here leaf) own

        empty : is_leaf m.kind ≡ true → Leads b [] i
        empty leaf = subst (λ x. Leads b [] x) (no_parts leaf) (nothing b)

        mention : is_leaf m.kind ≡ true → tag_at nodes tokens i ≡ Some (m.first + 1) → Leads b (tag_event role.Mentioned (m.first + 1) true) (i + 1)
        mention leaf has = with_tag b role.Mentioned true [] (λ e. has) (λ e. absurd (false≢true (sym e))) refl (empty leaf)

        content : (k : Kind) → m.kind ≡ k → tag_by k tokens m.first ≡ tag_if_there tokens (m.first + 1) → (xs : List Step) → Leads b xs i → Leads b (content_tag tokens m.first ++ xs) (i + 1)
        content k e there xs f =
            with_tag b role.Content (is_identifier (slice_get tokens (m.first + 1))) xs (λ q. tag_is k e ∙ there ∙ ap (λ c. if c then Some (m.first + 1) else None) q)
            (λ q token h. (let never : None ≡ Some token = sym (tag_is k e ∙ there ∙ ap (λ c. if c then Some (m.first + 1) else None) q) ∙ h in cc)) refl f

        one_member : m.kind ≡ kind.StructContent → (k p : ℕ) → slice_get m.parts k ≡ Some p → (z : Node) → slice_get nodes p ≡ Some z → (c : ℕ) → Row c z.parts p → p < i → Leads c (members_of nodes i p) (p + 1)
        one_member is k p f z there c row_p low =
            subst (λ ps. Leads c (declaration_in (Members i) nodes ps) (p + 1)) (sym (parts_are p z there))
            (then_passed c p (declaration_in (Members i) nodes z.parts) (λ y other. apart.members i k p m y here is f other) (declaration_leads (Members i) c p z.parts row_p (omega (arith, low))))

        enumerator : m.kind ≡ kind.Enumerator → Leads i (Happens (event.Name m.first role.Enumerator) ∷ []) (i + 1)
        enumerator is =
            ends_plain i (Happens (event.Name m.first role.Enumerator) ∷ []) (ap is_tagging is)
            (ordinary_name i m.first role.Enumerator refl (ap (λ o. named_if o (declarator_of nodes i).name) here ∙ ap (λ (k : Kind). named_by k m.first (declarator_of nodes i).name) is) i)

        controlled : Leads b (block (take 1 m.parts) (drop 1 m.parts) []) i
        controlled = let x = split nodes 1 b i m.parts own in blocks b x.middle i i (take 1 m.parts) (drop 1 m.parts) [] x.first x.second no_node (omega arith)

        used_with : is_using m.kind ≡ true → (xs : List Step) → Leads b xs i → Leads b (Happens (event.Name m.first role.Used) ∷ xs) i
        used_with used xs f = both b b i (Happens (event.Name m.first role.Used) ∷ []) xs (a_use b used) f

        by_kind : (k : Kind) → m.kind ≡ k → Leads b (script_by k tokens nodes i m) (i + 1)
        by_kind kind.FunctionDefinition e = ends_plain b (definition nodes m.parts) (ap is_tagging e) (by_definition m.parts refl own e)
        by_kind kind.Declaration e = ends_plain b (declaration nodes m.parts) (ap is_tagging e) (by_declaration m.parts refl own)
        by_kind kind.Parameter e = ends_plain b (declaration_in Parameters nodes m.parts) (ap is_tagging e) (declaration_leads Parameters b i m.parts own (omega arith))
        by_kind kind.FunctionDeclarator e =
            let x = split nodes 1 b i m.parts own in
            let high = listed_up nodes x.middle i (drop 1 m.parts) x.second in
            ends_plain b (inside (take 1 m.parts) ++ block (drop 1 m.parts) [] []) (ap is_tagging e)
            (both b x.middle i (inside (take 1 m.parts)) (block (drop 1 m.parts) [] []) (through b x.middle (take 1 m.parts) x.first high) (blocks x.middle i i i (drop 1 m.parts) [] [] x.second no_node no_node (omega arith)))
        by_kind kind.StructContent e = content kind.StructContent e refl (flat_map (members_of nodes i) m.parts) (each (members_of nodes i) b i m.parts own (omega arith) (one_member e))
        by_kind kind.EnumContent e = content kind.EnumContent e refl (inside m.parts) parts_through
        by_kind kind.Enumerator e = both b i (i + 1) (inside m.parts) (Happens (event.Name m.first role.Enumerator) ∷ []) parts_through (enumerator e)
        by_kind kind.StructTag e = mention (ap is_leaf e) (tag_is kind.StructTag e)
        by_kind kind.EnumTag e = mention (ap is_leaf e) (tag_is kind.EnumTag e)
        by_kind kind.TypedefName e = ends_plain b (Happens (event.Name m.first role.Used) ∷ []) (ap is_tagging e) (used_with (ap is_using e) [] (empty (ap is_leaf e)))
        by_kind kind.Identifier e = ends_plain b (Happens (event.Name m.first role.Used) ∷ []) (ap is_tagging e) (used_with (ap is_using e) [] (empty (ap is_leaf e)))
        by_kind kind.Call e = ends_plain b (Happens (event.Name m.first role.Used) ∷ inside m.parts) (ap is_tagging e) (used_with (ap is_using e) (inside m.parts) parts_through)
        by_kind kind.Compound e = ends_plain b (block m.parts [] []) (ap is_tagging e) (blocks b i i i m.parts [] [] own no_node no_node (omega arith))
        by_kind kind.If e = ends_plain b (block (take 1 m.parts) (drop 1 m.parts) []) (ap is_tagging e) controlled
        by_kind kind.Switch e = ends_plain b (block (take 1 m.parts) (drop 1 m.parts) []) (ap is_tagging e) controlled
        by_kind kind.While e = ends_plain b (block (take 1 m.parts) (drop 1 m.parts) []) (ap is_tagging e) controlled
        by_kind kind.Do e =
            let x = split nodes 1 b i m.parts own in
            ends_plain b (block [] (take 1 m.parts) (drop 1 m.parts)) (ap is_tagging e) (blocks b b x.middle i [] (take 1 m.parts) (drop 1 m.parts) no_node x.first x.second (omega arith))
        by_kind kind.For e =
            let x = split nodes (length m.parts - 1) b i m.parts own in
            ends_plain b (block (take (length m.parts - 1) m.parts) (drop (length m.parts - 1) m.parts) []) (ap is_tagging e)
            (blocks b x.middle i i (take (length m.parts - 1) m.parts) (drop (length m.parts - 1) m.parts) [] x.first x.second no_node (omega arith))
        by_kind k e = ends_plain b (inside m.parts) (ap is_tagging e) parts_through

        -- ---- the list of a declarator's own function

        module _ (l : ℕ) where
          -- behind steps with a gap, the node itself
          abbrev Lacks : List Step → Type 1
          Lacks xs = (from : ℕ) × ((Row from (drop 1 (parts_at nodes l)) l) × Gap b from l (flat xs) i)

          ended : is_tagging m.kind ≡ false → (xs : List Step) → script_by m.kind tokens nodes i m ≡ xs → Lacks xs → LeavesList b i l
          ended plain xs is g = record {
            from = g.0;
            row = g.1.0;
            gap =
                subst (λ es. Gap b g.0 l es (i + 1)) (sym (events_ruled tokens nodes i))
                (gaps.gap_node tokens nodes apart name i b g.0 l (flat (script_of tokens nodes i)) (i + 1)
                (subst (λ o. Gap b g.0 l (flat (script_if o tokens nodes i)) (i + 1)) (sym here)
                (subst (λ ys. Gap b g.0 l (flat ys) (i + 1)) (sym is)
                (subst (λ es. Gap b g.0 l es (i + 1)) (append-nil (flat xs))
                (gaps.gap_behind tokens nodes apart name b g.0 l i (i + 1) (flat xs) [] g.1.1 (passed_at i (untagged i m here plain)))))));
          }

          -- the first part has the list
          in_first_part : (q : ℕ) (rest : List ℕ) (ys : List Step) (c : ℕ) (x : Node) → slice_get nodes q ≡ Some x → Row b x.parts q → q < i → (declarator_of nodes q).next ≡ derivation.Function l
              → Leads (q + 1) ys i → Lacks (Inside q ∷ ys)
          in_first_part q rest ys c x there own_q low d f = by (left q low x there b own_q l d)
            where
              by : LeavesList b q l → Lacks (Inside q ∷ ys)
              by g = (g.from, (g.row, gaps.gap_behind tokens nodes apart name b g.from l (q + 1) i (at q) (flat ys) (subst (λ es. Gap b g.from l es (q + 1)) (at_is q low) g.gap) f))

          -- what is derived around the first part
          abbrev first_next : List ℕ → Derivation
          first_next ps = (in_first (before nowhere i (declarator_of nodes)) ps).next

          first_of : (q : ℕ) (rest : List ℕ) → q < i → first_next (q ∷ rest) ≡ (declarator_of nodes q).next
          first_of q rest low = ap (λ c. (if c then declarator_of nodes q else nowhere).next) (lt-ltb q i low)

          -- a declarator that derives no function
          passing_on : (outer : Derivation) → (outer ≡ derivation.Function l → ⊥) → (ps : List ℕ) → Row b ps i → innermost outer (first_next ps) ≡ derivation.Function l → Lacks (inside ps)
          passing_on outer none [] row d = absurd (none d)
          passing_on outer none (q ∷ rest) (one_more {n = x} there own_q row) d = by (declarator_of nodes q).next refl
            where
              le : q + 1 ≤ i
              le = listed_up nodes (q + 1) i rest row

              now : innermost outer (declarator_of nodes q).next ≡ derivation.Function l
              now = ap (innermost outer) (sym (first_of q rest (omega (arith, le)))) ∙ d

              by : (z : Derivation) → (declarator_of nodes q).next ≡ z → Lacks (inside (q ∷ rest))
              by (derivation.Function k) e =
                  in_first_part q rest (inside rest) b x there own_q (omega (arith, le)) (e ∙ (sym (ap (innermost outer) e) ∙ now)) (through (q + 1) i rest row (omega arith))
              by derivation.Nothing e = absurd (none (sym (ap (innermost outer) e) ∙ now))
              by derivation.Other e = let never : derivation.Other ≡ derivation.Function l = sym (ap (innermost outer) e) ∙ now in absurd cc

          -- the list is the node's own
          own_list : l ≡ i → Lacks (inside (take 1 m.parts) ++ block (drop 1 m.parts) [] [])
          own_list same =
              let x = split nodes 1 b i m.parts own in
              let high = listed_up nodes x.middle i (drop 1 m.parts) x.second in
              let run : Gap b x.middle i (flat (inside (take 1 m.parts)) ++ scope_of (flat (inside (drop 1 m.parts) ++ [] ++ []))) i =
              gaps.gap_scope tokens nodes apart name b x.middle i (flat (inside (take 1 m.parts))) (flat (inside (drop 1 m.parts) ++ [] ++ [])) (through b x.middle (take 1 m.parts) x.first high)
              (in_block x.middle i i i (drop 1 m.parts) [] [] x.second no_node no_node (omega arith)) in (
                x.middle,
                (
                  subst (λ z. Row x.middle (drop 1 (parts_at nodes z)) z) (sym same) (subst (λ ps. Row x.middle (drop 1 ps) i) (sym (parts_are i m here)) x.second),
                  subst (λ z. Gap b x.middle z (flat (inside (take 1 m.parts) ++ block (drop 1 m.parts) [] [])) i) (sym same)
                      (subst (λ es. Gap b x.middle i es i)
                      (ap (λ es. flat (inside (take 1 m.parts)) ++ es) (sym (scope_flat (inside (drop 1 m.parts) ++ [] ++ []))) ∙ sym (flat_map-append (events_by at) (inside (take 1 m.parts)) (block (drop 1 m.parts) [] []))) run),
                ),
              )

          function_list : (ps : List ℕ) → m.parts ≡ ps → Row b ps i → innermost (derivation.Function i) (first_next ps) ≡ derivation.Function l → Lacks (inside (take 1 m.parts) ++ block (drop 1 m.parts) [] [])
          function_list [] e row d = own_list (let is : derivation.Function i ≡ derivation.Function l = d in cc)
          function_list (q ∷ rest) e (one_more {n = x} there own_q row) d = by (declarator_of nodes q).next refl
            where
              le : q + 1 ≤ i
              le = listed_up nodes (q + 1) i rest row

              now : innermost (derivation.Function i) (declarator_of nodes q).next ≡ derivation.Function l
              now = ap (innermost (derivation.Function i)) (sym (first_of q rest (omega (arith, le)))) ∙ d

              by : (z : Derivation) → (declarator_of nodes q).next ≡ z → Lacks (inside (take 1 m.parts) ++ block (drop 1 m.parts) [] [])
              by (derivation.Function k) f =
                  subst (λ ps. Lacks (inside (take 1 ps) ++ block (drop 1 ps) [] [])) (sym e)
                  (in_first_part q rest (block rest [] []) b x there own_q (omega (arith, le)) (f ∙ (sym (ap (innermost (derivation.Function i)) f) ∙ now)) (blocks (q + 1) i i i rest [] [] row no_node no_node (omega arith)))
              by derivation.Nothing f = own_list (let is : derivation.Function i ≡ derivation.Function l = sym (ap (innermost (derivation.Function i)) f) ∙ now in cc)
              by derivation.Other f = let never : derivation.Other ≡ derivation.Function l = sym (ap (innermost (derivation.Function i)) f) ∙ now in absurd cc

          script_is : (k : Kind) → m.kind ≡ k → script_by m.kind tokens nodes i m ≡ script_by k tokens nodes i m
          script_is k e = ap (λ (z : Kind). script_by z tokens nodes i m) e

          leaves : (k : Kind) → m.kind ≡ k → (declared_by k (before nowhere i (declarator_of nodes)) i m).next ≡ derivation.Function l → LeavesList b i l
          leaves kind.GroupDeclarator e d =
              ended (ap is_tagging e) (inside m.parts) (script_is kind.GroupDeclarator e) (passing_on derivation.Nothing (λ f. (let never : derivation.Nothing ≡ derivation.Function l = f in cc)) m.parts own d)
          leaves kind.PointerDeclarator e d =
              ended (ap is_tagging e) (inside m.parts) (script_is kind.PointerDeclarator e) (passing_on derivation.Other (λ f. (let never : derivation.Other ≡ derivation.Function l = f in cc)) m.parts own d)
          leaves kind.ArrayDeclarator e d =
              ended (ap is_tagging e) (inside m.parts) (script_is kind.ArrayDeclarator e) (passing_on derivation.Other (λ f. (let never : derivation.Other ≡ derivation.Function l = f in cc)) m.parts own d)
          leaves kind.FunctionDeclarator e d =
              ended (ap is_tagging e) (inside (take 1 m.parts) ++ block (drop 1 m.parts) [] []) (script_is kind.FunctionDeclarator e) (function_list m.parts refl own d)
          leaves k e d = let never : derivation.Nothing ≡ derivation.Function l = d in absurd cc

    one_followed : IsFollowed i
    one_followed m here b own =
        subst (λ es. Run b es (i + 1)) (sym (events_ruled tokens nodes i))
        (events.behind_node tokens nodes apart name i b (i + 1) (flat (script_of tokens nodes i)) (subst (λ o. Leads b (script_if o tokens nodes i) (i + 1)) (sym here) (by_kind m here b own m.kind refl)))

    one_left : IsLeft i
    one_left m here b own l d =
        leaves m here b own l m.kind refl
        (sym (ap (λ (w : Declarator). w.next) (declarator_ruled nodes i ∙ ap (λ o. declared_if o (before nowhere i (declarator_of nodes)) i) here)) ∙ d)

  all_below : (k i : ℕ) → i < k → IsFollowed i × IsLeft i
  all_below zero i low = absurd (omega (arith, low))
  all_below (suc k) i low =
      let below : (j : ℕ) → j < i → IsFollowed j × IsLeft j = λ j less. all_below k j (omega (arith, low, less)) in
      (one_followed i (λ j less. (below j less).0) (λ j less. (below j less).1), one_left i (λ j less. (below j less).0) (λ j less. (below j less).1))

  -- ---- the unit

  all_run : (items : List ℕ) → AreListed nodes 0 items (length nodes) → Run 0 (events_of tokens nodes items) (length nodes)
  all_run items listed =
      let n = length nodes in
      let followed : (k : ℕ) → k < n → IsFollowed k = λ k less. (all_below (suc k) k (omega arith)).0 in
      let left : (k : ℕ) → k < n → IsLeft k = λ k less. (all_below (suc k) k (omega arith)).1 in
      subst (λ es. Run 0 es n) (inside_events (before [] n (events_at tokens nodes)) items) (through n followed left 0 n items listed (omega arith))

  all_told : (items : List ℕ) → AreListed nodes 0 items (length nodes) → Holds tokens nodes apart name (λ j. ⊥ ⊎ ((0 ≤ j) × (j < length nodes))) (onto [] (events_of tokens nodes items))
  all_told items listed = (all_run items listed).goes (λ j. ⊥) [] (λ j low high did. did) (events.at_first tokens nodes apart name)

pub marked : Laws.TagsAreMarked
marked tokens nodes items listed apart = subst (AreMarked tokens nodes) (all_came (events_of tokens nodes items)) ((all_run tokens nodes apart (λ t. t) items listed).marks [] tt)

pub stand : Laws.TagsStandForTags
stand tokens nodes items name listed apart j token has =
    subst (StandsForTag tokens nodes name token) (all_came (events_of tokens nodes items))
    (let h = all_told tokens nodes apart name items listed in
    let x = h.stand j token has (inr (omega arith, within (slice_get nodes j) refl has)) in
    record { what = x.what; is = x.is; node = x.own.node; tag = x.own.tag; own = x.own.what; begins = x.own.is; declares = x.own.declares; first = x.own.first })
  where
    within : (o : Option Node) → slice_get nodes j ≡ o → tag_if o tokens ≡ Some token → j < length nodes
    within None at e = let never : None ≡ Some token = e in absurd cc
    within (Some m) at e = slice_get_within nodes j m at
