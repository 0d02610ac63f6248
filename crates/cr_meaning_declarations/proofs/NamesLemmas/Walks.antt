-- The events that tell a declared identifier: those of its own declarator, and of what else has linkage nowhere.
use Rattle.std.proofs.Common.{◌≡◌, ℕ, zero, suc, ◌+◌, ◌-◌, ◌<◌, ◌==◌, Bool, true, false, ◌&&◌, not, List, [], ◌∷◌, ◌++◌, Option, None, Some, length, take, drop, nat_lt, slice_get, ◌⊎◌, inl, inr, refl, sym, ap, subst, ◌∙◌, arith}
use Rattle.std.specs.Prelude.{if◌then◌else◌}
use Rattle.std.specs.List.{flat_map}
use Rattle.std.proofs.lemmas.Bool.{false≢true, both_ways, not-true, and_parts, ltb-true}
use Rattle.std.proofs.lemmas.Option.{same_Some}
use Rattle.cr_tokens.specs.declared.token.Token.{Token}
use Rattle.cr_syntax.specs.declared.node.Kind.{Kind}
use Rattle.cr_syntax.specs.declared.node.Kind.TheVariants as kind
use Rattle.cr_syntax.specs.declared.node.Node.{Node}
use Rattle.cr_syntax.specs.declared.part.Part.{Part}
use Rattle.cr_syntax.specs.Tables.{rule_of, side_of}
use Rattle.cr_syntax.specs.Kept.{row_in}
use Rattle.cr_syntax_order.specs.Listed.{AreListed}
use Rattle.cr_syntax_nodes.specs.Laid.{stands_for}
use Rattle.cr_scopes_events.specs.declared.event.Role.{Role}
use Rattle.cr_scopes_events.specs.declared.event.Role.TheVariants as role
use Rattle.cr_scopes_events.specs.declared.event.Event.{Event}
use Rattle.cr_scopes_events.specs.declared.event.Event.TheVariants as event
use Rattle.cr_scopes_events.specs.declared.event.Step.{Step}
use Rattle.cr_scopes_events.specs.declared.event.Step.TheVariants.{Happens, Inside}
use Rattle.cr_scopes_events.specs.declared.naming.Storage.{Storage}
use Rattle.cr_scopes_events.specs.declared.naming.Naming.{Naming}
use Rattle.cr_scopes_events.specs.declared.naming.Naming.TheVariants.{Parameters, Members, Declared}
use Rattle.cr_scopes_events.specs.declared.declarator.Derivation.{Derivation}
use Rattle.cr_scopes_events.specs.Values.{before}
use Rattle.cr_scopes_events.specs.Declarators.{declarator_of}
use Rattle.cr_scopes_events.specs.Scripts.{kind_if, kind_at, first_if, parts_if, parts_at, inside, in_scope, in_scopes, block, storage_of, role_by, event_by, named, declarator_in, initialised, declares, declaration_in, is_identifier, tag_event, content_tag, lone_tag, lone_specifiers, declaration, own_parameters, list_of, items_of, members_of, definition, script_by, script_if, script_of}
use Rattle.cr_scopes_events.specs.Events.{events_by, events_at, events_of}
use Rattle.cr_scopes_events.proofs.Walks.{events_ruled}
use Rattle.cr_scopes.specs.Looking.{depth}
use Rattle.cr_scopes.specs.Resolved.{with_event, past_of}
use Rattle.cr_scopes_visibility.specs.Alone.Alone.{stands_alone, IsAlone}
use Rattle.cr_scopes_visibility.proofs.SightLemmas.Steps.{came_none, came_some}
use Rattle.cr_scopes_visibility.proofs.SightLemmas.Walks.{taken}
use Rattle.cr_typed.specs.declared.typed.Typed.{Typed}
use Rattle.cr_meaning_declarations.specs.Units.Owned.{AreOfUnit}
use Rattle.cr_meaning_declarations.proofs.UnitsLemmas.Rows.{clear_side, clear_laid, clear_at}
use Rattle.cr_meaning_declarations.proofs.UnitsLemmas.Handing.{laid_at, parts_below}
use Rattle.cr_meaning_declarations.proofs.NamesLemmas.Leaves.{is_use, no_tag, no_use}
use Rattle.cr_scopes_linkage.specs.Shared.Origins.{is_external, is_tagged}

-- ---- kinds that hold external declarations, and kinds that don't

abbrev pub is_holder : Kind → Bool
is_holder kind.Compound = true
is_holder kind.For = true
is_holder other = false

abbrev pub without : Kind → Kind → Part → Bool
without a b p = not (stands_for p a) && not (stands_for p b)

pub clears : (test : Kind → Bool) (a b : Kind) → ((k : Kind) → test k ≡ true → (k ≡ a) ⊎ (k ≡ b)) → (p : Part) (k : Kind) → without a b p ≡ true → stands_for p k ≡ true → test k ≡ false
clears test a b only p k c s = by (test k) refl
  where
    by : (x : Bool) → test k ≡ x → test k ≡ false
    by false q = q
    by true q = let both = and_parts (not (stands_for p a)) (not (stands_for p b)) c in elim (only k q) [
      | inl e ↦ absurd (both_ways (stands_for p a) (not-true (stands_for p a) both.0) (subst (λ (x : Kind). stands_for p x ≡ true) e s))
      | inr e ↦ absurd (both_ways (stands_for p b) (not-true (stands_for p b) both.1) (subst (λ (x : Kind). stands_for p x ≡ true) e s))
    ]

pub only_external : (k : Kind) → is_external k ≡ true → (k ≡ kind.Declaration) ⊎ (k ≡ kind.FunctionDefinition)
only_external kind.Declaration h = inl refl
only_external kind.FunctionDefinition h = inr refl
only_external k h = absurd (false≢true h)

only_holder : (k : Kind) → is_holder k ≡ true → (k ≡ kind.Compound) ⊎ (k ≡ kind.For)
only_holder kind.Compound h = inl refl
only_holder kind.For h = inr refl
only_holder k h = absurd (false≢true h)

pub no_external : (p : Part) (k : Kind) → without kind.Declaration kind.FunctionDefinition p ≡ true → stands_for p k ≡ true → is_external k ≡ false
no_external p k c s = clears is_external kind.Declaration kind.FunctionDefinition only_external p k c s

no_holder : (p : Part) (k : Kind) → without kind.Compound kind.For p ≡ true → stands_for p k ≡ true → is_holder k ≡ false
no_holder p k c s = clears is_holder kind.Compound kind.For only_holder p k c s

pub sides_clear : (k : Kind) → is_holder k ≡ false → clear_side is_external (without kind.Declaration kind.FunctionDefinition) no_external (side_of k) ≡ true
unfolding rule_of
sides_clear kind.Compound h = absurd (false≢true (sym h))
sides_clear kind.For h = absurd (false≢true (sym h))
sides_clear k h = refl

content_clear : clear_side is_holder (without kind.Compound kind.For) no_holder (side_of kind.StructContent) ≡ true
unfolding rule_of
content_clear = refl

-- ---- good events: each that tells the token has no linkage there

module _ (tok : ℕ) where
  abbrev pub IsGood : ℕ → List Event → Type 0
  IsGood d [] = Unit {0}
  IsGood d (event.Opens ∷ es) = IsGood (suc d) es
  IsGood d (event.Closes ∷ es) = IsGood (d - 1) es
  IsGood d (event.Name t r ∷ es) = (t ≡ tok → stands_alone (d == 0) r ≡ true) × IsGood d es
  IsGood d (event.Member t k ∷ es) = IsGood d es
  IsGood d (event.Node i ∷ es) = IsGood d es

  abbrev after : ℕ → List Event → ℕ
  after d [] = d
  after d (event.Opens ∷ es) = after (suc d) es
  after d (event.Closes ∷ es) = after (d - 1) es
  after d (event.Name t r ∷ es) = after d es
  after d (event.Member t k ∷ es) = after d es
  after d (event.Node i ∷ es) = after d es

  good_append : (d : ℕ) (xs ys : List Event) → IsGood d xs → IsGood (after d xs) ys → IsGood d (xs ++ ys)
  good_append d [] ys h g = g
  good_append d (event.Opens ∷ xs) ys h g = good_append (suc d) xs ys h g
  good_append d (event.Closes ∷ xs) ys h g = good_append (d - 1) xs ys h g
  good_append d (event.Name t r ∷ xs) ys h g = (h.0, good_append d xs ys h.1 g)
  good_append d (event.Member t k ∷ xs) ys h g = good_append d xs ys h g
  good_append d (event.Node i ∷ xs) ys h g = good_append d xs ys h g

  after_append : (d : ℕ) (xs ys : List Event) → after d (xs ++ ys) ≡ after (after d xs) ys
  after_append d [] ys = refl
  after_append d (event.Opens ∷ xs) ys = after_append (suc d) xs ys
  after_append d (event.Closes ∷ xs) ys = after_append (d - 1) xs ys
  after_append d (event.Name t r ∷ xs) ys = after_append d xs ys
  after_append d (event.Member t k ∷ xs) ys = after_append d xs ys
  after_append d (event.Node i ∷ xs) ys = after_append d xs ys

  -- ---- so of the events that came, the latest first

  record Came (events past : List Event) (k : ℕ) : Type 0 where
    alone : IsAlone tok past
    rest : IsGood (depth past) (drop k events)

  one_came : (past : List Event) (x : Event) (rest : List Event) → IsAlone tok past → IsGood (depth past) (x ∷ rest) → IsAlone tok (x ∷ past) × IsGood (depth (x ∷ past)) rest
  one_came past event.Opens rest a g = (a, g)
  one_came past event.Closes rest a g = (a, g)
  one_came past (event.Name t r) rest a g = ((g.0, a), g.1)
  one_came past (event.Member t k) rest a g = (a, g)
  one_came past (event.Node i) rest a g = (a, g)

  came : (events : List Event) → IsGood 0 events → (k : ℕ) → Came events (past_of events k) k
  came events g zero = record { alone = tt; rest = g }
  came events g (suc k) = by (slice_get events k) refl (came events g k)
    where
      by : (o : Option Event) → slice_get events k ≡ o → Came events (past_of events k) k → Came events (with_event o (past_of events k)) (suc k)
      by None e h = record { alone = h.alone; rest = subst (IsGood (depth (past_of events k))) (sym (came_none events k e)) h.rest }
      by (Some x) e h =
          let both = one_came (past_of events k) x (drop (suc k) events) h.alone (subst (IsGood (depth (past_of events k))) (came_some events k x e) h.rest) in
          record { alone = both.0; rest = both.1 }

  pub all_alone : (events : List Event) → IsGood 0 events → IsAlone tok (past_of events (length events))
  all_alone events g = (came events g (length events)).alone

  -- ---- scripts

  module _ (t : Typed) (unit : AreOfUnit t) (listed : AreListed t.nodes 0 t.items (length t.nodes)) (own : ℕ) (n : Node) (here : slice_get t.nodes own ≡ Some n) (is : n.kind ≡ kind.NameDeclarator)
      (first : n.first ≡ tok) (IsItem : ℕ → Type 0) where
    -- outside all scopes an external declaration is one of the unit's items
    abbrev pub IsPlaced : ℕ → ℕ → Type 0
    IsPlaced d i = d ≡ 0 → (m : Node) → slice_get t.nodes i ≡ Some m → is_external m.kind ≡ true → IsItem i

    abbrev AreGood : ℕ → List Step → Type 0
    AreGood d [] = Unit {0}
    AreGood d (Inside part ∷ steps) = IsPlaced d part × AreGood d steps
    AreGood d (Happens event.Opens ∷ steps) = AreGood (suc d) steps
    AreGood d (Happens event.Closes ∷ steps) = AreGood (d - 1) steps
    AreGood d (Happens (event.Name u r) ∷ steps) = (u ≡ tok → stands_alone (d == 0) r ≡ true) × AreGood d steps
    AreGood d (Happens (event.Member u k) ∷ steps) = AreGood d steps
    AreGood d (Happens (event.Node i) ∷ steps) = AreGood d steps

    abbrev ends : ℕ → List Step → ℕ
    ends d [] = d
    ends d (Inside part ∷ steps) = ends d steps
    ends d (Happens event.Opens ∷ steps) = ends (suc d) steps
    ends d (Happens event.Closes ∷ steps) = ends (d - 1) steps
    ends d (Happens (event.Name u r) ∷ steps) = ends d steps
    ends d (Happens (event.Member u k) ∷ steps) = ends d steps
    ends d (Happens (event.Node i) ∷ steps) = ends d steps

    -- steps that are good from a depth on, and end at it
    record AreFine (d : ℕ) (steps : List Step) : Type 0 where
      good : AreGood d steps
      level : ends d steps ≡ d

    more_good : (d : ℕ) (xs ys : List Step) → AreGood d xs → AreGood (ends d xs) ys → AreGood d (xs ++ ys)
    more_good d [] ys h g = g
    more_good d (Inside part ∷ xs) ys h g = (h.0, more_good d xs ys h.1 g)
    more_good d (Happens event.Opens ∷ xs) ys h g = more_good (suc d) xs ys h g
    more_good d (Happens event.Closes ∷ xs) ys h g = more_good (d - 1) xs ys h g
    more_good d (Happens (event.Name u r) ∷ xs) ys h g = (h.0, more_good d xs ys h.1 g)
    more_good d (Happens (event.Member u k) ∷ xs) ys h g = more_good d xs ys h g
    more_good d (Happens (event.Node i) ∷ xs) ys h g = more_good d xs ys h g

    ends_append : (d : ℕ) (xs ys : List Step) → ends d (xs ++ ys) ≡ ends (ends d xs) ys
    ends_append d [] ys = refl
    ends_append d (Inside part ∷ xs) ys = ends_append d xs ys
    ends_append d (Happens event.Opens ∷ xs) ys = ends_append (suc d) xs ys
    ends_append d (Happens event.Closes ∷ xs) ys = ends_append (d - 1) xs ys
    ends_append d (Happens (event.Name u r) ∷ xs) ys = ends_append d xs ys
    ends_append d (Happens (event.Member u k) ∷ xs) ys = ends_append d xs ys
    ends_append d (Happens (event.Node i) ∷ xs) ys = ends_append d xs ys

    both : (d : ℕ) (xs ys : List Step) → AreFine d xs → AreFine d ys → AreFine d (xs ++ ys)
    both d xs ys h g = record {
      good = more_good d xs ys h.good (subst (λ e. AreGood e ys) (sym h.level) g.good);
      level = ends_append d xs ys ∙ ap (λ e. ends e ys) h.level ∙ g.level;
    }

    nothing : (d : ℕ) → AreFine d []
    nothing d = record { good = tt; level = refl }

    -- what is told of each of some numbers
    each : (d : ℕ) (f : ℕ → List Step) (ps : List ℕ) → ((k p : ℕ) → slice_get ps k ≡ Some p → AreFine d (f p)) → AreFine d (flat_map f ps)
    each d f [] h = nothing d
    each d f (p ∷ ps) h = both d (f p) (flat_map f ps) (h 0 p refl) (each d f ps (λ k q e. h (suc k) q e))

    through : (d : ℕ) (ps : List ℕ) → ((k p : ℕ) → slice_get ps k ≡ Some p → IsPlaced d p) → AreFine d (inside ps)
    through d ps h = each d (λ part. Inside part ∷ []) ps (λ k p e. record { good = (h k p e, tt); level = refl })

    scope : (d : ℕ) (steps : List Step) → AreFine (suc d) steps → AreFine d (in_scope steps)
    scope d steps h = record {
      good = more_good (suc d) steps (Happens event.Closes ∷ []) h.good tt;
      level = ends_append (suc d) steps (Happens event.Closes ∷ []) ∙ ap (λ e. e - 1) h.level ∙ (let e : suc d - 1 ≡ d = omega arith in e);
    }

    -- within a scope parts are free
    free : (d p : ℕ) → IsPlaced (suc d) p
    free d p e = absurd (omega (arith, e))

    within : (d : ℕ) (ps : List ℕ) → AreFine (suc d) (inside ps)
    within d ps = through (suc d) ps (λ k p e. free d p)

    scopes : (d : ℕ) (ps : List ℕ) → AreFine (suc d) (in_scopes ps)
    scopes d ps = each (suc d) (λ p. in_scope (Inside p ∷ [])) ps (λ k p e. scope (suc d) (Inside p ∷ []) (record { good = (free (suc d) p, tt); level = refl }))

    blocks : (d : ℕ) (a b c : List ℕ) → AreFine d (block a b c)
    blocks d a b c = scope d (inside a ++ in_scopes b ++ inside c) (both (suc d) (inside a ++ in_scopes b) (inside c) (both (suc d) (inside a) (in_scopes b) (within d a) (scopes d b)) (within d c))

    -- ---- names

    lone : (d u : ℕ) (r : Role) → (u ≡ tok → stands_alone (d == 0) r ≡ true) → AreFine d (Happens (event.Name u r) ∷ [])
    lone d u r h = record { good = (h, tt); level = refl }

    tag_of : (d u : ℕ) (r : Role) (b : Bool) → (u ≡ tok → ⊥) → AreFine d (tag_event r u b)
    tag_of d u r false h = nothing d
    tag_of d u r true h = lone d u r (λ e. absurd (h e))

    -- what a declarator names, by the way it is named
    abbrev IsNamed : ℕ → Naming → ℕ → Type 0
    IsNamed d way q = (name : ℕ) → (declarator_of t.nodes q).name ≡ Some name → name ≡ tok → (storage : Storage) → way ≡ Declared storage → stands_alone (d == 0) (role_by storage (declarator_of t.nodes q).next) ≡ true

    one_name : (d : ℕ) (way : Naming) (o : Option ℕ) (next : Derivation) → ((name : ℕ) → o ≡ Some name → name ≡ tok → (storage : Storage) → way ≡ Declared storage → stands_alone (d == 0) (role_by storage next) ≡ true)
        → AreFine d (elim o [ None ↦ [] | Some name ↦ Happens (event_by way next name) ∷ [] ])
    one_name d way None next h = nothing d
    one_name d Parameters (Some name) next h = lone d name role.Parameter (λ e. refl)
    one_name d (Members structure) (Some name) next h = record { good = tt; level = refl }
    one_name d (Declared storage) (Some name) next h = lone d name (role_by storage next) (λ e. h name refl e storage refl)

    declarator : (d : ℕ) (way : Naming) (q : ℕ) → IsPlaced d q → IsNamed d way q → AreFine d (declarator_in way t.nodes q)
    declarator d way q placed h =
        both d (Inside q ∷ []) (named way (declarator_of t.nodes q)) (record { good = (placed, tt); level = refl })
        (one_name d way (declarator_of t.nodes q).name (declarator_of t.nodes q).next h)

    -- ---- the parts of a node

    parts_placed : (d i : ℕ) (m : Node) → slice_get t.nodes i ≡ Some m → is_holder m.kind ≡ false → (k p : ℕ) → slice_get m.parts k ≡ Some p → IsPlaced d p
    parts_placed d i m at holds k p e zero_is x there external =
        let row = clear_laid is_external (without kind.Declaration kind.FunctionDefinition) no_external unit.tokens (side_of m.kind) (row_in t.nodes m.parts) m.first (m.last + 1) (sides_clear m.kind holds) (laid_at t unit i m at) in
        let one = clear_at is_external (without kind.Declaration kind.FunctionDefinition) no_external t.nodes unit.below m.parts (parts_below t unit i m at) row k p e in
        let same : one.0 ≡ x = same_Some one.0 x (sym one.1.0 ∙ there) in
        absurd (both_ways (is_external one.0.kind) one.1.1 (subst (λ (y : Node). is_external y.kind ≡ true) (sym same) external))

    -- those of a part that is an initialised declarator, or stands for members
    parts_of : (d p : ℕ) → ((m : Node) → slice_get t.nodes p ≡ Some m → is_holder m.kind ≡ false) → (k q : ℕ) → slice_get (parts_at t.nodes p) k ≡ Some q → IsPlaced d q
    parts_of d p holds k q e = by (slice_get t.nodes p) refl e
      where
        by : (o : Option Node) → slice_get t.nodes p ≡ o → slice_get (parts_if o) k ≡ Some q → IsPlaced d q
        by None at e = absurd cc
        by (Some m) at e = parts_placed d p m at (holds m at) k q e

    dropped : (ps : List ℕ) (k p : ℕ) → slice_get (drop 1 ps) k ≡ Some p → slice_get ps (suc k) ≡ Some p
    dropped [] k p e = absurd cc
    dropped (q ∷ ps) k p e = e

    -- ---- declarations: specifiers and declarators

    -- a part that declares, or its first part where it is initialised
    abbrev pub IsDeclaring : ℕ → ℕ → Type 0
    IsDeclaring p q = (p ≡ q) ⊎ ((kind_at t.nodes p ≡ Some kind.InitDeclarator) × (slice_get (parts_at t.nodes p) 0 ≡ Some q))

    initialised_fine : (d : ℕ) (way : Naming) (p : ℕ) → kind_at t.nodes p ≡ Some kind.InitDeclarator → ((q : ℕ) → IsDeclaring p q → IsNamed d way q) → AreFine d (initialised way t.nodes (parts_at t.nodes p))
    initialised_fine d way p e h =
        both d (flat_map (declarator_in way t.nodes) (take 1 (parts_at t.nodes p))) (inside (drop 1 (parts_at t.nodes p)))
        (each d (declarator_in way t.nodes) (take 1 (parts_at t.nodes p)) (λ k q f. declarator d way q (placed k q (taken 1 (parts_at t.nodes p) k q f)) (h q (inr (e, first_of (parts_at t.nodes p) k q f)))))
        (through d (drop 1 (parts_at t.nodes p)) (λ k q f. placed (suc k) q (dropped (parts_at t.nodes p) k q f)))
      where
        placed : (k q : ℕ) → slice_get (parts_at t.nodes p) k ≡ Some q → IsPlaced d q
        placed k q f = parts_of d p (λ m at. let is_init : Some m.kind ≡ Some kind.InitDeclarator = sym (ap kind_if at) ∙ e in let same : m.kind ≡ kind.InitDeclarator = cc in ap is_holder same) k q f

        first_of : (ps : List ℕ) (k q : ℕ) → slice_get (take 1 ps) k ≡ Some q → slice_get ps 0 ≡ Some q
        first_of [] k q f = absurd cc
        first_of (x ∷ ps) zero q f = f
        first_of (x ∷ ps) (suc k) q f = absurd cc

    declares_fine : (d : ℕ) (way : Naming) (p : ℕ) (o : Option Kind) → kind_at t.nodes p ≡ o → IsPlaced d p → ((q : ℕ) → IsDeclaring p q → IsNamed d way q) → AreFine d (declares way t.nodes p o)
    declares_fine d way p (Some kind.InitDeclarator) e placed h = initialised_fine d way p e h
    declares_fine d way p o e placed h = declarator d way p placed (h p (inl refl))

    declaration_fine : (d : ℕ) (way : Naming) (ps : List ℕ) → ((k p : ℕ) → slice_get ps k ≡ Some p → IsPlaced d p) → ((k p q : ℕ) → slice_get ps (suc k) ≡ Some p → IsDeclaring p q → IsNamed d way q)
        → AreFine d (declaration_in way t.nodes ps)
    declaration_fine d way ps placed h =
        both d (inside (take 1 ps)) (flat_map (λ part. declares way t.nodes part (kind_at t.nodes part)) (drop 1 ps))
        (through d (take 1 ps) (λ k p e. placed k p (taken 1 ps k p e)))
        (each d (λ part. declares way t.nodes part (kind_at t.nodes part)) (drop 1 ps)
        (λ k p e. declares_fine d way p (kind_at t.nodes p) refl (placed (suc k) p (dropped ps k p e)) (λ q f. h k p q (dropped ps k p e) f)))

    -- what declarations and definitions name
    abbrev pub AreNamedWell : Type 0
    AreNamedWell = (d i : ℕ) (m : Node) → slice_get t.nodes i ≡ Some m → is_external m.kind ≡ true → IsPlaced d i → (k p q : ℕ) → (m.kind ≡ kind.FunctionDefinition → k ≡ 0) → slice_get m.parts (suc k) ≡ Some p → IsDeclaring p q
        → (declarator_of t.nodes q).name ≡ Some tok → stands_alone (d == 0) (role_by (storage_of t.nodes m.parts) (declarator_of t.nodes q).next) ≡ true

    module _ (heart : AreNamedWell) (tokens : List Token) where
      ends_there : (i : ℕ) (m : Node) → slice_get t.nodes i ≡ Some m → is_tagged m.kind ≡ true → m.first + 1 ≡ tok → ⊥
      ends_there i m at tagged e = no_tag t unit listed own i n m here is at tagged (e ∙ sym first)

      not_used : (i : ℕ) (m : Node) → slice_get t.nodes i ≡ Some m → is_use m.kind ≡ true → m.first ≡ tok → ⊥
      not_used i m at used e = no_use t unit listed own i n m here is at used (e ∙ sym first)

      named_by : (d i : ℕ) (m : Node) → slice_get t.nodes i ≡ Some m → is_external m.kind ≡ true → IsPlaced d i → (k p q : ℕ) → (m.kind ≡ kind.FunctionDefinition → k ≡ 0) → slice_get m.parts (suc k) ≡ Some p → IsDeclaring p q
          → IsNamed d (Declared (storage_of t.nodes m.parts)) q
      named_by d i m at external placed k p q next e f name named same storage way =
          let is_storage : storage_of t.nodes m.parts ≡ storage = cc in
          subst (λ s. stands_alone (d == 0) (role_by s (declarator_of t.nodes q).next) ≡ true) is_storage (heart d i m at external placed k p q next e f (named ∙ ap Some same))

      plainly : (d : ℕ) (way : Naming) → ((storage : Storage) → way ≡ Declared storage → ⊥) → (q : ℕ) → IsNamed d way q
      plainly d way f q name named same storage e = absurd (f storage e)

      lone_fine : (d i : ℕ) (m : Node) (p : ℕ) → IsPlaced d p → (o : Option Node) → slice_get t.nodes p ≡ o → AreFine d (lone_specifiers t.nodes p (kind_if o))
      lone_fine d i m p placed None at = record { good = (placed, tt); level = refl }
      lone_fine d i m p placed (Some x) at = by x.kind refl
        where
          tags : (o : Option Node) → slice_get t.nodes p ≡ o → is_tagged x.kind ≡ true → o ≡ Some x → AreFine d (lone_tag (first_if o))
          tags None there tagged e = absurd cc
          tags (Some y) there tagged e =
              let same : y ≡ x = same_Some y x e in
              tag_of d (y.first + 1) role.Alone true (λ f. ends_there p y there (subst (λ (z : Node). is_tagged z.kind ≡ true) (sym same) tagged) f)

          by : (k : Kind) → x.kind ≡ k → AreFine d (lone_specifiers t.nodes p (Some k))
          by kind.StructTag e = tags (slice_get t.nodes p) refl (ap is_tagged e) at
          by k e = record { good = (placed, tt); level = refl }

      content : (d i : ℕ) (m : Node) → slice_get t.nodes i ≡ Some m → is_tagged m.kind ≡ true → AreFine d (content_tag tokens m.first)
      content d i m at tagged = tag_of d (m.first + 1) role.Content (is_identifier (slice_get tokens (m.first + 1))) (λ e. ends_there i m at tagged e)

      -- a member's declaration holds no blocks
      member_holds : (i : ℕ) (m : Node) → slice_get t.nodes i ≡ Some m → m.kind ≡ kind.StructContent → (k p : ℕ) → slice_get m.parts k ≡ Some p → (x : Node) → slice_get t.nodes p ≡ Some x → is_holder x.kind ≡ false
      member_holds i m at is_content k p e x there =
          let F : Kind → Type 0 = λ y. clear_side is_holder (without kind.Compound kind.For) no_holder (side_of y) ≡ true in
          let row = clear_laid is_holder (without kind.Compound kind.For) no_holder unit.tokens (side_of m.kind) (row_in t.nodes m.parts) m.first (m.last + 1) (subst F (sym is_content) content_clear) (laid_at t unit i m at) in
          let one = clear_at is_holder (without kind.Compound kind.For) no_holder t.nodes unit.below m.parts (parts_below t unit i m at) row k p e in
          let same : one.0 ≡ x = same_Some one.0 x (sym one.1.0 ∙ there) in
          subst (λ (y : Node). is_holder y.kind ≡ false) same one.1.1

      -- ---- all kinds

      all_parts : (d i : ℕ) (m : Node) → slice_get t.nodes i ≡ Some m → is_holder m.kind ≡ false → AreFine d (inside m.parts)
      all_parts d i m at holds = through d m.parts (λ k p e. parts_placed d i m at holds k p e)

      by_declaration : (d i : ℕ) (m : Node) → slice_get t.nodes i ≡ Some m → m.kind ≡ kind.Declaration → IsPlaced d i → (ps : List ℕ) → m.parts ≡ ps → AreFine d (declaration t.nodes ps)
      by_declaration d i m at is_declaration placed [] e = nothing d
      by_declaration d i m at is_declaration placed (p ∷ []) e =
          lone_fine d i m p (parts_placed d i m at (ap is_holder is_declaration) 0 p (ap (λ l. slice_get l 0) e)) (slice_get t.nodes p) refl
      by_declaration d i m at is_declaration placed (p ∷ q ∷ ps) e =
          declaration_fine d (Declared (storage_of t.nodes (p ∷ q ∷ ps))) (p ∷ q ∷ ps)
          (λ k x f. parts_placed d i m at (ap is_holder is_declaration) k x (ap (λ l. slice_get l k) e ∙ f))
          (λ k x y f g. subst (λ l. IsNamed d (Declared (storage_of t.nodes l)) y) e
          (named_by d i m at (ap is_external is_declaration) placed k x y (λ z. let never : kind.Declaration ≡ kind.FunctionDefinition = sym is_declaration ∙ z in cc) (ap (λ l. slice_get l (suc k)) e ∙ f) g))

      second_of : (ps : List ℕ) (k x : ℕ) → slice_get (take 2 ps) (suc k) ≡ Some x → k ≡ 0
      second_of [] k x e = absurd cc
      second_of (p ∷ []) k x e = absurd cc
      second_of (p ∷ q ∷ ps) zero x e = refl
      second_of (p ∷ q ∷ ps) (suc k) x e = absurd cc

      by_definition : (d i : ℕ) (m : Node) → slice_get t.nodes i ≡ Some m → m.kind ≡ kind.FunctionDefinition → IsPlaced d i → AreFine d (definition t.nodes m.parts)
      by_definition d i m at is_definition placed =
          both d (declaration_in (Declared (storage_of t.nodes m.parts)) t.nodes (take 2 m.parts)) _
          (declaration_fine d (Declared (storage_of t.nodes m.parts)) (take 2 m.parts)
          (λ k x f. parts_placed d i m at (ap is_holder is_definition) k x (taken 2 m.parts k x f))
          (λ k x y f g. named_by d i m at (ap is_external is_definition) placed k x y (λ z. second_of m.parts k x f) (taken 2 m.parts (suc k) x f) g))
          (scope d (flat_map (own_parameters t.nodes) (take 1 (drop 1 m.parts)) ++ flat_map (items_of t.nodes) (drop 2 m.parts))
          (both (suc d) (flat_map (own_parameters t.nodes) (take 1 (drop 1 m.parts))) (flat_map (items_of t.nodes) (drop 2 m.parts))
          (each (suc d) (own_parameters t.nodes) (take 1 (drop 1 m.parts)) (λ k p e. within d (list_of t.nodes (declarator_of t.nodes p).next)))
          (each (suc d) (items_of t.nodes) (drop 2 m.parts) (λ k p e. within d (parts_at t.nodes p)))))

      by_kind : (d i : ℕ) (m : Node) → slice_get t.nodes i ≡ Some m → IsPlaced d i → (k : Kind) → m.kind ≡ k → AreFine d (script_by k tokens t.nodes i m)
      by_kind d i m at placed kind.FunctionDefinition e = by_definition d i m at e placed
      by_kind d i m at placed kind.Declaration e = by_declaration d i m at e placed m.parts refl
      by_kind d i m at placed kind.Parameter e =
          declaration_fine d Parameters m.parts (λ k p f. parts_placed d i m at (ap is_holder e) k p f) (λ k p q f g. plainly d Parameters (λ s x. cc) q)
      by_kind d i m at placed kind.FunctionDeclarator e =
          both d (inside (take 1 m.parts)) (block (drop 1 m.parts) [] []) (through d (take 1 m.parts) (λ k p f. parts_placed d i m at (ap is_holder e) k p (taken 1 m.parts k p f))) (blocks d (drop 1 m.parts) [] [])
      by_kind d i m at placed kind.StructContent e =
          both d (content_tag tokens m.first) (flat_map (members_of t.nodes i) m.parts) (content d i m at (ap is_tagged e))
          (each d (members_of t.nodes i) m.parts (λ k p f. declaration_fine d (Members i) (parts_at t.nodes p) (λ l q g. parts_of d p (λ x there. member_holds i m at e k p f x there) l q g)
          (λ l q r g h. plainly d (Members i) (λ s x. cc) r)))
      by_kind d i m at placed kind.EnumContent e = both d (content_tag tokens m.first) (inside m.parts) (content d i m at (ap is_tagged e)) (all_parts d i m at (ap is_holder e))
      by_kind d i m at placed kind.Enumerator e = both d (inside m.parts) (Happens (event.Name m.first role.Enumerator) ∷ []) (all_parts d i m at (ap is_holder e)) (lone d m.first role.Enumerator (λ f. refl))
      by_kind d i m at placed kind.StructTag e = tag_of d (m.first + 1) role.Mentioned true (λ f. ends_there i m at (ap is_tagged e) f)
      by_kind d i m at placed kind.EnumTag e = tag_of d (m.first + 1) role.Mentioned true (λ f. ends_there i m at (ap is_tagged e) f)
      by_kind d i m at placed kind.TypedefName e = lone d m.first role.Used (λ f. absurd (not_used i m at (ap (is_use) e) f))
      by_kind d i m at placed kind.Identifier e = lone d m.first role.Used (λ f. absurd (not_used i m at (ap (is_use) e) f))
      by_kind d i m at placed kind.Call e =
          both d (Happens (event.Name m.first role.Used) ∷ []) (inside m.parts) (lone d m.first role.Used (λ f. absurd (not_used i m at (ap (is_use) e) f))) (all_parts d i m at (ap is_holder e))
      by_kind d i m at placed kind.Compound e = blocks d m.parts [] []
      by_kind d i m at placed kind.If e = blocks d (take 1 m.parts) (drop 1 m.parts) []
      by_kind d i m at placed kind.Switch e = blocks d (take 1 m.parts) (drop 1 m.parts) []
      by_kind d i m at placed kind.While e = blocks d (take 1 m.parts) (drop 1 m.parts) []
      by_kind d i m at placed kind.Do e = blocks d [] (take 1 m.parts) (drop 1 m.parts)
      by_kind d i m at placed kind.For e = blocks d (take (length m.parts - 1) m.parts) (drop (length m.parts - 1) m.parts) []
      by_kind d i m at placed k e = all_parts d i m at (ap is_holder e)

      script : (d i : ℕ) → IsPlaced d i → AreFine d (script_of tokens t.nodes i)
      script d i placed = by (slice_get t.nodes i) refl
        where
          by : (o : Option Node) → slice_get t.nodes i ≡ o → AreFine d (script_if o tokens t.nodes i)
          by None at = nothing d
          by (Some m) at = by_kind d i m at placed m.kind refl

      -- ---- all nodes

      record IsTold (i : ℕ) : Type 0 where
        good : (d : ℕ) → IsPlaced d i → IsGood d (events_at tokens t.nodes i)
        level : (d : ℕ) → IsPlaced d i → after d (events_at tokens t.nodes i) ≡ d

      part_good : (i d p : ℕ) → ((k : ℕ) → k < i → IsTold k) → IsPlaced d p → (b : Bool) → nat_lt p i ≡ b → IsGood d (if b then events_at tokens t.nodes p else [])
      part_good i d p told placed true q = (told p (ltb-true p i q)).good d placed
      part_good i d p told placed false q = tt

      part_level : (i d p : ℕ) → ((k : ℕ) → k < i → IsTold k) → IsPlaced d p → (b : Bool) → nat_lt p i ≡ b → after d (if b then events_at tokens t.nodes p else []) ≡ d
      part_level i d p told placed true q = (told p (ltb-true p i q)).level d placed
      part_level i d p told placed false q = refl

      abbrev events_in : ℕ → List Step → List Event
      events_in i steps = flat_map (events_by (before [] i (events_at tokens t.nodes))) steps

      steps_good : (i d : ℕ) (steps : List Step) → ((k : ℕ) → k < i → IsTold k) → AreGood d steps → IsGood d (events_in i steps)
      steps_good i d [] told h = tt
      steps_good i d (Inside p ∷ steps) told h =
          good_append d (before [] i (events_at tokens t.nodes) p) (events_in i steps) (part_good i d p told h.0 (nat_lt p i) refl)
          (subst (λ e. IsGood e (events_in i steps)) (sym (part_level i d p told h.0 (nat_lt p i) refl)) (steps_good i d steps told h.1))
      steps_good i d (Happens event.Opens ∷ steps) told h = steps_good i (suc d) steps told h
      steps_good i d (Happens event.Closes ∷ steps) told h = steps_good i (d - 1) steps told h
      steps_good i d (Happens (event.Name u r) ∷ steps) told h = (h.0, steps_good i d steps told h.1)
      steps_good i d (Happens (event.Member u k) ∷ steps) told h = steps_good i d steps told h
      steps_good i d (Happens (event.Node k) ∷ steps) told h = steps_good i d steps told h

      steps_level : (i d : ℕ) (steps : List Step) → ((k : ℕ) → k < i → IsTold k) → AreGood d steps → after d (events_in i steps) ≡ ends d steps
      steps_level i d [] told h = refl
      steps_level i d (Inside p ∷ steps) told h =
          after_append d (before [] i (events_at tokens t.nodes) p) (events_in i steps) ∙ ap (λ e. after e (events_in i steps)) (part_level i d p told h.0 (nat_lt p i) refl) ∙ steps_level i d steps told h.1
      steps_level i d (Happens event.Opens ∷ steps) told h = steps_level i (suc d) steps told h
      steps_level i d (Happens event.Closes ∷ steps) told h = steps_level i (d - 1) steps told h
      steps_level i d (Happens (event.Name u r) ∷ steps) told h = steps_level i d steps told h.1
      steps_level i d (Happens (event.Member u k) ∷ steps) told h = steps_level i d steps told h
      steps_level i d (Happens (event.Node k) ∷ steps) told h = steps_level i d steps told h

      one_told : (i : ℕ) → ((k : ℕ) → k < i → IsTold k) → IsTold i
      one_told i told = record {
        good = λ d placed. subst (IsGood d) (sym (events_ruled tokens t.nodes i)) (steps_good i d (script_of tokens t.nodes i) told (script d i placed).good);
        level = λ d placed.
            let fine = script d i placed in
            ap (after d) (events_ruled tokens t.nodes i) ∙ steps_level i d (script_of tokens t.nodes i) told fine.good ∙ fine.level;
      }

      told_below : (m i : ℕ) → i < m → IsTold i
      told_below zero i low = absurd (omega (arith, low))
      told_below (suc m) i low = one_told i (λ k less. told_below m k (omega (arith, low, less)))

      pub unit_good : ((k p : ℕ) → slice_get t.items k ≡ Some p → IsItem p) → IsGood 0 (events_of tokens t.nodes t.items)
      unit_good are = items_good t.items are
        where
          told : (k : ℕ) → k < length t.nodes → IsTold k
          told k less = told_below (suc k) k (omega arith)

          items_good : (ps : List ℕ) → ((k p : ℕ) → slice_get ps k ≡ Some p → IsItem p) → IsGood 0 (flat_map (before [] (length t.nodes) (events_at tokens t.nodes)) ps)
          items_good [] are = tt
          items_good (p ∷ ps) are =
              good_append 0 (before [] (length t.nodes) (events_at tokens t.nodes) p) (flat_map (before [] (length t.nodes) (events_at tokens t.nodes)) ps)
              (part_good (length t.nodes) 0 p told (λ e m at x. are 0 p refl) (nat_lt p (length t.nodes)) refl)
              (subst (λ e. IsGood e (flat_map (before [] (length t.nodes) (events_at tokens t.nodes)) ps)) (sym (part_level (length t.nodes) 0 p told (λ e m at x. are 0 p refl) (nat_lt p (length t.nodes)) refl))
              (items_good ps (λ k q e. are (suc k) q e)))
