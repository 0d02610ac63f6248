-- A used name stands for the entity of the object or function whose declaration it sees: what it sees has linkage wherever it is told, or is told
-- once, or has none (C11 6.2.1p4, 6.2.2).
use Rattle.std.proofs.Common.{◌≡◌, ℕ, zero, suc, ◌+◌, ◌<◌, ◌≤◌, ◌==◌, ◌⊎◌, inl, inr, Bool, true, false, not, ◌&&◌, ◌||◌, List, [], ◌∷◌, None, Some, length, slice_get, slice_index_or, refl, sym, ap, subst, ◌∙◌, arith, if◌then◌else◌}
use Rattle.std.proofs.lemmas.Bool.{cases_eq, false≢true, and_parts, or_left, or_right, ne_eqb}
use Rattle.std.proofs.lemmas.Option.{same_Some}
use Rattle.cr_syntax.specs.declared.node.Kind.{Kind}
use Rattle.cr_syntax.specs.declared.node.Kind.TheVariants as kind
use Rattle.cr_syntax.specs.declared.node.Node.{Node as SyntaxNode}
use Rattle.cr_scopes_events.specs.declared.event.Role.{Role}
use Rattle.cr_scopes_events.specs.declared.event.Role.TheVariants as role
use Rattle.cr_scopes_events.specs.declared.event.Event.{Event}
use Rattle.cr_scopes_events.specs.declared.event.Event.TheVariants.{Node, Opens, Closes, Name, Member}
use Rattle.cr_scopes_events.specs.Declarators.{declarator_of}
use Rattle.cr_scopes_events.specs.Scripts.{storage_of, role_by}
use Rattle.cr_scopes_events.specs.Events.{events_of}
use Rattle.cr_scopes.specs.declared.scope.Space.TheVariants.{Ordinary}
use Rattle.cr_scopes.specs.Looking.{stands_in}
use Rattle.cr_scopes.specs.Resolved.{past_of}
use Rattle.cr_scopes.specs.Spelled.{name_of as spelled_name}
use Rattle.cr_scopes.specs.States.{name_in}
use Rattle.cr_scopes.specs.Units.{unit_events}
use Rattle.cr_scopes_visibility.specs.Alone.Alone.{stands_alone, IsAlone}
use Rattle.cr_scopes_visibility.specs.Alone.Sight.{is_used}
use Rattle.cr_scopes_bindings.specs.Entities.{entity_at, declared_entity}
use Rattle.cr_scopes_bindings.specs.Visible.{is_named, visible}
use Rattle.cr_scopes_linkage.specs.Functions.Functions.{is_other as is_unlike}
use Rattle.cr_scopes_linkage.proofs.FunctionsLemmas.Shared.{has_entity}
use Rattle.cr_scopes_linkage.specs.Meant.Laws.{times, is_other, AreSorted}
use Rattle.cr_scopes_linkage.proofs.MeantLemmas.Entities.{stand as linked_stand}
use Rattle.cr_scopes_visibility.specs.Once.Told.{count_of}
use Rattle.cr_scopes_linkage.specs.Shared.Sorts.{is_value, Never}
use Rattle.cr_scopes_linkage.specs.Shared.Origins.{is_external, IsDeclarer}
use Rattle.cr_scopes_visibility.specs.Sight.Scopes.{is_using}
use Rattle.cr_scopes_visibility.specs.Told.Told.{AreApart, IsTold}
use Rattle.cr_scopes_visibility.proofs.ToldLemmas.Walks.{told}
use Rattle.cr_scopes_visibility.specs.Uses.Uses.{is_declared, is_before, Finds}
use Rattle.cr_scopes_visibility.proofs.UsesLemmas.Finding.{all_find}
use Rattle.cr_typed.specs.declared.typed.Typed.{Typed}
use Rattle.cr_meaning_declarations.proofs.NamesLemmas.Walks.{AreNamedWell, all_alone, unit_good}
use Rattle.cr_meaning_declarations.specs.Declared.Files.{IsUnitOfFile}
use Rattle.cr_meaning_declarations.proofs.LinkedLemmas.Owned.{HasOwn, own_there, one_declaration, one_role}
use Rattle.cr_meaning_declarations.proofs.LinkedLemmas.Sorts.{one_sort}
use Rattle.cr_meaning_declarations.proofs.DeclaredLemmas.Files.{has_unit}
use Rattle.cr_meaning_references.proofs.ToldLemmas.Orderly.{apart}
use Rattle.cr_meaning_objects.proofs.MainsLemmas.Defined.{value_plain, never_past, each, values}
use Rattle.cr_meaning_objects.proofs.ObjectsLemmas.Declaring.{entity_of_declared}
use Rattle.cr_meaning_files.specs.Celled as Laws
use Rattle.cr_meaning_files.specs.Celled.{IsSteady}
use Rattle.cr_meaning_files.proofs.Visible.{counted, have}
use Rattle.cr_meaning_files.proofs.Once as external

-- ---- events

-- what is never told as the one is never told as the other
weaker : (test other : Role → Bool) → ((r : Role) → test r ≡ false → other r ≡ false) → (token : ℕ) (past : List Event) → Never test token past → Never other token past
weaker test other f token [] h = tt
weaker test other f token (Name t r ∷ past) h = ((λ e. f r (h.0 e)), weaker test other f token past h.1)
weaker test other f token (Opens ∷ past) h = weaker test other f token past h
weaker test other f token (Closes ∷ past) h = weaker test other f token past h
weaker test other f token (Member t k ∷ past) h = weaker test other f token past h
weaker test other f token (Node i ∷ past) h = weaker test other f token past h

no_use : (r : Role) → is_unlike r ≡ false → is_used r ≡ false
no_use role.Used h = absurd (false≢true (sym h))
no_use r h = refl

-- the two counts of a token's events are one
times_are : (token : ℕ) (past : List Event) → times token past ≡ count_of token past
times_are token [] = refl
times_are token (Name t r ∷ past) = by (token == t) (times_are token past)
  where
    by : (b : Bool) → times token past ≡ count_of token past → (if b then suc (times token past) else times token past) ≡ (if b then 1 else 0) + count_of token past
    by true e = omega (arith, e)
    by false e = omega (arith, e)
times_are token (Opens ∷ past) = let h = times_are token past in omega (arith, h)
times_are token (Closes ∷ past) = let h = times_are token past in omega (arith, h)
times_are token (Member t k ∷ past) = let h = times_are token past in omega (arith, h)
times_are token (Node i ∷ past) = let h = times_are token past in omega (arith, h)

few_times : (token : ℕ) (events : List Event) → count_of token events ≤ 1 → times token (past_of events (length events)) ≤ 1
few_times token events few = let same = times_are token (past_of events (length events)) in let less = counted events token few in omega (arith, same, less)

-- what is declared before a use is told
pub declared_named : (token : ℕ) (past : List Event) → is_declared token past ≡ true → is_named token past ≡ true
declared_named token [] h = h
declared_named token (Name t r ∷ past) h = by (stands_in Ordinary r && (token == t)) refl h (λ g. declared_named token past g)
  where
    by : (b : Bool) → (stands_in Ordinary r && (token == t)) ≡ b → (b || is_declared token past) ≡ true → (is_declared token past ≡ true → is_named token past ≡ true)
        → ((token == t) || is_named token past) ≡ true
    by true q g rest = or_left (token == t) (is_named token past) (and_parts (stands_in Ordinary r) (token == t) q).1
    by false q g rest = or_right (token == t) (is_named token past) (rest g)
declared_named token (Opens ∷ past) h = declared_named token past h
declared_named token (Closes ∷ past) h = declared_named token past h
declared_named token (Member t k ∷ past) h = declared_named token past h
declared_named token (Node i ∷ past) h = declared_named token past h

pub before_declared : (token site : ℕ) (past : List Event) → is_before token site past ≡ true → is_declared token past ≡ true
before_declared token site [] h = h
before_declared token site (Name t r ∷ past) h = by ((site == t) && not (is_named site past)) h (λ g. before_declared token site past g)
  where
    by : (b : Bool) → (if b then is_declared token past else is_before token site past) ≡ true → (is_before token site past ≡ true → is_declared token past ≡ true)
        → ((stands_in Ordinary r && (token == t)) || is_declared token past) ≡ true
    by true g rest = or_right (stands_in Ordinary r && (token == t)) (is_declared token past) g
    by false g rest = or_right (stands_in Ordinary r && (token == t)) (is_declared token past) (rest g)
before_declared token site (Opens ∷ past) h = before_declared token site past h
before_declared token site (Closes ∷ past) h = before_declared token site past h
before_declared token site (Member t k ∷ past) h = before_declared token site past h
before_declared token site (Node i ∷ past) h = before_declared token site past h

-- ---- items

not_listed : (x p : ℕ) (ps : List ℕ) → (x ≡ p → ⊥) → ((k : ℕ) → slice_get ps k ≡ Some p → ⊥) → (k : ℕ) → slice_get (x ∷ ps) k ≡ Some p → ⊥
not_listed x p ps other never zero e = let same : x ≡ p = cc in other same
not_listed x p ps other never (suc k) e = never k e

listed_or_not : (ps : List ℕ) (p : ℕ) → ((k : ℕ) × (slice_get ps k ≡ Some p)) ⊎ ((k : ℕ) → slice_get ps k ≡ Some p → ⊥)
listed_or_not [] p = inr (λ k e. cc)
listed_or_not (x ∷ ps) p = elim (cases_eq x p) [
  | inl same ↦ inl (0, ap Some same)
  | inr other ↦ elim (listed_or_not ps p) [
    | inl found ↦ inl (suc found.0, found.1)
    | inr never ↦ inr (not_listed x p ps other never)
  ]
]

module _ (file : List ℕ) (t : Typed) (it : IsUnitOfFile file t) where
  open it use {made_by}
  open has_unit file t it use {unit, order, nodes_are}

  abbrev tokens : ℕ
  tokens = length it.unit.tokens.list.items

  abbrev name : ℕ → ℕ
  name = spelled_name file it.unit.tokens.list.items

  abbrev events : List Event
  events = unit_events it.unit

  abbrev past : List Event
  past = past_of (unit_events it.unit) (length (unit_events it.unit))

  within : (i : ℕ) (n : SyntaxNode) → slice_get t.nodes i ≡ Some n → n.first < tokens
  within i n at =
      let w = unit.within i n at in
      let low = w.0 in
      let high = w.1 in
      let count : length t.tokens ≡ tokens = ap length made_by.elaborated.tokens_are in
      omega (arith, low, high, count)

  -- what the column says is visible at a node's token is so by the events
  column : (i : ℕ) (n : SyntaxNode) → slice_get t.nodes i ≡ Some n → slice_index_or it.checked.checked.surroundings.bindings.visible n.first None ≡ visible name past n.first
  column i n at = made_by.is.surroundings.bindings.visible.each n.first (within i n at) ∙ ap (λ f. visible f past n.first) spelled
    where
      spelled : name_in it.checked.checked.surroundings.bindings.spellings ≡ name
      spelled = λ j y. made_by.is.surroundings.bindings.spellings.each y j

  -- each token is told as one sort alone, and a value's isn't used
  sorted : AreSorted events tokens
  sorted = record {
    sort = one_sort file t it;
    within = λ token told_so. elim (values file t it token) [ inl never ↦ absurd (told_so never) | inr v ↦ v.0 ];
    unused = λ token told_so. elim (values file t it token) [ inl never ↦ absurd (told_so never) | inr v ↦ weaker is_unlike is_used no_use token past v.1 ];
  }

  -- ---- what is declared as an object or a function

  module _ (token d q : ℕ) (m : SyntaxNode) (declared : IsDeclarer t.nodes token d q m) (value : is_value (role_by (storage_of t.nodes m.parts) (declarator_of t.nodes q).next) ≡ true) where
    abbrev role_of : Role
    role_of = role_by (storage_of t.nodes m.parts) (declarator_of t.nodes q).next

    x : HasOwn t unit order token
    x = own_there t unit order token q declared.name

    less : token < tokens
    less = subst (λ y. y < tokens) x.first (within x.own x.node x.at)

    -- in a block, and neither as a function nor with `extern`, it has no linkage
    abbrev IsItem : ℕ → Type 0
    IsItem p = (k : ℕ) × (slice_get t.items k ≡ Some p)

    module _ (inner : IsItem d → ⊥) (object : role_of ≡ role.Object) where
      heart : AreNamedWell x.node.first t unit order x.own x.node x.at x.is refl IsItem
      heart depth j n at outer placed k p r next is decl named =
          let e : IsDeclarer t.nodes token j r n = record {
            at = at;
            external = outer;
            place = k;
            first = next;
            part = p;
            is = is;
            declares = decl;
            name = named ∙ ap Some x.first;
          } in
          let deep : (depth == 0) ≡ false = ne_eqb depth 0 (λ top. inner (subst IsItem (one_declaration t unit order token j r d q n m e declared) (placed top n at outer))) in
          ap (stands_alone (depth == 0)) (one_role t unit order token j r d q n m e declared ∙ object) ∙ ap not deep

      is_alone : IsAlone token past
      is_alone =
          let good = unit_good x.node.first t unit order x.own x.node x.at x.is refl IsItem heart it.unit.tokens.list.items (λ k p e. (k, e)) in
          let moved : unit_events it.unit ≡ events_of it.unit.tokens.list.items t.nodes t.items =
          ap (λ ns. events_of it.unit.tokens.list.items ns it.unit.items) nodes_are ∙ ap (events_of it.unit.tokens.list.items t.nodes) (sym made_by.elaborated.items_are) in
          subst (λ y. IsAlone y past) x.first
          (subst (λ es. IsAlone x.node.first (past_of es (length es))) (sym moved) (all_alone x.node.first (events_of it.unit.tokens.list.items t.nodes t.items) good))

    steady_or_linked : IsSteady token events ⊎ Never is_other token past
    steady_or_linked = elim (listed_or_not t.items d) [
      | inl item ↦ inl (inl (external.once file t it token d q item.0 m declared item.1))
      | inr never ↦ by role_of refl value (λ i. never i.0 i.1)
    ]
      where
        linked : (r : Role) → role_of ≡ r → is_other r ≡ false → Never is_other token past
        linked r e h = never_past is_other events token (λ k s f. ap is_other (sym (each file t it token d q m declared k s f) ∙ e) ∙ h) (length events)

        by : (r : Role) → role_of ≡ r → is_value r ≡ true → (IsItem d → ⊥) → IsSteady token events ⊎ Never is_other token past
        by role.Object e h inner = inl (inr (is_alone inner e))
        by role.ExternObject e h inner = inr (linked role.ExternObject e refl)
        by role.Function e h inner = inr (linked role.Function e refl)
        by r e h inner = absurd (false≢true h)

    -- each event tells it as a value
    alike : Never is_unlike token past
    alike = never_past is_unlike events token (λ k r f. value_plain r (ap is_value (sym (each file t it token d q m declared k r f)) ∙ value)) (length events)

    -- ---- at a use

    module _ (i : ℕ) (n : SyntaxNode) (at : slice_get t.nodes i ≡ Some n) (is : is_using n.kind ≡ true) (few : count_of n.first events ≤ 1)
        (sees : visible name past n.first ≡ Some token) where
      there : slice_get it.unit.nodes i ≡ Some n
      there = ap (λ ns. slice_get ns i) nodes_are ∙ at

      low : n.first < tokens
      low = within i n at

      use_told : IsTold it.unit.nodes n.first i past
      use_told = told it.unit.tokens.list.items it.unit.nodes it.unit.items it.listed (subst AreApart (sym nodes_are) (apart t unit order)) i n there is

      finds : Finds name n.first past
      finds = all_find name events n.first it.known.right use_told.used

      found : finds.declared ≡ token
      found = same_Some finds.declared token (sym finds.is ∙ sees)

      named : is_named token past ≡ true
      named = declared_named token past (subst (λ y. is_declared y past ≡ true) found (before_declared finds.declared n.first past finds.before))

      pub stands : (k : ℕ) × ((entity_at it.names n.first ≡ Some k) × (declared_entity it.names token ≡ Some k))
      stands = elim steady_or_linked [
        | inl steady ↦
            (let own = has_entity name events tokens it.names token it.known (values file t it) less named alike in
            (own.0, (have name events tokens it.names token n.first own.0 it.known low less use_told.used few steady sees (entity_of_declared it.names token own.0 own.1), own.1)))
        | inr linked ↦
            linked_stand name events tokens it.names n.first token it.known sorted low less use_told.used (few_times n.first events few) sees linked
      ]

pub mean : Laws.NamesStandForDeclarations
mean file t it i n at is few token d q m declared value seen = stands file t it token d q m declared value i n at is few (sym (column file t it i n at) ∙ seen)
