-- An entity that a used name stands for has a declaration that defines it (C11 6.9p3, p5, K40), and a name stands for the node that declares its entity first.
use Rattle.std.proofs.Common.{◌≡◌, ℕ, zero, suc, ◌+◌, ◌<◌, ◌==◌, Bool, true, false, not, ◌&&◌, ◌||◌, List, [], ◌∷◌, None, Some, length, slice_get, slice_index_or, inl, inr, refl, sym, subst, ap, ◌∙◌, arith, if◌then◌else◌}
use Rattle.std.specs.List.{list_all, list_any}
use Rattle.std.proofs.lemmas.Bool.{false≢true, eq-eqb, lt-ltb, or_left, or_right}
use Rattle.std.proofs.lemmas.Option.{slice_get_within, same_Some}
use Rattle.cr_syntax.specs.declared.node.Kind.{Kind}
use Rattle.cr_syntax.specs.declared.node.Kind.TheVariants as kind
use Rattle.cr_syntax.specs.declared.node.Node.{Node}
use Rattle.cr_scopes_events.specs.declared.event.Event.{Event}
use Rattle.cr_scopes_events.specs.declared.event.Role.{Role}
use Rattle.cr_scopes_events.specs.declared.naming.Storage.{Storage as Word}
use Rattle.cr_scopes_events.specs.declared.naming.Storage.TheVariants.{TypedefWord, ExternWord, NoWord}
use Rattle.cr_scopes_events.specs.declared.declarator.Derivation.{Derivation}
use Rattle.cr_scopes_events.specs.declared.declarator.Derivation.TheVariants.{Nothing, Function as Derived, Other}
use Rattle.cr_scopes_events.specs.Declarators.{declarator_of}
use Rattle.cr_scopes_events.specs.Scripts as scripts
use Rattle.cr_scopes_events.specs.Scripts.{role_by}
use Rattle.cr_scopes_events.specs.Events.{events_of}
use Rattle.cr_scopes.specs.declared.told.Told.{Told}
use Rattle.cr_scopes.specs.Resolved.{told, begins, count_of, past_of, told_below}
use Rattle.cr_scopes.specs.Spelled.{name_of as spelled_name}
use Rattle.cr_scopes.specs.Units.{unit_events}
use Rattle.cr_scopes_visibility.proofs.AloneLemmas.Telling.{AreRight, all_right}
use Rattle.cr_scopes_bindings.specs.Last.{last_with}
use Rattle.cr_scopes_bindings.specs.Nodes.{named_by, named_if}
use Rattle.cr_scopes_bindings.specs.Entities as bound
use Rattle.cr_scopes_linkage.specs.Shared.Sorts.{is_value, is_tag, Never, IsOfOneSort}
use Rattle.cr_scopes_linkage.specs.Shared.Origins.{IsDeclarer}
use Rattle.cr_scopes_linkage.proofs.SharedLemmas.Looked.{never_once, Ways, values, types, tags, itself, ways}
use Rattle.cr_scopes_visibility.specs.Sight.Scopes.{is_using}
use Rattle.cr_scopes_typedef_names.specs.Tellings.Tellings.{is_tagged, is_enumerator, Telling, by_declaration, by_parameter, by_enumerator, by_tag, by_use}
use Rattle.cr_scopes_typedef_names.proofs.TellingsLemmas.Scripts.{all_told}
use Rattle.cr_scopes_visibility.specs.Told.Told.{AreApart}
use Rattle.cr_check_definitions.specs.Known.{Known}
use Rattle.cr_check_definitions.specs.Defined.{is_used, is_open, is_undefined}
use Rattle.cr_check_definitions.specs.Mains.{has_main}
use Rattle.cr_check.specs.Columns.{known_in}
use Rattle.cr_typed.specs.declared.typed.Typed.{Typed}
use Rattle.cr_typed_columns.specs.Reading.{parsed_of, entry_of}
use Rattle.cr_typed_columns.specs.Entities as entities
use Rattle.cr_typed_columns.specs.Names as names
use Rattle.cr_meaning_declarations.proofs.NamesLemmas.Leaves as leaves
use Rattle.cr_meaning_declarations.specs.Declared.Files.{IsUnitOfFile}
use Rattle.cr_meaning_declarations.proofs.DeclaredLemmas.Bodies.{listed_at}
use Rattle.cr_meaning_declarations.proofs.LinkedLemmas.Owned.{HasOwn, own_there}
use Rattle.cr_meaning_declarations.proofs.LinkedLemmas.Sorts.{one_sort}
use Rattle.cr_meaning_declarations.proofs.DeclaredLemmas.Files.{has_unit}
use Rattle.cr_meaning_references.proofs.ToldLemmas.Orderly.{apart}
use Rattle.cr_meaning_objects.proofs.ObjectsLemmas.Declaring.{IsLast, never_told, last_there, entity_of_declared, token_low}
use Rattle.cr_meaning_objects.proofs.ObjectsLemmas.Statics.{named_token, token_few}
use Rattle.cr_meaning_objects.proofs.KeptLemmas.Uses.{is_telling, IsUsed, first_of_site, declared_told, is_used_there}

-- ---- lists

either_none : (a b : Bool) → (a || b) ≡ false → (a ≡ false) × (b ≡ false)
either_none true b h = absurd (false≢true (sym h))
either_none false b h = (refl, h)

none_of : {A : Type 0} (test : A → Bool) (xs : List A) (k : ℕ) (x : A) → list_any test xs ≡ false → slice_get xs k ≡ Some x → test x ≡ false
none_of test [] k x h e = absurd cc
none_of test (y ∷ ys) zero x h e = let same : y ≡ x = cc in ap test (sym same) ∙ (either_none (test y) (list_any test ys) h).0
none_of test (y ∷ ys) (suc k) x h e = none_of test ys k x (either_none (test y) (list_any test ys) h).1 e

-- one that fails the test
fails : (test : ℕ → Bool) (xs : List ℕ) → list_all test xs ≡ false → (d : ℕ) × ((list_any (λ x. x == d) xs ≡ true) × (test d ≡ false))
fails test [] h = absurd (false≢true (sym h))
fails test (x ∷ xs) h = by (test x) refl h (λ g. fails test xs g)
  where
    by : (b : Bool) → test x ≡ b → (b && list_all test xs) ≡ false → (list_all test xs ≡ false → (d : ℕ) × ((list_any (λ y. y == d) xs ≡ true) × (test d ≡ false)))
        → (d : ℕ) × ((list_any (λ y. y == d) (x ∷ xs) ≡ true) × (test d ≡ false))
    by false q g rest = (x, (or_left (x == x) (list_any (λ y. y == x) xs) (eq-eqb x x refl), q))
    by true q g rest = let r = rest g in (r.0, (or_right (x == r.0) (list_any (λ y. y == r.0) xs) r.1.0, r.1.1))

first_there : (xs : List ℕ) (d : ℕ) → list_any (λ x. x == d) xs ≡ true → (f : ℕ) × ((bound.first_in xs ≡ Some f) × (list_any (λ x. x == f) xs ≡ true))
first_there [] d h = absurd (false≢true h)
first_there (x ∷ xs) d h = (x, (refl, or_left (x == x) (list_any (λ y. y == x) xs) (eq-eqb x x refl)))

not_all : (a b : Bool) → (a && not b) ≡ true → b ≡ false
not_all true true h = absurd (false≢true h)
not_all true false h = refl
not_all false b h = absurd (false≢true h)

used_open : (s : ℕ) (b c : Bool) → s ≡ 0 → b ≡ true → (s == 0 && (b && c)) ≡ false → c ≡ false
used_open zero true c e f h = h
used_open zero false c e f h = absurd (false≢true f)
used_open (suc s) b c e f h = absurd (omega (arith, e))

-- ---- roles

plain_role : (w : Word) (next : Derivation) → is_tag (role_by w next) ≡ false
plain_role TypedefWord next = refl
plain_role ExternWord Nothing = refl
plain_role ExternWord (Derived f) = refl
plain_role ExternWord Other = refl
plain_role NoWord Nothing = refl
plain_role NoWord (Derived f) = refl
plain_role NoWord Other = refl

-- ---- kinds

pub used_same : (k : Kind) → is_using k ≡ true → leaves.is_use k ≡ true
used_same kind.Identifier h = refl
used_same kind.Call h = refl
used_same kind.TypedefName h = refl
used_same k h = absurd (false≢true h)

pub no_goto : (k : Kind) → names.is_mention (Some k) ≡ true → names.is_goto (Some k) ≡ false
no_goto kind.Goto h = absurd (false≢true h)
no_goto k h = refl

module _ (file : List ℕ) (t : Typed) (it : IsUnitOfFile file t) where
  open it use {made_by, columns}
  open has_unit file t it use {unit, order, nodes_are as same_nodes, count}

  abbrev tokens : ℕ
  tokens = length it.unit.tokens.list.items

  abbrev spelled : ℕ → ℕ
  spelled = spelled_name file it.unit.tokens.list.items

  abbrev events : List Event
  events = unit_events it.unit

  abbrev whole : List Event
  whole = past_of (unit_events it.unit) (length (unit_events it.unit))

  abbrev known : Known
  known = known_in file it.unit it.checked.checked

  moved : (l : ℕ) (n : Node) → slice_get it.unit.nodes l ≡ Some n → slice_get t.nodes l ≡ Some n
  moved l n at = ap (λ ns. slice_get ns l) (sym same_nodes) ∙ at

  name_moved : (q token : ℕ) → (declarator_of it.unit.nodes q).name ≡ Some token → (declarator_of t.nodes q).name ≡ Some token
  name_moved q token e = ap (λ ns. (declarator_of ns q).name) (sym same_nodes) ∙ e

  -- ---- the whole declarator of a token

  module _ (token i q : ℕ) (m : Node) (d : IsDeclarer t.nodes token i q m) where
    -- no event tells it as a tag
    pub untagged : Never is_tag token whole
    untagged = never_told is_tag (Telling it.unit.nodes) token told_so (events_of it.unit.tokens.list.items it.unit.nodes it.unit.items) (all_told it.unit.tokens.list.items it.unit.nodes it.unit.items)
        (length (events_of it.unit.tokens.list.items it.unit.nodes it.unit.items))
      where
        told_so : (u : ℕ) (r : Role) → Telling it.unit.nodes u r → u ≡ token → is_tag r ≡ false
        told_so u r (by_declaration e is) same = ap is_tag is ∙ plain_role (scripts.storage_of it.unit.nodes e.own.parts) (declarator_of it.unit.nodes e.declarator).next
        told_so u r (by_parameter e is) same = ap is_tag is
        told_so u r (by_enumerator e is) same = ap is_tag is
        told_so u r (by_tag e is) same =
            let x = own_there t unit order token q d.name in
            absurd (leaves.no_tag t unit order x.own e.node x.node e.own x.at x.is (moved e.node e.own e.at) e.is (e.second ∙ same ∙ sym x.first))
        told_so u r (by_use e is) same = ap is_tag is

  -- ---- a use

  -- each event of a used name uses it
  pub only_used : (i : ℕ) (n : Node) → slice_get t.nodes i ≡ Some n → is_using n.kind ≡ true → Never is_telling n.first whole
  only_used i n at using = never_told is_telling (Telling it.unit.nodes) n.first told_so (events_of it.unit.tokens.list.items it.unit.nodes it.unit.items) (all_told it.unit.tokens.list.items it.unit.nodes it.unit.items)
      (length (events_of it.unit.tokens.list.items it.unit.nodes it.unit.items))
    where
      lone : AreApart t.nodes
      lone = apart t unit order

      undeclared : (q u : ℕ) → (declarator_of it.unit.nodes q).name ≡ Some u → u ≡ n.first → ⊥
      undeclared q u e same =
          let x = own_there t unit order u q (name_moved q u e) in
          leaves.no_use t unit order x.own i x.node n x.at x.is at (used_same n.kind using) (sym same ∙ sym x.first)

      tagging : (l : ℕ) (o : Node) → slice_get t.nodes l ≡ Some o → is_tagged o.kind ≡ true → o.first + 1 ≡ n.first → ⊥
      tagging l o there tagged e = lone.tags l i o n there at tagged using e

      told_so : (u : ℕ) (r : Role) → Telling it.unit.nodes u r → u ≡ n.first → is_telling r ≡ false
      told_so u r (by_declaration e is) same = absurd (undeclared e.declarator u e.names same)
      told_so u r (by_parameter e is) same = absurd (undeclared e.declarator u e.names same)
      told_so u r (by_enumerator e is) same = absurd (no_enumerator e.node e.own (moved e.node e.own e.at) e.own.kind refl e.is (e.first ∙ same))
        where
          no_enumerator : (l : ℕ) (o : Node) → slice_get t.nodes l ≡ Some o → (k : Kind) → o.kind ≡ k → is_enumerator k ≡ true → o.first ≡ n.first → ⊥
          no_enumerator l o there kind.Enumerator q h e =
              lone.declared l i n (ap (λ p. named_if p (declarator_of t.nodes l).name) there ∙ ap (λ k. named_by k o.first (declarator_of t.nodes l).name) q ∙ ap Some e) at using
          no_enumerator l o there k q h e = absurd (false≢true h)
      told_so u r (by_tag e is) same = absurd (tagging e.node e.own (moved e.node e.own e.at) e.is (e.second ∙ same))
      told_so u r (by_use e is) same = ap is_telling is

  -- ---- nodes of names

  pub whole_by : (node token : ℕ) → entities.named_token it.unit.nodes node ≡ Some token → entities.whole_of it.unit.nodes columns node ≡ slice_index_or it.checked.checked.surroundings.bindings.declarers token None
  whole_by node token e = ap (entry_of columns.declarers.now None) e ∙ ap (λ column. slice_index_or column token None) made_by.are.declarers

  pub entity_by : (node token : ℕ) → entities.named_token it.unit.nodes node ≡ Some token → entities.entity_of it.unit.nodes it.names node ≡ bound.entity_at it.names token
  entity_by node token e = ap (bound.entity_if it.names) e

  -- ---- what a used name stands for

  -- an entity has a declaration that doesn't leave the definition to another one, and a first one
  pub record IsDefined (k : ℕ) : Type 0 where
    pub defining : ℕ
    pub declares : bound.declared_entity it.names defining ≡ Some k
    pub closed : is_open known defining ≡ false
    pub first : ℕ
    pub begins : bound.first_of it.names (Some k) ≡ Some first
    pub own : bound.declared_entity it.names first ≡ Some k

  module _ (token k declaration q : ℕ) (m : Node) (d : IsDeclarer t.nodes token declaration q m) (mine : bound.declared_entity it.names token ≡ Some k) (i : ℕ) (n : Node) (at : slice_get t.nodes i ≡ Some n)
      (using : is_using n.kind ≡ true) (stands : bound.entity_at it.names n.first ≡ Some k) where
    low : n.first < tokens
    low = token_few file t it i n at

    token_there : token < tokens
    token_there = token_low spelled events tokens it.names it.known token k (entity_of_declared it.names token k mine)

    right : AreRight spelled whole
    right = all_right spelled events it.known.right (length events)

    -- what its entity begins with is no tag
    own_first : (x : Told) × ((told spelled token whole ≡ Some x) × ((begins (told_below spelled events tokens x.first) x.first ≡ true) × (count_of (told_below spelled events tokens) x.first ≡ k)))
    own_first = first_of_site spelled events tokens it.names it.known k token token_there (entity_of_declared it.names token k mine)

    first_plain : Never is_tag own_first.0.first whole
    first_plain =
        let x = declared_told spelled events tokens it.names it.known k token mine in
        let same : x.0 ≡ own_first.0 = same_Some x.0 own_first.0 (sym x.1.0 ∙ own_first.1.0) in
        subst (λ (y : Told). Never is_tag y.first whole) same (by x.0.first (one_sort file t it x.0.first) (ways spelled token whole right x.0 x.1.0 x.1.1))
      where
        by : (f : ℕ) → IsOfOneSort f whole → Ways spelled token f whole → Never is_tag f whole
        by f sort (values a b) = elim sort.tags [ inl none ↦ none | inr none ↦ absurd (never_once is_value f whole none.0 b) ]
        by f sort (types a b) = elim sort.tags [ inl none ↦ none | inr none ↦ absurd (never_once _ f whole none.1 b) ]
        by f sort (tags a b) = absurd (never_once is_tag token whole (untagged token declaration q m d) a)
        by f sort (itself e) = subst (λ y. Never is_tag y whole) (sym e) (untagged token declaration q m d)

    used : IsUsed spelled events tokens it.names it.known k n.first
    used = is_used_there spelled events tokens it.names it.known k n.first low stands (only_used i n at using) own_first.0.first own_first.1.1.0 own_first.1.1.1 first_plain

    -- K40: one of its declarations defines it
    defined : is_undefined known used.entity ≡ false
    defined = none_of (is_undefined known) it.names.entities k used.entity (not_all (has_main known it.unit.items) (list_any (is_undefined known) it.names.entities) made_by.sound.defined) used.is

    defining : (e : ℕ) × ((list_any (λ x. x == e) used.entity.declared ≡ true) × (is_open known e ≡ false))
    defining = fails (is_open known) used.entity.declared (used_open used.entity.space (is_used used.entity.uses) (list_all (is_open known) used.entity.declared) used.plain used.used defined)

    pub defined_there : IsDefined k
    defined_there =
        let f = first_there used.entity.declared defining.0 defining.1.0 in
        record {
          defining = defining.0;
          declares = used.declared defining.0 defining.1.0;
          closed = defining.1.1;
          first = f.0;
          begins = ap bound.first_if used.is ∙ f.1.0;
          own = used.declared f.0 f.1.1;
        }

  -- a name stands for the node of the first token that declares its entity
  pub record IsFirst (i k first : ℕ) : Type 0 where
    pub node : ℕ
    pub named : entities.named_token it.unit.nodes node ≡ Some first
    pub low : node < length it.unit.nodes
    pub declared : entities.first_declared (parsed_of it.unit) it.names (Some k) ≡ Some node
    pub is : slice_index_or t.refs i None ≡ Some node

  module _ (k first declaration q : ℕ) (m : Node) (d : IsDeclarer t.nodes first declaration q m) (begins : bound.first_of it.names (Some k) ≡ Some first) (own : bound.declared_entity it.names first ≡ Some k)
      (i : ℕ) (n : Node) (at : slice_get t.nodes i ≡ Some n) (mention : names.is_mention (Some n.kind) ≡ true) (stands : bound.entity_at it.names n.first ≡ Some k) where
    first_low : first < tokens
    first_low = token_low spelled events tokens it.names it.known first k (entity_of_declared it.names first k own)

    own_node : HasOwn t unit order first
    own_node = own_there t unit order first q d.name

    first_named : entities.named_token it.unit.nodes own_node.own ≡ Some first
    first_named = named_token file t it own_node.own own_node.node own_node.at own_node.is ∙ ap Some own_node.first

    last : IsLast (entities.named_token it.unit.nodes) (length it.unit.nodes) first own_node.own
    last =
        let c = count in
        let own_low = slice_get_within t.nodes own_node.own own_node.node own_node.at in
        last_there (entities.named_token it.unit.nodes) (length it.unit.nodes) first own_node.own (omega (arith, c, own_low)) first_named

    mentions : names.mentioned_token it.unit.nodes i ≡ Some n.first
    mentions =
        ap (λ ns. names.mentioned_token ns i) same_nodes
        ∙ ap (λ p. if names.is_mention (scripts.kind_if p) then scripts.first_if p else None) at
        ∙ ap (λ b. if b then Some n.first else None) mention

    plain_name : names.is_goto (scripts.kind_at it.unit.nodes i) ≡ false
    plain_name = ap (λ ns. names.is_goto (scripts.kind_at ns i)) same_nodes ∙ ap (λ p. names.is_goto (scripts.kind_if p)) at ∙ no_goto n.kind mention

    declared_first : entities.first_declared (parsed_of it.unit) it.names (Some k) ≡ Some last.last
    declared_first =
        ap (entities.name_node (parsed_of it.unit)) begins
        ∙ ap (λ b. if b then last_with (entities.named_token it.unit.nodes) (length it.unit.nodes) first else None) (lt-ltb first tokens first_low) ∙ last.is

    pub first_node : IsFirst i k first
    first_node = record {
      node = last.last;
      named = last.has;
      low = last.low;
      declared = declared_first;
      is =
          ap (λ rs. slice_index_or rs i None) made_by.elaborated.refs
          ∙ listed_at (names.ref_of (parsed_of it.unit) columns) (length it.unit.nodes) i None (let own_low = slice_get_within t.nodes i n at in let c = count in omega (arith, own_low, c))
          ∙ ap (λ b. if b then slice_index_or columns.labels.now i None else entities.first_declared (parsed_of it.unit) columns.names.now (bound.entity_if columns.names.now (names.mentioned_token it.unit.nodes i))) plain_name
          ∙ ap (λ ns. entities.first_declared (parsed_of it.unit) ns (bound.entity_if ns (names.mentioned_token it.unit.nodes i))) made_by.are.names_are
          ∙ ap (λ p. entities.first_declared (parsed_of it.unit) it.names (bound.entity_if it.names p)) mentions
          ∙ ap (entities.first_declared (parsed_of it.unit) it.names) stands ∙ declared_first;
    }
