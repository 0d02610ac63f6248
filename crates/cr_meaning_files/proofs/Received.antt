-- A name that sees a parameter stands in the definition which that is one of, and names its object, which has cells (C11 6.2.1p4, 6.9.1p7, p9).
use Rattle.std.proofs.Common.{◌≡◌, ℕ, zero, suc, ◌<◌, ◌≤◌, ◌==◌, ◌&&◌, ◌||◌, ◌⊎◌, inl, inr, Bool, true, false, not, List, [], ◌∷◌, None, Some, length, slice_get, slice_index_or, refl, sym, ap, subst, ◌∙◌, arith, if◌then◌else◌}
use Rattle.std.proofs.lemmas.Bool.{cases_lt, false≢true, and_parts, or_right, eqb-true, eq-eqb, lt-ltb}
use Rattle.std.proofs.lemmas.List.{length-map}
use Rattle.std.proofs.lemmas.Option.{slice_get_within, same_Some}
use Rattle.cr_syntax.specs.declared.ctype.CType.{CType}
use Rattle.cr_syntax.specs.declared.ctype.CType.TheVariants.{Int, Struct, Unknown}
use Rattle.cr_syntax.specs.declared.node.Kind.TheVariants as kind
use Rattle.cr_syntax.specs.declared.node.Node.{Node}
use Rattle.cr_syntax.specs.Tables.{rule_of, side_of}
use Rattle.cr_scopes_events.specs.declared.event.Role.{Role}
use Rattle.cr_scopes_events.specs.declared.event.Role.TheVariants as role
use Rattle.cr_scopes_events.specs.declared.event.Event.{Event}
use Rattle.cr_scopes_events.specs.declared.event.Event.TheVariants as event
use Rattle.cr_scopes_events.specs.declared.declarator.Derivation.{Derivation}
use Rattle.cr_scopes_events.specs.declared.declarator.Derivation.TheVariants as derivation
use Rattle.cr_scopes_events.specs.Declarators.{declarator_of}
use Rattle.cr_scopes.specs.Looking.{is_outermost, links}
use Rattle.cr_scopes.specs.Resolved.{past_of}
use Rattle.cr_scopes.specs.Spelled.{name_of as spelled_name}
use Rattle.cr_scopes.specs.Units.{unit_events}
use Rattle.cr_scopes_bindings.specs.Last.{last_with}
use Rattle.cr_scopes_bindings.specs.Entities as bound
use Rattle.cr_scopes_bindings.specs.Visible.{is_named}
use Rattle.cr_scopes_visibility.specs.Alone.Alone.{is_plain, IsAlone}
use Rattle.cr_scopes_visibility.specs.Alone.Sight.{IsSeen}
use Rattle.cr_scopes_visibility.proofs.AloneLemmas.First.{first_is}
use Rattle.cr_scopes_linkage.specs.Shared.Sorts.{Never}
use Rattle.cr_scopes_visibility.specs.Sight.Scopes.{is_using}
use Rattle.cr_scopes_visibility.specs.Told.Told.{AreApart}
use Rattle.cr_scopes_visibility.proofs.ToldLemmas.Walks.{told}
use Rattle.cr_scopes_visibility.specs.Uses.Uses.{is_use, is_declared, Finds}
use Rattle.cr_scopes_visibility.specs.Once.Told.{count_of}
use Rattle.cr_scopes_visibility.proofs.SightLemmas.Reaching.{reaches}
use Rattle.cr_scopes_linkage.specs.Functions.Functions.{is_other}
use Rattle.cr_scopes_linkage.proofs.FunctionsLemmas.Shared.{has_entity}
use Rattle.cr_scopes_linkage.specs.Shared.Origins.{is_external}
use Rattle.cr_check_types.specs.Types.{Qualified, plain, pointer as to, array}
use Rattle.cr_check_types.specs.Relations.{is_complete_at}
use Rattle.cr_check_declarators.specs.Functions.{adjusted_type}
use Rattle.cr_check_declarators.specs.Declarators.{whole_leaf, whole_object}
use Rattle.cr_check_signatures.specs.Functions.Outlines.{head}
use Rattle.cr_typed.specs.declared.typed.Typed.{Typed}
use Rattle.cr_typed.specs.declared.typed.Duration.TheVariants as duration
use Rattle.cr_typed_columns.specs.Reading.{parsed_of}
use Rattle.cr_typed_columns.specs.Entities as entities
use Rattle.cr_typed_columns.specs.Names as names
use Rattle.cr_meaning.specs.declared.run.Limits.{Limits}
use Rattle.cr_meaning_operations.specs.Shapes.{type_of_node, named_type, shape_of}
use Rattle.cr_meaning_operations.specs.Operations.{kind_if, kind_at, parts_if, parts_at, part_at, entity_if, entity_of, is_automatic_by, object_shape, program_of}
use Rattle.cr_meaning_typing.specs.Typed.Placed.{IsObject, IsNamed}
use Rattle.cr_meaning_typing.specs.Typed.Typing.{has_value}
use Rattle.cr_meaning_declarations.proofs.NamesLemmas.Parents.{IsPartOf}
use Rattle.cr_meaning_declarations.specs.Declared.Files.{IsUnitOfFile}
use Rattle.cr_meaning_declarations.proofs.DeclaredLemmas.Once.{automatic_at, alone}
use Rattle.cr_meaning_objects.proofs.ObjectsLemmas.Declaring.{IsLast, last_there, entity_of_declared}
use Rattle.cr_meaning_objects.proofs.ComposedLemmas.Begun.{first_exists}
use Rattle.cr_meaning_files.specs.Celled.{SeesParameter}
use Rattle.cr_meaning_files.proofs.Names as celled
use Rattle.cr_meaning_files.proofs.Visible.{have}
use Rattle.cr_meaning_files.proofs.Meant.{before_declared, declared_named}
use Rattle.cr_meaning_objects.proofs.MainsLemmas.Defined.{values}
use Rattle.cr_meaning_references.proofs.ToldLemmas.Orderly.{apart}
use Rattle.cr_meaning_typing.specs.Judged.Judged.{seen_in}
use Rattle.cr_meaning_objects.specs.Parameters.Laws.{named_at, IsOwnParameter, HasObject}
use Rattle.cr_meaning_objects.proofs.ParametersLemmas.Names.{token_at, name_there, one_name}
use Rattle.cr_meaning_objects.proofs.ParametersLemmas.Objects.{objects}
use Rattle.cr_meaning_declarations.specs.Sight.Under.{is_under}
use Rattle.cr_meaning_declarations.proofs.SightLemmas.Under.{directly, deeper}
use Rattle.cr_meaning_declarations.proofs.DeclaredLemmas.Files.{has_unit}
use Rattle.cr_meaning_files.specs.Reached.{is_definition, is_reached}
use Rattle.cr_meaning_files.specs.Local.{is_object_by}
use Rattle.cr_meaning_files.specs.Structures.{IsWhole, AreMembersWhole}
use Rattle.cr_meaning_references.proofs.TreesLemmas.Grammar.{Stands, part_in, is_of}
use Rattle.cr_meaning_files.proofs.Living.{reached_lives}
use Rattle.cr_meaning_references.proofs.TreesLemmas.Tree.{HasPart, has_part, needed}
use Rattle.cr_meaning_files.proofs.Mains.{definition_counts}
use Rattle.cr_meaning_files.proofs.Made.{complete_whole, whole_some}
use Rattle.cr_meaning_files.proofs.Apart.{counted}
use Rattle.cr_meaning_files.proofs.Planned.{is_naming, is_naming_part, naming_there, HasName, named_at as name_of_declarator}
use Rattle.cr_meaning_files.proofs.Lists.{visible_seen, unlived_by, stays_inside}
use Rattle.cr_meaning_files.proofs.Outside.{told_once}
use Rattle.cr_meaning_files.proofs.Mentioned.{refers}
use Rattle.cr_meaning_files.proofs.Seeing.{InList, in_list, IsReceived, received}
use Rattle.cr_meaning_files.proofs.Named.{only_definition}

-- ---- lists and numbers

at_place : (xs : List ℕ) (k q : ℕ) → slice_get xs k ≡ Some q → slice_index_or xs k 0 ≡ q
at_place [] k q e = absurd (cc e)
at_place (x ∷ xs) zero q e = same_Some x q e
at_place (x ∷ xs) (suc k) q e = at_place xs k q e

-- some number passes the test, or none does
search : (test : ℕ → Bool) (m : ℕ) → ((d : ℕ) × ((d < m) × (test d ≡ true))) ⊎ ((d : ℕ) → d < m → test d ≡ false)
search test zero = inr (λ d low. absurd (omega (arith, low)))
search test (suc m) = by (test m) refl (search test m)
  where
    by : (b : Bool) → test m ≡ b → ((d : ℕ) × ((d < m) × (test d ≡ true))) ⊎ ((d : ℕ) → d < m → test d ≡ false) → ((d : ℕ) × ((d < suc m) × (test d ≡ true))) ⊎ ((d : ℕ) → d < suc m → test d ≡ false)
    by true q rest = inl (m, (omega arith, q))
    by false q (inl x) = inl (x.0, (let low = x.1.0 in omega (arith, low), x.1.1))
    by false q (inr none) = inr (λ d low. elim (cases_lt d m) [ inl less ↦ none d less | inr le ↦ (let same : m ≡ d = omega (arith, low, le) in ap test (sym same) ∙ q) ])

-- ---- events

-- what is told without linkage is told as an object, a parameter or an enumerator
plain_other : (r : Role) → is_plain r ≡ true → is_other r ≡ false
plain_other role.Object h = refl
plain_other role.Parameter h = refl
plain_other role.Enumerator h = refl
plain_other r h = absurd (false≢true h)

alone_values : (token : ℕ) (past : List Event) → IsAlone token past → Never is_other token past
alone_values token [] h = tt
alone_values token (event.Name t r ∷ past) h = (λ e. plain_other r (and_parts (is_plain r) (not (links (is_outermost past) r)) (h.0 e)).0, alone_values token past h.1)
alone_values token (event.Opens ∷ past) h = alone_values token past h
alone_values token (event.Closes ∷ past) h = alone_values token past h
alone_values token (event.Member t k ∷ past) h = alone_values token past h
alone_values token (event.Node i ∷ past) h = alone_values token past h

-- ---- definitions

-- the list stands next to a name
abbrev is_next : ℕ → Derivation → Bool
is_next l (derivation.Function k) = k == l
is_next l d = false

next_there : (l : ℕ) (d : Derivation) → is_next l d ≡ true → d ≡ derivation.Function l
next_there l (derivation.Function k) h = ap derivation.Function (eqb-true k l h)
next_there l d h = absurd (false≢true h)

-- a definition has a declarator with a name
definer_naming : is_of is_naming_part (part_in (side_of kind.FunctionDefinition) 1) ≡ true
unfolding rule_of
definer_naming = refl

-- ---- types

module _ (t : Typed) (d : ℕ) where
  leaf_taken : (of : CType) (c v e w : Bool) → has_value (plain of c v) ≡ true → whole_leaf (is_complete_at t.nodes d) of c v ≡ true → IsWhole t (plain of e w) × ((count : ℕ) → IsObject t count (plain of c v))
  leaf_taken (Int k) c v e w h g = (tt, λ count. tt)
  leaf_taken (Struct node) c v e w h g = (complete_whole t d (plain (Struct node) c v) g, λ count. tt)
  leaf_taken Unknown c v e w h g = absurd (false≢true h)
  leaf_taken of c v e w h g = absurd (false≢true g)

  -- an adjusted type that is complete is one of objects, and so is another with its word (6.7.6.3p4, p7)
  taken : (type whole : Qualified) → adjusted_type type ≡ type → has_value type ≡ true → whole_object (is_complete_at t.nodes d) type ≡ true → head whole ≡ head type
      → IsWhole t whole × ((count : ℕ) → IsObject t count type)
  taken (plain of c v) (plain other e w) a h g same =
      let one : of ≡ other = cc same in
      subst (λ x. IsWhole t (plain x e w) × ((count : ℕ) → IsObject t count (plain of c v))) one (leaf_taken of c v e w h g)
  taken (plain of c v) (to e w below) a h g same = absurd (cc same)
  taken (plain of c v) (array n below) a h g same = absurd (cc same)
  taken (to c v below) (to e w other) a h g same = (tt, λ count. tt)
  taken (to c v below) (plain of e w) a h g same = absurd (cc same)
  taken (to c v below) (array n other) a h g same = absurd (cc same)
  taken (array n below) whole a h g same = absurd (cc a)

module _ (file : List ℕ) (t : Typed) (it : IsUnitOfFile file t) where
  open it use {made_by, columns}
  open has_unit file t it use {unit as u, nodes_are, count, order}

  abbrev tokens : ℕ
  tokens = length it.unit.tokens.list.items

  abbrev name : ℕ → ℕ
  name = spelled_name file it.unit.tokens.list.items

  abbrev events : List Event
  events = unit_events it.unit

  abbrev past : List Event
  past = past_of events (length events)

  -- the object of an identifier has cells, where its type is one of objects
  some_shape : AreMembersWhole t → (limits : Limits) (e : ℕ) → kind_at t e ≡ kind.NameDeclarator → IsWhole t (named_type t e) → 1 ≤ length ((program_of t limits).shape e)
  some_shape made limits e is whole =
      let all = counted file t it made (named_type t e) whole (made_by.fits.cells_fit (slice_index_or t.named e 0)) in
      let some = whole_some file t it made (named_type t e) whole in
      let lengths = length-map (shape_of t (named_type t e)) (λ own. own.0) in
      let shape : length (object_shape t e (kind_at t e)) ≡ length (shape_of t (named_type t e)) = ap (λ k. length (object_shape t e k)) is in
      omega (arith, all, some, lengths, shape)

  module _ (i : ℕ) (n : Node) (at : slice_get t.nodes i ≡ Some n) (is : n.kind ≡ kind.Identifier) (reached : is_reached t i ≡ true) (lvalue : (seen_in it.checked.checked i).lvalue ≡ true)
      (sees : SeesParameter file t it n.first) where
    few : count_of n.first events ≤ 1
    few = told_once file t it i n at (ap is_using is) reached

    s : IsReceived file t it i n.first
    s = received file t it i n at is few lvalue sees

    low : n.first < tokens
    low =
        let w = u.within i n at in
        let from = w.0 in
        let high = w.1 in
        let same : length t.tokens ≡ tokens = ap length made_by.elaborated.tokens_are in
        omega (arith, from, high, same)

    used : is_use n.first past ≡ true
    used = (told it.unit.tokens.list.items it.unit.nodes it.unit.items it.listed (subst AreApart (sym nodes_are) (apart t u order)) i n (ap (λ ns. slice_get ns i) nodes_are ∙ at) (ap is_using is)).used

    finds : Finds name n.first past
    finds = celled.finds file t it i n at is few

    -- ---- the list that has the parameter

    abbrev x : ℕ
    x = s.parameter

    l : InList file t it x
    l = in_list file t it x s.node s.at s.kind_is

    abbrev y : ℕ
    y = l.whole

    part : IsPartOf t u s.declarator x
    part = record { parent = s.node; at = s.at; place = 1; is = s.second }

    declarator_under : is_under t y s.declarator ≡ true
    declarator_under = elim l.inside [ inl same ↦ directly t u y s.declarator (subst (λ z. IsPartOf t u s.declarator z) same part) | inr h ↦ deeper t u y s.declarator x part h ]

    -- the declared identifier stands in it
    name_under : (e : ℕ) × ((m : Node) × ((slice_get t.nodes e ≡ Some m) × (((m.kind ≡ kind.NameDeclarator) × (m.first ≡ s.token)) × (is_under t y e ≡ true))))
    name_under = (reaches t.nodes (λ a. is_under t y a ≡ true) (λ a b m at_a derives h k. deeper t u y b a (record { parent = m; at = at_a; place = 0; is = h }) k) s.declarator declarator_under).name s.token s.names

    -- and the name doesn't, since no run reaches that
    name_outside : ((i == y) || is_under t y i) ≡ true → ⊥
    name_outside h = false≢true (sym (unlived_by file t it l.list y l.listed l.its_list (length t.nodes) i (omega arith) h) ∙ reached_lives t u i reached)

    sees_it : IsSeen name s.token n.first past
    sees_it = visible_seen name s.token n.first past used s.is

    -- ---- the definition that has the list

    abbrev defines : ℕ → Bool
    defines d = is_definition (kind_at t d) && is_next l.list (declarator_of t.nodes (part_at t d 1)).next

    tested : (d q : ℕ) (m : Node) → slice_get t.nodes d ≡ Some m → m.kind ≡ kind.FunctionDefinition → slice_get m.parts 1 ≡ Some q → (declarator_of t.nodes q).next ≡ derivation.Function l.list → defines d ≡ true
    tested d q m at_d is_it e next =
        ap (λ b. b && is_next l.list (declarator_of t.nodes (part_at t d 1)).next) (ap (λ o. is_definition (kind_if o)) at_d ∙ ap is_definition is_it)
        ∙ ap (λ p. is_next l.list (declarator_of t.nodes p).next) (at_place (parts_at t d) 1 q (ap (λ o. slice_get (parts_if o) 1) at_d ∙ e))
        ∙ ap (is_next l.list) next ∙ eq-eqb l.list l.list refl

    lone : ((d : ℕ) → d < length t.nodes → defines d ≡ false) → ⊥
    lone none =
        let e = name_under in
        name_outside
        (stays_inside file t it l.list y l.listed l.its_list (λ d q m at_d is_it f next. false≢true (sym (none d (slice_get_within t.nodes d m at_d)) ∙ tested d q m at_d is_it f next))
        i e.0 n e.1.0 at is e.1.1.0 e.1.1.1.0.0 (or_right (e.0 == y) (is_under t y e.0) e.1.1.1.1) (subst (λ z. IsSeen name z n.first past) (sym e.1.1.1.0.1) sees_it))

    definition : (d : ℕ) × ((d < length t.nodes) × (defines d ≡ true))
    definition = elim (search defines (length t.nodes)) [ inl found ↦ found | inr none ↦ absurd (lone none) ]

    abbrev d : ℕ
    d = definition.0

    both : (is_definition (kind_at t d) ≡ true) × (is_next l.list (declarator_of t.nodes (part_at t d 1)).next ≡ true)
    both = and_parts (is_definition (kind_at t d)) (is_next l.list (declarator_of t.nodes (part_at t d 1)).next) definition.1.1

    kind_d : kind_at t d ≡ kind.FunctionDefinition
    kind_d = only_definition (kind_at t d) both.0

    abbrev q : ℕ
    q = part_at t d 1

    its : HasPart t u d 1 q
    its = has_part t u d 1 q (needed t u d 1 kind.FunctionDefinition kind_d refl (let three = definition_counts in omega (arith, three)))

    q_name : HasName file t it (length t.nodes) q
    q_name =
        name_of_declarator file t it (length t.nodes) q its.own (slice_get_within t.nodes q its.own its.own_at) its.own_at
        (ap (λ o. is_naming (kind_if o)) (sym its.own_at)
        ∙ naming_there (part_in (side_of kind.FunctionDefinition) 1) (kind_at t q) definer_naming (subst (λ c. Stands (part_in (side_of c) 1) (kind_at t q)) kind_d its.stands))

    own : IsOwnParameter file t it d x s.declarator s.token
    own = record {
      name = q_name.node.first;
      whole = q;
      own = its.node;
      defines = record {
        at = its.at;
        external = ap is_external (sym (ap kind_if its.at) ∙ kind_d);
        place = 0;
        first = λ f. refl;
        part = q;
        is = its.is;
        declares = inl refl;
        name = q_name.name;
      };
      body = sym (ap kind_if its.at) ∙ kind_d;
      list = l.list;
      next = next_there l.list (declarator_of t.nodes q).next both.1;
      place = l.place;
      listed = l.is;
      parameter = s.node;
      at = s.at;
      is = s.kind_is;
      second = s.second;
      names = s.names;
      row = s.object.0;
      register = s.object.1.0;
      object = s.object.1.1;
    }

    its_object : HasObject file t it d s.declarator s.token
    its_object = objects file t it d x s.declarator s.token own

    -- ---- what the name stands for

    abbrev e : ℕ
    e = its_object.node

    is_alone : IsAlone s.token past
    is_alone =
        let a = automatic_at file t it e (ap is_automatic_by its_object.automatic) in
        let same : a.node ≡ its_object.own = same_Some a.node its_object.own (sym a.at ∙ its_object.at) in
        subst (λ z. IsAlone z past) (ap (λ (m : Node). m.first) same ∙ its_object.first) (alone file t it e a.node a.at a.is a.automatic)

    token_few : s.token < tokens
    token_few =
        let w = u.within e its_object.own its_object.at in
        let low = w.0 in
        let high = w.1 in
        let first = its_object.first in
        let same : length t.tokens ≡ tokens = ap length made_by.elaborated.tokens_are in
        omega (arith, low, high, first, same)

    named : is_named s.token past ≡ true
    named =
        declared_named s.token past
        (subst (λ z. is_declared z past ≡ true) (sym (same_Some s.token finds.declared (sym s.is ∙ finds.is))) (before_declared finds.declared n.first past finds.before))

    -- the entity of the parameter
    own_entity : (k : ℕ) × (bound.declared_entity it.names s.token ≡ Some k)
    own_entity = has_entity name events tokens it.names s.token it.known (values file t it) token_few named (alone_values s.token past is_alone)

    abbrev k : ℕ
    k = own_entity.0

    same_entity : bound.entity_at it.names s.token ≡ Some k
    same_entity = entity_of_declared it.names s.token k own_entity.1

    stands : bound.entity_at it.names n.first ≡ Some k
    stands = have name events tokens it.names s.token n.first k it.known low token_few used few (inr is_alone) s.is same_entity

    begun : (first : ℕ) × (bound.first_of it.names (Some k) ≡ Some first)
    begun = first_exists name events tokens it.names s.token k it.known token_few same_entity

    -- which begins with it
    first_token : bound.first_of it.names (Some k) ≡ Some s.token
    first_token = begun.1 ∙ ap Some (first_is name events tokens it.names s.token begun.0 it.known token_few is_alone (ap (bound.first_of it.names) same_entity ∙ begun.1))

    own_token : entities.named_token it.unit.nodes e ≡ Some s.token
    own_token = token_at file t it e its_object.own its_object.at its_object.is ∙ ap Some its_object.first

    last : IsLast (entities.named_token it.unit.nodes) (length it.unit.nodes) s.token e
    last =
        let c = count in
        let low = slice_get_within t.nodes e its_object.own its_object.at in
        last_there (entities.named_token it.unit.nodes) (length it.unit.nodes) s.token e (omega (arith, c, low)) own_token

    last_own : last.last ≡ e
    last_own = one_name file t it last.last e s.token (name_there file t it last.last s.token last.has) (name_there file t it e s.token own_token)

    ref_is : slice_index_or t.refs i None ≡ Some e
    ref_is =
        refers file t it i n at (ap (λ c. names.is_mention (Some c)) is)
        ∙ ap (λ p. entities.name_node (parsed_of it.unit) (bound.first_of it.names p)) stands
        ∙ ap (entities.name_node (parsed_of it.unit)) first_token
        ∙ ap (λ b. if b then last_with (entities.named_token it.unit.nodes) (length it.unit.nodes) s.token else None) (lt-ltb s.token tokens token_few)
        ∙ last.is ∙ ap Some last_own

    entity_is : entity_of t i ≡ e
    entity_is = ap (λ o. entity_if o i) ref_is

    -- an object of the program
    pub received_object : is_object_by (slice_index_or t.durations (entity_of t i) duration.NoObject) ≡ true
    received_object = ap (λ z. is_object_by (slice_index_or t.durations z duration.NoObject)) entity_is ∙ ap is_object_by its_object.automatic

    -- with cells
    pub received_named : AreMembersWhole t → (limits : Limits) → has_value (type_of_node t i) ≡ true → IsNamed (program_of t limits) t i
    received_named made limits valued =
        let takes = taken t d (named_at file t it s.declarator) (named_type t e) its_object.adjusted (ap has_value (sym s.type) ∙ valued) its_object.complete its_object.word in
        record {
          some = subst (λ z. 1 ≤ length ((program_of t limits).shape z)) (sym entity_is) (some_shape made limits e (ap kind_if its_object.at ∙ its_object.is) takes.0);
          object = subst (IsObject t (length ((program_of t limits).shape (entity_of t i)))) (sym s.type) (takes.1 (length ((program_of t limits).shape (entity_of t i))));
        }
