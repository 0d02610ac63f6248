-- What has static duration has it by the first declaration of its entity (C11 6.2.4p3).
use Rattle.std.proofs.Common.{◌≡◌, ℕ, ℤ, zero, suc, ◌+◌, ◌<◌, ◌≤◌, Bool, true, false, List, [], ◌∷◌, Option, None, Some, length, nat_lt, slice_get, slice_index_or, ◌⊎◌, inl, inr, refl, sym, subst, ap, ◌∙◌, arith, if◌then◌else◌}
use Rattle.std.proofs.lemmas.Bool.{cases_lt, false≢true, ltb-true}
use Rattle.std.proofs.lemmas.Option.{slice_get_within, same_Some}
use Rattle.cr_syntax.specs.declared.node.Kind.{Kind}
use Rattle.cr_syntax.specs.declared.node.Kind.TheVariants as kind
use Rattle.cr_syntax.specs.declared.node.Node.{Node}
use Rattle.cr_syntax.specs.declared.part.Part.TheVariants as part
use Rattle.cr_syntax.specs.Tables.{rule_of, side_of}
use Rattle.cr_syntax.specs.Kept.{AreBelow, row_in}
use Rattle.cr_syntax.specs.Grammar.{Side, part as needed}
use Rattle.cr_syntax.proofs.Arena.{below_first, below_rest, row_at}
use Rattle.cr_syntax_nodes.specs.Laid.{stands_for, IsLaid}
use Rattle.cr_syntax_nodes.proofs.Numbers.{some_at}
use Rattle.cr_scopes_events.specs.declared.event.Role.{Role}
use Rattle.cr_scopes_events.specs.declared.naming.Storage.{Storage as Word}
use Rattle.cr_scopes_events.specs.declared.naming.Storage.TheVariants.{TypedefWord, ExternWord, NoWord}
use Rattle.cr_scopes_events.specs.declared.declarator.Derivation.{Derivation}
use Rattle.cr_scopes_events.specs.declared.declarator.Derivation.TheVariants.{Nothing, Function as Derived, Other}
use Rattle.cr_scopes_events.specs.declared.declarator.Declarator.{Declarator as Named}
use Rattle.cr_scopes_events.specs.Values.{before}
use Rattle.cr_scopes_events.specs.Declarators.{nowhere, declared_by as names_by, declared_if, declarator_of}
use Rattle.cr_scopes_events.specs.Scripts as scripts
use Rattle.cr_scopes_events.specs.Scripts.{role_by}
use Rattle.cr_scopes_events.specs.Events.{events_of}
use Rattle.cr_scopes_events.proofs.Descents.{declarator_ruled}
use Rattle.cr_scopes.specs.Resolved.{is_number, past_of}
use Rattle.cr_scopes.specs.Spelled.{name_of as spelled_name}
use Rattle.cr_scopes.specs.Units.{unit_events}
use Rattle.cr_scopes_bindings.specs.Last.{last_with}
use Rattle.cr_scopes_bindings.specs.Nodes.{named_by, named_if, name_at}
use Rattle.cr_scopes_bindings.specs.Entities as bound
use Rattle.cr_scopes_linkage.specs.Shared.Sorts.{Never}
use Rattle.cr_scopes_linkage.specs.Shared.Origins.{is_external, IsDeclarer}
use Rattle.cr_scopes_typedef_names.specs.Tellings.Tellings.{is_use, is_tagged, Telling, by_declaration, by_parameter, by_enumerator, by_tag, by_use}
use Rattle.cr_scopes_typedef_names.proofs.TellingsLemmas.Scripts.{all_told}
use Rattle.cr_check_enclosing.specs.declared.context.Around.{Around}
use Rattle.cr_check_enclosing.specs.declared.context.Place.{Place}
use Rattle.cr_check_enclosing.specs.declared.context.Place.TheVariants as place
use Rattle.cr_check_enclosing.specs.Above.{above_of}
use Rattle.cr_check_enclosing.specs.Around.{outermost, inside}
use Rattle.cr_check_expressions.specs.declared.known.Declared.{Declared}
use Rattle.cr_check_expressions.specs.declared.known.Declared.TheVariants.{Object, Enumerator, Unclear}
use Rattle.cr_check_declarators.specs.declared.words.Class.{Class}
use Rattle.cr_check_declarators.specs.declared.words.Specified.{Specified}
use Rattle.cr_check_declarators.specs.declared.declarator.Declarator.{Declarator}
use Rattle.cr_check_declarators.specs.declared.enumerators.Enumerated.{Enumerated}
use Rattle.cr_check_declarations.specs.Before.{kind_in, kind_if as kind_of_node, specified_in}
use Rattle.cr_check_declarations.specs.Named.{is_declarator, is_declaration, is_initialised, above_in, declaration_at, declaration_of, specifiers_in, class_of, names_ordinary, ordinary_of, declares_name, constant_by, declared_by}
use Rattle.cr_check_declarations.specs.Faults.{is_specifier, place_of}
use Rattle.cr_check_initialised.specs.Durations.{is_kept, is_static}
use Rattle.cr_check_unit.specs.Typing.{cut, entry_at, before_in}
use Rattle.cr_typed.specs.declared.typed.Typed.{Typed}
use Rattle.cr_typed.specs.declared.typed.Duration.TheVariants as duration
use Rattle.cr_typed_columns.specs.Reading.{parsed_of, entry_of}
use Rattle.cr_typed_columns.specs.Entities as entities
use Rattle.cr_typed_columns.specs.Names as names
use Rattle.cr_meaning_operations.specs.Operations.{entity_if, entity_of, is_static_by}
use Rattle.cr_meaning_operations.specs.Operations as operations
use Rattle.cr_meaning_declarations.proofs.UnitsLemmas.Handing.{laid_at, parts_below}
use Rattle.cr_meaning_declarations.proofs.NamesLemmas.Leaves as leaves
use Rattle.cr_meaning_declarations.proofs.NamesLemmas.Leaves.{is_named, named_once}
use Rattle.cr_meaning_declarations.proofs.NamesLemmas.Parents.{IsPartOf, above_some, whole_is}
use Rattle.cr_meaning_types.specs.Known.Shaped.{fits, IsPart}
use Rattle.cr_meaning_types.proofs.KnownLemmas.Naming.{ruled}
use Rattle.cr_meaning_declarations.specs.Declared.Files.{IsUnitOfFile}
use Rattle.cr_meaning_declarations.proofs.DeclaredLemmas.Bodies.{listed_at, last_has, name_there, IsThere, node_of}
use Rattle.cr_meaning_declarations.proofs.LastingLemmas.Begun.{begun_own}
use Rattle.cr_meaning_declarations.proofs.LastingLemmas.Firsts.{static_named}
use Rattle.cr_meaning_declarations.specs.Linked.Laws.{DeclaresValue}
use Rattle.cr_meaning_declarations.proofs.LinkedLemmas.Owned.{own_there, alone as in_no_other}
use Rattle.cr_meaning_declarations.proofs.LinkedLemmas.Order.{there as node_there}
use Rattle.cr_meaning_declarations.proofs.LinkedLemmas.Sorts.{values_share}
use Rattle.cr_meaning_declarations.proofs.DeclaredLemmas.Files.{has_unit}
use Rattle.cr_meaning_declarations.proofs.DeclaredLemmas.Once.{place_init}
use Rattle.cr_meaning_objects.proofs.ChainedLemmas.Known.{is_typing, holds, there, is_named_declarator}
use Rattle.cr_meaning_objects.specs.Objects.Laws
use Rattle.cr_meaning_objects.specs.Objects.Laws.{DeclaresObject}
use Rattle.cr_meaning_objects.proofs.ObjectsLemmas.Declaring.{is_silent, never_told, last_there, few_of, declares_entity, first_declares, first_least}
use Rattle.cr_meaning_objects.proofs.ObjectsLemmas.Alone.{Stands, in_file, in_block, in_clause, stands_there}
use Rattle.cr_meaning_objects.proofs.ObjectsLemmas.Objects.{shared, value_there, follows_at}
use Rattle.cr_meaning_references.proofs.TreesLemmas.Shaped.{shaped}
use Rattle.cr_scopes_visibility.proofs.AloneLemmas.First.{number_same as number_is}

-- ---- durations (6.2.4)

record IsStaticBy (d : Declared) (p : Place) (static kept : Bool) : Type 0 where
  row : ℕ
  register : Bool
  object : d ≡ Object row register
  static_is : static ≡ true
  kept_is : kept ≡ true

no_parameter : (own : Bool) → is_static_by (names.of_parameter own) ≡ true → ⊥
no_parameter true h = false≢true h
no_parameter false h = false≢true h

static_by : (d : Declared) (p : Place) (own static kept : Bool) → is_static_by (names.by_declared d p own static kept) ≡ true → IsStaticBy d p static kept
static_by (Object row register) place.Parameter own static kept h = absurd (no_parameter own h)
static_by (Object row register) p own true true h = record { row = row; register = register; object = refl; static_is = refl; kept_is = refl }
static_by (Object row register) p own true false h = absurd (false≢true h)
static_by (Object row register) p own false kept h = absurd (false≢true h)
static_by d p own static kept h = absurd (false≢true h)

made_static : (row : ℕ) (register : Bool) (p : Place) (own : Bool) → Stands p → is_static_by (names.by_declared (Object row register) p own true true) ≡ true
made_static row register p own (in_file e) = subst (λ x. is_static_by (names.by_declared (Object row register) x own true true) ≡ true) (sym e) refl
made_static row register p own (in_block e) = subst (λ x. is_static_by (names.by_declared (Object row register) x own true true) ≡ true) (sym e) refl
made_static row register p own (in_clause e) = subst (λ x. is_static_by (names.by_declared (Object row register) x own true true) ≡ true) (sym e) refl

-- ---- what declares an object

pub no_constant : (e : Option Enumerated) (row : ℕ) (register : Bool) → constant_by e ≡ Object row register → ⊥
no_constant None row register h = cc
no_constant (Some own) row register h = by own.value h
  where
    by : (o : Option ℤ) → (elim o [ None ↦ Unclear | Some value ↦ Enumerator value ]) ≡ Object row register → ⊥
    by None h = cc
    by (Some value) h = cc

pub object_if : (b : Bool) (d : Declared) (row : ℕ) (register : Bool) → (if b then d else Unclear) ≡ Object row register → (b ≡ true) × (d ≡ Object row register)
object_if true d row register h = (refl, h)
object_if false d row register h = absurd cc

object_declares : (k : Kind) (nodes : List Node) (said : ℕ → Specified) (own : Declarator) (row : ℕ) (e : Option Enumerated) (d : Option ℕ) (x : ℕ) (register : Bool) → declared_by k nodes said own row e d ≡ Object x register
    → (declares_name k ≡ true) × (names_ordinary (kind_in nodes d) ≡ true)
object_declares kind.Enumerator nodes said own row e d x register h = absurd (no_constant e x register h)
object_declares k nodes said own row e d x register h =
    let named = object_if (declares_name k) (ordinary_of nodes said own row d) x register h in
    (named.0, (object_if (names_ordinary (kind_in nodes d)) _ x register named.1).0)

-- what names by a declarator is no enumerator
declared_name : (k : Kind) (first : ℕ) (name : Option ℕ) → declares_name k ≡ true → named_by k first name ≡ name
declared_name kind.Enumerator first name h = absurd (false≢true h)
declared_name k first name h = refl

no_specifier : (k : Kind) → is_declarator k ≡ true → is_specifier k ≡ true → ⊥
no_specifier kind.NameDeclarator h g = false≢true g
no_specifier kind.GroupDeclarator h g = false≢true g
no_specifier kind.PointerDeclarator h g = false≢true g
no_specifier kind.ArrayDeclarator h g = false≢true g
no_specifier kind.FunctionDeclarator h g = false≢true g
no_specifier kind.AbstractPointer h g = false≢true g
no_specifier kind.AbstractGroup h g = false≢true g
no_specifier kind.AbstractArray h g = false≢true g
no_specifier kind.AbstractArrayOf h g = false≢true g
no_specifier k h g = false≢true h

pub only_initialised : (o : Option Kind) → is_initialised o ≡ true → o ≡ Some kind.InitDeclarator
only_initialised (Some kind.InitDeclarator) h = refl
only_initialised o h = absurd (false≢true h)

-- no declarator stands for an initialiser
no_initialiser : (k : Kind) → is_declarator k ≡ true → stands_for part.Initializer k ≡ true → ⊥
unfolding rule_of
no_initialiser kind.NameDeclarator h g = false≢true g
no_initialiser kind.GroupDeclarator h g = false≢true g
no_initialiser kind.PointerDeclarator h g = false≢true g
no_initialiser kind.ArrayDeclarator h g = false≢true g
no_initialiser kind.FunctionDeclarator h g = false≢true g
no_initialiser kind.AbstractPointer h g = false≢true g
no_initialiser kind.AbstractGroup h g = false≢true g
no_initialiser kind.AbstractArray h g = false≢true g
no_initialiser kind.AbstractArrayOf h g = false≢true g
no_initialiser k h g = false≢true h

pub last_below : (key : ℕ → Option ℕ) (b k i : ℕ) → last_with key b k ≡ Some i → i < b
last_below key zero k i e = absurd cc
last_below key (suc b) k i e = by (is_number (key b) k) e (λ x. last_below key b k i x)
  where
    by : (c : Bool) → (if c then Some b else last_with key b k) ≡ Some i → (last_with key b k ≡ Some i → i < b) → i < suc b
    by true e rest = let same : b ≡ i = cc in omega (arith, same)
    by false e rest = let low = rest e in omega (arith, low)

kept_there : (k : Kind) (i : ℕ) (a : Around) (c : Option Class) → is_kept (inside k i a).place c ≡ true → names_ordinary (Some k) ≡ true → k ≡ kind.Declaration
unfolding inside
kept_there kind.Declaration i a c h g = refl
kept_there kind.FunctionDefinition i a c h g = absurd (false≢true h)
kept_there kind.Parameter i a c h g = absurd (false≢true h)
kept_there k i a c h g = absurd (false≢true g)

-- ---- what tells a declared name

pub use_same : (k : Kind) → is_use k ≡ true → leaves.is_use k ≡ true
use_same kind.Identifier h = refl
use_same kind.Call h = refl
use_same kind.TypedefName h = refl
use_same k h = absurd (false≢true h)

pub role_speaks : (w : Word) (next : Derivation) → is_silent (role_by w next) ≡ false
role_speaks TypedefWord next = refl
role_speaks ExternWord Nothing = refl
role_speaks ExternWord (Derived f) = refl
role_speaks ExternWord Other = refl
role_speaks NoWord Nothing = refl
role_speaks NoWord (Derived f) = refl
role_speaks NoWord Other = refl

-- an enumerator has no declarator
pub enumerator_nameless : (k : Kind) (at : ℕ → Named) (i : ℕ) (n : Node) (token : ℕ) → k ≡ kind.Enumerator → (names_by k at i n).name ≡ Some token → ⊥
enumerator_nameless k at i n token e f = let never : None ≡ Some token = sym (ap (λ x. (names_by x at i n).name) e) ∙ f in cc

module _ (file : List ℕ) (t : Typed) (it : IsUnitOfFile file t) where
  open it use {made_by, typing, shapes, tree, columns}
  open has_unit file t it use {unit, order, nodes_are as same_nodes, count}

  abbrev tokens : ℕ
  tokens = length it.unit.tokens.list.items

  abbrev spelled : ℕ → ℕ
  spelled = spelled_name file it.unit.tokens.list.items

  abbrev said : ℕ → Specified
  said p = (entry_at typing p).own.specified

  -- ---- the whole declarator of a token

  module _ (token i q : ℕ) (m : Node) (d : IsDeclarer t.nodes token i q m) where
    pub name_key : (w : ℕ) (o : Node) → slice_get t.nodes w ≡ Some o → (declarator_of t.nodes w).name ≡ Some token → name_at t.nodes w ≡ Some token
    name_key w o at named = ap (λ x. named_if x (declarator_of t.nodes w).name) at ∙ by o.kind refl
      where
        by : (k : Kind) → o.kind ≡ k → named_by k o.first (declarator_of t.nodes w).name ≡ Some token
        by kind.Enumerator e =
            absurd (enumerator_nameless o.kind (before nowhere w (declarator_of t.nodes)) w o token e
            (sym (ap (λ p. (declared_if p (before nowhere w (declarator_of t.nodes)) w).name) at) ∙ sym (ap (λ p. p.name) (declarator_ruled t.nodes w)) ∙ named))
        by k e = named

    -- another node of the name is no enumerator, since its token is that of an identifier
    pub key_name : (w : ℕ) (o : Node) → slice_get t.nodes w ≡ Some o → name_at t.nodes w ≡ Some token → (declarator_of t.nodes w).name ≡ Some token
    key_name w o at e = by o.kind refl (sym (ap (λ p. named_if p (declarator_of t.nodes w).name) at) ∙ e)
      where
        by : (k : Kind) → o.kind ≡ k → named_by k o.first (declarator_of t.nodes w).name ≡ Some token → (declarator_of t.nodes w).name ≡ Some token
        by kind.Enumerator f g =
            let x = own_there t unit order token q d.name in
            let first : o.first ≡ token = cc in
            let xf = x.first in
            let inner = (unit.within w o at).0 in
            let same : x.own ≡ w = named_once t unit order x.own w x.node o token x.at x.is x.first at (ap is_named f) (omega (arith, first)) (omega (arith, first)) (omega (arith, first, inner)) in
            let one : Some x.node ≡ Some o = sym x.at ∙ ap (slice_get t.nodes) same ∙ at in
            let node : x.node ≡ o = cc in
            let kinds : kind.NameDeclarator ≡ kind.Enumerator = sym x.is ∙ ap (λ (z : Node). z.kind) node ∙ f in
            absurd cc
        by k f g = g

    pub declarer_is : token < tokens → slice_index_or it.checked.checked.surroundings.bindings.declarers token None ≡ Some q
    declarer_is low =
        let o = node_there t unit order token i q m d in
        let l = last_there (name_at t.nodes) (length t.nodes) token q (slice_get_within t.nodes q o.0 o.1) (name_key q o.0 o.1 d.name) in
        let w = some_at t.nodes l.last l.low in
        let x = own_there t unit order token q d.name in
        let other = key_name l.last w.0 w.1 l.has in
        made_by.is.surroundings.bindings.declarers.each token low ∙ ap (λ ns. last_with (name_at ns) (length ns) token) same_nodes
        ∙ l.is ∙ ap Some (sym (whole_is t unit order x.own x.node x.at x.is q l.last (d.name ∙ ap Some (sym x.first)) (other ∙ ap Some (sym x.first)) l.behind (in_no_other t unit order token i q m d)))

    -- each event of the name declares it
    speaks : Never is_silent token (past_of (unit_events it.unit) (length (unit_events it.unit)))
    speaks =
        never_told is_silent (Telling it.unit.nodes) token told (events_of it.unit.tokens.list.items it.unit.nodes it.unit.items) (all_told it.unit.tokens.list.items it.unit.nodes it.unit.items)
        (length (events_of it.unit.tokens.list.items it.unit.nodes it.unit.items))
      where
        moved : (l : ℕ) (n : Node) → slice_get it.unit.nodes l ≡ Some n → slice_get t.nodes l ≡ Some n
        moved l n at = ap (λ ns. slice_get ns l) (sym same_nodes) ∙ at

        told : (u : ℕ) (r : Role) → Telling it.unit.nodes u r → u ≡ token → is_silent r ≡ false
        told u r (by_declaration e is) same = ap is_silent is ∙ role_speaks (scripts.storage_of it.unit.nodes e.own.parts) (declarator_of it.unit.nodes e.declarator).next
        told u r (by_parameter e is) same = ap is_silent is
        told u r (by_enumerator e is) same = ap is_silent is
        told u r (by_tag e tags) same =
            let x = own_there t unit order token q d.name in
            absurd (leaves.no_tag t unit order x.own e.node x.node e.own x.at x.is (moved e.node e.own e.at) e.is (e.second ∙ same ∙ sym x.first))
        told u r (by_use e is) same =
            let x = own_there t unit order token q d.name in
            absurd (leaves.no_use t unit order x.own e.node x.node e.own x.at x.is (moved e.node e.own e.at) (use_same e.own.kind e.is) (e.first ∙ same ∙ sym x.first))

  -- behind the declarator of an initialised one stands its initialiser alone
  abbrev second_side : Side
  second_side = needed part.Initializer ∷ []

  second_part : (ps : List ℕ) (i j k w : ℕ) → AreBelow ps (length t.nodes) → IsLaid unit.tokens (side_of kind.InitDeclarator) (row_in t.nodes ps) i j → slice_get ps (suc k) ≡ Some w
      → (x : Node) × ((slice_get t.nodes w ≡ Some x) × (stands_for part.Initializer x.kind ≡ true))
  unfolding rule_of
  second_part [] i j k w b h e = absurd cc
  second_part (q ∷ []) i j k w b h e = absurd cc
  second_part (q ∷ r ∷ ps) i j zero w b h e =
      let m = some_at t.nodes q (below_first q (r ∷ ps) (length t.nodes) b) in
      let o = some_at t.nodes r (below_first r ps (length t.nodes) (below_rest q (r ∷ ps) (length t.nodes) b)) in
      let x = subst (λ u. IsLaid unit.tokens (side_of kind.InitDeclarator) u i j) (row_at t.nodes unit.below q m.0 (r ∷ ps) m.1) h in
      let y = subst (λ u. IsLaid unit.tokens second_side u (m.0.last + 1 + 1) j) (row_at t.nodes unit.below r o.0 ps o.1) x.1.1 in
      let same : r ≡ w = cc in
      (o.0, (ap (slice_get t.nodes) (sym same) ∙ o.1, y.0.0))
  second_part (q ∷ r ∷ []) i j (suc k) w b h e = absurd cc
  second_part (q ∷ r ∷ s ∷ ps) i j (suc k) w b h e =
      let m = some_at t.nodes q (below_first q (r ∷ s ∷ ps) (length t.nodes) b) in
      let behind = below_rest q (r ∷ s ∷ ps) (length t.nodes) b in
      let o = some_at t.nodes r (below_first r (s ∷ ps) (length t.nodes) behind) in
      let n = some_at t.nodes s (below_first s ps (length t.nodes) (below_rest r (s ∷ ps) (length t.nodes) behind)) in
      let x = subst (λ u. IsLaid unit.tokens (side_of kind.InitDeclarator) u i j) (row_at t.nodes unit.below q m.0 (r ∷ s ∷ ps) m.1) h in
      let y = subst (λ u. IsLaid unit.tokens second_side u (m.0.last + 1 + 1) j) (row_at t.nodes unit.below r o.0 (s ∷ ps) o.1) x.1.1 in
      let z = subst (λ u. IsLaid unit.tokens [] u (o.0.last + 1) j) (row_at t.nodes unit.below s n.0 ps n.1) y.1 in
      absurd z

  -- ---- durations, by the whole declarator

  abbrev is_own : ℕ → Bool
  is_own w = names.is_own it.unit.nodes columns (Some w) (names.around_of columns (Some w)).function

  abbrev kept_of : Option ℕ → Bool
  kept_of entity = entities.is_kept it.unit.nodes columns entity

  duration_at : (node : ℕ) → node < length t.nodes → slice_index_or t.durations node duration.NoObject ≡ names.duration_of it.unit.nodes columns node
  duration_at node low =
      ap (λ ds. slice_index_or ds node duration.NoObject) made_by.elaborated.durations
      ∙ listed_at (names.duration_of it.unit.nodes columns) (length it.unit.nodes) node duration.NoObject (let c = count in omega (arith, low, c))

  duration_is : (node w : ℕ) → entities.whole_of it.unit.nodes columns node ≡ Some w → w < length t.nodes
      → names.duration_of it.unit.nodes columns node
      ≡ names.by_declared (slice_index_or typing.declared w Unclear) (place_of tree w) (is_own w) (is_static tree said (Some w)) (kept_of (entities.entity_of it.unit.nodes it.names node))
  duration_is node w whole low =
      ap (λ o. names.by_declared (entities.declared_of columns o) (names.around_of columns o).place (names.is_own it.unit.nodes columns o (names.around_of columns o).function) (entry_of columns.statics.now false o)
      (kept_of (entities.entity_of it.unit.nodes columns.names.now node))) whole
      ∙ ap (λ ds. names.by_declared (slice_index_or ds w Unclear) (names.around_of columns (Some w)).place (is_own w) (slice_index_or columns.statics.now w false) (kept_of (entities.entity_of it.unit.nodes columns.names.now node))) made_by.are.declared
      ∙ ap (λ around. names.by_declared (slice_index_or typing.declared w Unclear) (slice_index_or around w outermost).place (is_own w) (slice_index_or columns.statics.now w false) (kept_of (entities.entity_of it.unit.nodes columns.names.now node)))
      (made_by.are.around ∙ sym made_by.is.whole.tree.around)
      ∙ ap (λ s. names.by_declared (slice_index_or typing.declared w Unclear) (place_of tree w) (is_own w) s (kept_of (entities.entity_of it.unit.nodes columns.names.now node)))
      (ap (λ column. slice_index_or column w false) made_by.are.statics ∙ listed_at (λ i. is_static tree said (Some i)) (length tree.nodes.now) w false (subst (λ ns. w < length ns) (sym (made_by.is.whole.tree.nodes ∙ same_nodes)) low))
      ∙ ap (λ ns. names.by_declared (slice_index_or typing.declared w Unclear) (place_of tree w) (is_own w) (is_static tree said (Some w)) (kept_of (entities.entity_of it.unit.nodes ns node))) made_by.are.names_are

  -- the token of a declared identifier, and its whole declarator
  pub named_token : (node : ℕ) (n : Node) → slice_get t.nodes node ≡ Some n → n.kind ≡ kind.NameDeclarator → entities.named_token it.unit.nodes node ≡ Some n.first
  named_token node n at is =
      ap (λ ns. entities.named_token ns node) same_nodes
      ∙ ap (λ o. if entities.is_name (scripts.kind_if o) then scripts.first_if o else None) at
      ∙ ap (λ k. if entities.is_name (Some k) then Some n.first else None) is

  pub token_few : (node : ℕ) (n : Node) → slice_get t.nodes node ≡ Some n → n.first < tokens
  token_few node n at =
      let w = unit.within node n at in
      let low = w.0 in
      let high = w.1 in
      let tokens_are : length t.tokens ≡ tokens = ap length made_by.elaborated.tokens_are in
      omega (arith, low, high, tokens_are)

  whole_by : (node token : ℕ) → entities.named_token it.unit.nodes node ≡ Some token → entities.whole_of it.unit.nodes columns node ≡ slice_index_or it.checked.checked.surroundings.bindings.declarers token None
  whole_by node token e = ap (entry_of columns.declarers.now None) e ∙ ap (λ column. slice_index_or column token None) made_by.are.declarers

  entity_by : (node token : ℕ) → entities.named_token it.unit.nodes node ≡ Some token → entities.entity_of it.unit.nodes it.names node ≡ bound.entity_at it.names token
  entity_by node token e = ap (bound.entity_if it.names) e

  -- ---- references

  -- the token that a name's entity begins with
  record BeginsWith (k first : ℕ) : Type 0 where
    token : ℕ
    begins : bound.first_of it.names (Some k) ≡ Some token
    named : entities.named_token it.unit.nodes first ≡ Some token
    low : token < tokens

  begins_with : (entity : Option ℕ) (first : ℕ) → entities.name_node (parsed_of it.unit) (bound.first_of it.names entity) ≡ Some first → (k : ℕ) × ((entity ≡ Some k) × BeginsWith k first)
  begins_with None first e = absurd cc
  begins_with (Some k) first e = (k, (refl, by (bound.first_of it.names (Some k)) refl e))
    where
      by : (o : Option ℕ) → bound.first_of it.names (Some k) ≡ o → entities.name_node (parsed_of it.unit) o ≡ Some first → BeginsWith k first
      by None q e = absurd cc
      by (Some token) q e = at (nat_lt token tokens) refl e
        where
          at : (b : Bool) → nat_lt token tokens ≡ b → (if b then last_with (entities.named_token it.unit.nodes) (length it.unit.nodes) token else None) ≡ Some first → BeginsWith k first
          at false f g = absurd cc
          at true f g = record {
            token = token;
            begins = q;
            named = number_is (entities.named_token it.unit.nodes first) token (last_has (entities.named_token it.unit.nodes) (length it.unit.nodes) token first g);
            low = ltb-true token tokens f;
          }

  -- a declared identifier stands for that of its entity's first token
  refers : (node first : ℕ) (n : Node) → slice_get t.nodes node ≡ Some n → n.kind ≡ kind.NameDeclarator → slice_index_or t.refs node None ≡ Some first
      → (k : ℕ) × ((bound.entity_at it.names n.first ≡ Some k) × BeginsWith k first)
  refers node first n at is e =
      begins_with (bound.entity_at it.names n.first) first
      (ap (λ o. entities.name_node (parsed_of it.unit) (bound.first_of it.names (bound.entity_if it.names o))) (sym mentions)
      ∙ ap (λ ns. entities.name_node (parsed_of it.unit) (bound.first_of ns (bound.entity_if ns (names.mentioned_token it.unit.nodes node)))) (sym made_by.are.names_are)
      ∙ ap (λ b. if b then slice_index_or columns.labels.now node None else entities.first_declared (parsed_of it.unit) columns.names.now (bound.entity_if columns.names.now (names.mentioned_token it.unit.nodes node))) (sym plain)
      ∙ sym (listed_at (names.ref_of (parsed_of it.unit) columns) (length it.unit.nodes) node None (let low = slice_get_within t.nodes node n at in let c = count in omega (arith, low, c)))
      ∙ sym (ap (λ rs. slice_index_or rs node None) made_by.elaborated.refs) ∙ e)
    where
      kind_is : scripts.kind_at it.unit.nodes node ≡ Some kind.NameDeclarator
      kind_is = ap (λ ns. scripts.kind_at ns node) same_nodes ∙ ap scripts.kind_if at ∙ ap Some is

      plain : names.is_goto (scripts.kind_at it.unit.nodes node) ≡ false
      plain = ap names.is_goto kind_is

      mentions : names.mentioned_token it.unit.nodes node ≡ Some n.first
      mentions =
          ap (λ o. if names.is_mention o then scripts.first_at it.unit.nodes node else None) kind_is
          ∙ ap (λ ns. scripts.first_at ns node) same_nodes ∙ ap scripts.first_if at

  -- ---- the declaration of an object of static duration

  module _ (token w : ℕ) (o : Node) (at : slice_get t.nodes w ≡ Some o) (key : name_at t.nodes w ≡ Some token) (object : DeclaresObject typing w) (static : is_static tree said (Some w) ≡ true) where
    abbrev declaration : Option ℕ
    declaration = declaration_of tree.nodes.now tree.above.now w

    here : slice_get tree.nodes.now w ≡ Some o
    here = there file t it w o at

    declares : (declares_name o.kind ≡ true) × (names_ordinary (kind_in tree.nodes.now declaration) ≡ true)
    declares =
        object_declares o.kind tree.nodes.now (before_in shapes (cut w typing)).specified (entry_at typing w).own.declarator (entry_at typing w).own.named (entry_at typing w).own.enumerated declaration object.0 object.1.0
        (sym (ruled tree it.checked.checked.texts shapes typing (is_typing file t it) (holds file t it) w o here).declared ∙ object.1.1)

    name_is : (declarator_of t.nodes w).name ≡ Some token
    name_is = sym (declared_name o.kind o.first (declarator_of t.nodes w).name declares.0) ∙ sym (ap (λ p. named_if p (declarator_of t.nodes w).name) at) ∙ key

    declarator_is : is_declarator o.kind ≡ true
    declarator_is = is_named_declarator t.nodes w token o at name_is

    kept : is_kept (place_of tree w) (class_of (specified_in said (specifiers_in tree.nodes.now declaration)).storage) ≡ true
    kept = static

    abbrev Is : Type 0
    Is = (i : ℕ) × ((m : Node) × IsDeclarer t.nodes token i w m)

    above_column : (p : ℕ) → p < length t.nodes → slice_index_or tree.above.now p None ≡ above_of t.nodes (length t.nodes) p
    above_column p low =
        ap (λ column. slice_index_or column p None) made_by.is.whole.tree.above ∙ made_by.is.surroundings.above.each p (subst (λ ns. p < length ns) (sym same_nodes) low)
        ∙ ap (λ ns. above_of ns (length ns) p) same_nodes

    part_of : (p a : ℕ) → p < length t.nodes → slice_index_or tree.above.now p None ≡ Some a → IsPartOf t unit p a
    part_of p a low e = above_some t unit (length t.nodes) p a (sym (above_column p low) ∙ e)

    -- of a declaration all parts but the first are declarators
    behind : (i p : ℕ) (m own : Node) → slice_get t.nodes i ≡ Some m → slice_get t.nodes p ≡ Some own → m.kind ≡ kind.Declaration → (is_declarator own.kind ≡ true) ⊎ (own.kind ≡ kind.InitDeclarator)
        → (p ≡ w) ⊎ ((scripts.kind_at t.nodes p ≡ Some kind.InitDeclarator) × (slice_get (scripts.parts_at t.nodes p) 0 ≡ Some w)) → (k : ℕ) → slice_get m.parts k ≡ Some p → Is
    behind i p m own i_at p_at is sort decl zero e =
        let x = (shaped file t it).parts i m (there file t it i m i_at) 0 p e in
        let same : x.own ≡ own = same_Some x.own own (sym x.at ∙ there file t it p own p_at) in
        let specifier : is_specifier own.kind ≡ true = ap (λ (y : Node). is_specifier y.kind) (sym same) ∙ ap (λ k. fits k 0 x.own.kind) (sym is) ∙ x.fits in
        absurd (elim sort [ inl d ↦ no_specifier own.kind d specifier | inr d ↦ false≢true (sym (ap is_specifier d) ∙ specifier) ])
    behind i p m own i_at p_at is sort decl (suc k) e = (
      i,
      (
        m,
        record {
          at = i_at;
          external = ap is_external is;
          place = k;
          first = λ other. (let never : kind.Declaration ≡ kind.FunctionDefinition = sym is ∙ other in absurd cc);
          part = p;
          is = e;
          declares = decl;
          name = name_is;
        },
      ),
    )

    -- the kind of its declaration
    declaration_kind : (i : ℕ) (m : Node) → declaration ≡ Some i → slice_get t.nodes i ≡ Some m → names_ordinary (Some m.kind) ≡ true
    declaration_kind i m e i_at = ap names_ordinary (sym (ap kind_of_node (there file t it i m i_at))) ∙ ap (λ d. names_ordinary (kind_in tree.nodes.now d)) (sym e) ∙ declares.1

    declaration_same : (i : ℕ) → declaration_at tree.nodes.now (Some i) ≡ declaration → declaration ≡ Some i
    declaration_same i e = by (is_declaration (kind_in tree.nodes.now (Some i))) refl
      where
        by : (b : Bool) → is_declaration (kind_in tree.nodes.now (Some i)) ≡ b → declaration ≡ Some i
        by true q = sym e ∙ ap (λ b. if b then Some i else None) q
        by false q =
            let none : declaration ≡ None = sym e ∙ ap (λ b. if b then Some i else None) q in
            absurd (false≢true (ap (λ x. names_ordinary (kind_in tree.nodes.now x)) (sym none) ∙ declares.1))

    found : Is
    found = by (slice_index_or tree.above.now w None) refl
      where
        by : (a : Option ℕ) → slice_index_or tree.above.now w None ≡ a → Is
        by None q =
            let none : declaration ≡ None =
            ap (λ x. if is_initialised (kind_in tree.nodes.now x) then declaration_at tree.nodes.now (above_in tree.above.now x) else declaration_at tree.nodes.now x) q in
            absurd (false≢true (ap (λ x. names_ordinary (kind_in tree.nodes.now x)) (sym none) ∙ declares.1))
        by (Some p) q = initial (is_initialised (kind_in tree.nodes.now (Some p))) refl
          where
            h : IsPartOf t unit w p
            h = part_of w p (slice_get_within t.nodes w o at) q

            has : IsPart tree p h.parent h.place w
            has = (shaped file t it).parts p h.parent (there file t it p h.parent h.at) h.place w h.is

            kind_is : kind_in tree.nodes.now (Some p) ≡ Some h.parent.kind
            kind_is = ap kind_of_node (there file t it p h.parent h.at)

            of : declaration ≡ (if is_initialised (kind_in tree.nodes.now (Some p)) then declaration_at tree.nodes.now (above_in tree.above.now (Some p)) else declaration_at tree.nodes.now (Some p))
            of = ap (λ x. if is_initialised (kind_in tree.nodes.now x) then declaration_at tree.nodes.now (above_in tree.above.now x) else declaration_at tree.nodes.now x) q

            kept_in : (k : Kind) (i : ℕ) (a : Around) → place_of tree w ≡ (inside k i a).place → names_ordinary (Some k) ≡ true → k ≡ kind.Declaration
            kept_in k i a e ordinary =
                kept_there k i a (class_of (specified_in said (specifiers_in tree.nodes.now declaration)).storage) (ap (λ x. is_kept x (class_of (specified_in said (specifiers_in tree.nodes.now declaration)).storage)) (sym e) ∙ kept) ordinary

            initial : (b : Bool) → is_initialised (kind_in tree.nodes.now (Some p)) ≡ b → Is
            initial false f =
                let is = declaration_same p (sym (of ∙ ap (λ b. if b then declaration_at tree.nodes.now (above_in tree.above.now (Some p)) else declaration_at tree.nodes.now (Some p)) f)) in
                let kind_of = kept_in h.parent.kind p (slice_index_or tree.around.now p outermost) (ap (λ (x : Around). x.place) has.around) (declaration_kind p h.parent is h.at) in
                behind p w h.parent o h.at at kind_of (inl declarator_is) (inl refl) h.place h.is
            initial true f = over (slice_index_or tree.above.now p None) refl
              where
                init_is : h.parent.kind ≡ kind.InitDeclarator
                init_is = (let e : Some h.parent.kind ≡ Some kind.InitDeclarator = sym kind_is ∙ only_initialised (kind_in tree.nodes.now (Some p)) f in cc)

                of_init : declaration ≡ declaration_at tree.nodes.now (slice_index_or tree.above.now p None)
                of_init = of ∙ ap (λ b. if b then declaration_at tree.nodes.now (above_in tree.above.now (Some p)) else declaration_at tree.nodes.now (Some p)) f

                over : (a : Option ℕ) → slice_index_or tree.above.now p None ≡ a → Is
                over None g =
                    let none : declaration ≡ None = of_init ∙ ap (declaration_at tree.nodes.now) g in
                    absurd (false≢true (ap (λ x. names_ordinary (kind_in tree.nodes.now x)) (sym none) ∙ declares.1))
                over (Some i) g =
                    let up = part_of p i (slice_get_within t.nodes p h.parent h.at) g in
                    let is = declaration_same i (sym (of_init ∙ ap (declaration_at tree.nodes.now) g)) in
                    let around = (shaped file t it).parts i up.parent (there file t it i up.parent up.at) up.place p up.is in
                    let place_is : place_of tree w ≡ (inside up.parent.kind i (slice_index_or tree.around.now i outermost)).place =
                    ap (λ (x : Around). x.place) has.around ∙ place_init h.parent.kind p (slice_index_or tree.around.now p outermost) init_is ∙ ap (λ (x : Around). x.place) around.around in
                    let kind_of = kept_in up.parent.kind i (slice_index_or tree.around.now i outermost) place_is (declaration_kind i up.parent is up.at) in
                    let first : h.place ≡ 0 = first_place h.place h.is in
                    behind i p up.parent h.parent up.at h.at kind_of (inr init_is)
                    (inr (ap scripts.kind_if h.at ∙ ap Some init_is, ap (λ x. slice_get (scripts.parts_if x) 0) h.at ∙ subst (λ k. slice_get h.parent.parts k ≡ Some w) first h.is)) up.place up.is
                  where
                    first_place : (k : ℕ) → slice_get h.parent.parts k ≡ Some w → k ≡ 0
                    first_place zero e = refl
                    first_place (suc k) e =
                        let F : Kind → Type 0 = λ x. IsLaid unit.tokens (side_of x) (row_in t.nodes h.parent.parts) h.parent.first (h.parent.last + 1) in
                        let second = second_part h.parent.parts h.parent.first (h.parent.last + 1) k w (parts_below t unit p h.parent h.at) (subst F init_is (laid_at t unit p h.parent h.at)) e in
                        let same : second.0 ≡ o = same_Some second.0 o (sym second.1.0 ∙ at) in
                        absurd (no_initialiser o.kind declarator_is (subst (λ (y : Node). stands_for part.Initializer y.kind ≡ true) same second.1.1))

  -- ---- the first declaration

  -- an identifier of static duration that is declared elsewhere first
  module _ (node first : ℕ) (n : Node) (at : slice_get t.nodes node ≡ Some n) (is : n.kind ≡ kind.NameDeclarator) (static : is_static_by (slice_index_or t.durations node duration.NoObject) ≡ true)
      (refer : slice_index_or t.refs node None ≡ Some first) where
    found_first : (k : ℕ) × ((bound.entity_at it.names n.first ≡ Some k) × BeginsWith k first)
    found_first = refers node first n at is refer

    abbrev k : ℕ
    k = found_first.0

    begin : BeginsWith k first
    begin = found_first.1.1

    low : node < length t.nodes
    low = slice_get_within t.nodes node n at

    own : entities.named_token it.unit.nodes node ≡ Some n.first
    own = named_token node n at is

    few : k < length it.names.entities
    few = few_of spelled (unit_events it.unit) tokens it.names it.known n.first k found_first.1.0

    begins_own : bound.entity_at it.names begin.token ≡ Some k
    begins_own = begun_own spelled (unit_events it.unit) tokens it.names begin.token k it.known begin.low begin.begins

    -- the node of the first token, which is a declared identifier
    first_node : (x : Node) × ((slice_get t.nodes first ≡ Some x) × (x.kind ≡ kind.NameDeclarator))
    first_node = node_of t unit order first kind.NameDeclarator (ap (λ ns. scripts.kind_at ns first) (sym same_nodes) ∙ name_there it.unit.nodes first (subst IsThere (sym begin.named) tt))

    first_token : first_node.0.first ≡ begin.token
    first_token = same_Some first_node.0.first begin.token (sym (named_token first first_node.0 first_node.1.0 first_node.1.1) ∙ begin.named)

    -- its own declaration
    record HasDeclaration : Type 0 where
      declaration : ℕ
      whole : ℕ
      holder : Node
      is_declarer : IsDeclarer t.nodes n.first declaration whole holder
      object : DeclaresObject typing whole
      kept : kept_of (entities.entity_of it.unit.nodes it.names node) ≡ true

    has : HasDeclaration
    has = by (entities.whole_of it.unit.nodes columns node) refl
      where
        static_it : is_static_by (names.duration_of it.unit.nodes columns node) ≡ true
        static_it = ap is_static_by (sym (duration_at node low)) ∙ static

        by : (o : Option ℕ) → entities.whole_of it.unit.nodes columns node ≡ o → HasDeclaration
        by None e =
            absurd (false≢true (sym (ap (λ o. is_static_by (names.by_declared (entities.declared_of columns o) (names.around_of columns o).place (names.is_own it.unit.nodes columns o (names.around_of columns o).function)
            (entry_of columns.statics.now false o) (kept_of (entities.entity_of it.unit.nodes columns.names.now node)))) e) ∙ static_it))
        by (Some w) e =
            let column : last_with (name_at it.unit.nodes) (length it.unit.nodes) n.first ≡ Some w =
            sym (made_by.is.surroundings.bindings.declarers.each n.first (token_few node n at)) ∙ sym (whole_by node n.first own) ∙ e in
            let below = last_below (name_at it.unit.nodes) (length it.unit.nodes) n.first w column in
            let within : w < length t.nodes = (let c = count in omega (arith, below, c)) in
            let o = some_at t.nodes w within in
            let key : name_at t.nodes w ≡ Some n.first = ap (λ ns. name_at ns w) (sym same_nodes) ∙ number_is (name_at it.unit.nodes w) n.first (last_has (name_at it.unit.nodes) (length it.unit.nodes) n.first w column) in
            let parts = static_by (slice_index_or typing.declared w Unclear) (place_of tree w) (is_own w) (is_static tree said (Some w)) (kept_of (entities.entity_of it.unit.nodes it.names node))
            (ap is_static_by (sym (duration_is node w e within)) ∙ static_it) in
            let object : DeclaresObject typing w = (parts.row, (parts.register, parts.object)) in
            let d = found n.first w o.0 o.1 key object parts.static_is in
            record { declaration = d.0; whole = w; holder = d.1.0; is_declarer = d.1.1; object = object; kept = parts.kept_is }

    mine : bound.declared_entity it.names n.first ≡ Some k
    mine = declares_entity spelled (unit_events it.unit) tokens it.names it.known n.first k (token_few node n at) found_first.1.0 (speaks n.first has.declaration has.whole has.holder has.is_declarer)

    its : bound.declared_entity it.names begin.token ≡ Some k
    its = first_declares spelled (unit_events it.unit) tokens it.names it.known k begin.token begin.begins few begins_own

    least : begin.token ≤ n.first
    least = first_least spelled (unit_events it.unit) tokens it.names it.known n.first k begin.token (token_few node n at) found_first.1.0 (speaks n.first has.declaration has.whole has.holder has.is_declarer) begin.begins

    -- where the token is another one, its declaration is of static duration too
    other_static : begin.token < n.first → is_static_by (slice_index_or t.durations first duration.NoObject) ≡ true
    other_static less =
        let v : DeclaresValue t.nodes n.first =
        record { declaration = has.declaration; declarator = has.whole; node = has.holder; is = has.is_declarer; value = value_there file t it n.first has.declaration has.whole has.holder has.is_declarer has.object } in
        let w = values_share file t it begin.token n.first k its mine v in
        let object = follows_at file t it n.first begin.token k has.declaration has.whole w.declaration w.declarator has.holder w.node has.is_declarer w.is mine its has.object less in
        let linked = shared file t it begin.token n.first k w.declaration w.declarator w.node w.is its mine (λ e. absurd (omega (arith, less, e))) object in
        let whole = whole_by first begin.token begin.named ∙ declarer_is begin.token w.declaration w.declarator w.node w.is begin.low in
        let o = node_there t unit order begin.token w.declaration w.declarator w.node w.is in
        let kept : kept_of (entities.entity_of it.unit.nodes it.names first) ≡ true =
        ap kept_of (entity_by first begin.token begin.named ∙ begins_own ∙ sym found_first.1.0 ∙ sym (entity_by node n.first own)) ∙ has.kept in
        ap is_static_by (duration_at first (slice_get_within t.nodes first first_node.0 first_node.1.0))
        ∙ ap is_static_by (duration_is first w.declarator whole (slice_get_within t.nodes w.declarator o.0 o.1))
        ∙ ap (λ d. is_static_by (names.by_declared d (place_of tree w.declarator) (is_own w.declarator) (is_static tree said (Some w.declarator)) (kept_of (entities.entity_of it.unit.nodes it.names first)))) object.1.1
        ∙ ap (λ b. is_static_by (names.by_declared (Object object.0 object.1.0) (place_of tree w.declarator) (is_own w.declarator) b (kept_of (entities.entity_of it.unit.nodes it.names first)))) linked.lasts
        ∙ ap (λ b. is_static_by (names.by_declared (Object object.0 object.1.0) (place_of tree w.declarator) (is_own w.declarator) true b)) kept
        ∙ made_static object.0 object.1.0 (place_of tree w.declarator) (is_own w.declarator) (stands_there file t it begin.token w.declaration w.declarator w.node w.is object)

    first_static : is_static_by (slice_index_or t.durations first duration.NoObject) ≡ true
    first_static = elim (cases_lt begin.token n.first) [
      | inl less ↦ other_static less
      | inr ge ↦
          (let le = least in
          let tokens_same : first_node.0.first ≡ n.first = (let e = first_token in omega (arith, ge, le, e)) in
          let inner = (unit.within first first_node.0 first_node.1.0).0 in
          let same : node ≡ first = named_once t unit order node first n first_node.0 n.first at is refl first_node.1.0 (ap is_named first_node.1.1) (omega (arith, tokens_same)) (omega (arith, tokens_same)) (omega (arith, tokens_same, inner)) in
          subst (λ x. is_static_by (slice_index_or t.durations x duration.NoObject) ≡ true) same static)
    ]

  pub static_first : (node : ℕ) → is_static_by (slice_index_or t.durations node duration.NoObject) ≡ true → is_static_by (slice_index_or t.durations (entity_of t node) duration.NoObject) ≡ true
  static_first node static = by (slice_index_or t.refs node None) refl
    where
      there_is : (n : Node) × ((slice_get t.nodes node ≡ Some n) × (n.kind ≡ kind.NameDeclarator))
      there_is =
          let own = static_named file t it node static in
          let n = some_at t.nodes node own.1 in
          (n.0, (n.1, sym (ap operations.kind_if n.1) ∙ own.0))

      by : (o : Option ℕ) → slice_index_or t.refs node None ≡ o → is_static_by (slice_index_or t.durations (entity_of t node) duration.NoObject) ≡ true
      by None e = ap (λ o. is_static_by (slice_index_or t.durations (entity_if o node) duration.NoObject)) e ∙ static
      by (Some first) e = ap (λ o. is_static_by (slice_index_or t.durations (entity_if o node) duration.NoObject)) e ∙ first_static node first there_is.0 there_is.1.0 there_is.1.1 static e

pub statics : Laws.FirstsAreStatic
statics file t it node static = static_first file t it node static
