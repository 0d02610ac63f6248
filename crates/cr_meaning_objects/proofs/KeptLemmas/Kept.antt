-- An object that is used is defined, so the first declaration of its entity is one of the program (C11 6.9p3, p5, K40).
use Rattle.std.proofs.Common.{◌≡◌, ℕ, ◌<◌, Bool, true, false, not, ◌&&◌, List, [], ◌∷◌, Option, None, Some, length, slice_get, slice_index_or, ◌⊎◌, inl, inr, refl, sym, subst, ap, ◌∙◌, arith, if◌then◌else◌}
use Rattle.std.specs.Option.{is_some}
use Rattle.std.proofs.lemmas.Bool.{cases_lt, false≢true, lt-ltb}
use Rattle.std.proofs.lemmas.Option.{slice_get_within}
use Rattle.cr_syntax.specs.declared.node.Kind.{Kind}
use Rattle.cr_syntax.specs.declared.node.Kind.TheVariants as kind
use Rattle.cr_syntax.specs.declared.node.Node.{Node}
use Rattle.cr_scopes_events.specs.declared.event.Event.{Event}
use Rattle.cr_scopes_events.specs.Declarators.{declarator_of}
use Rattle.cr_scopes_events.specs.Scripts as scripts
use Rattle.cr_scopes.specs.Spelled.{name_of as spelled_name}
use Rattle.cr_scopes.specs.Units.{unit_events}
use Rattle.cr_scopes_bindings.specs.Last.{last_with}
use Rattle.cr_scopes_bindings.specs.Entities as bound
use Rattle.cr_scopes_linkage.specs.Shared.Origins.{IsDeclarer}
use Rattle.cr_scopes_visibility.specs.Sight.Scopes.{is_using}
use Rattle.cr_check_types.specs.Types.{type_at}
use Rattle.cr_check_enclosing.specs.declared.context.Place.{Place}
use Rattle.cr_check_enclosing.specs.declared.context.Place.TheVariants as place
use Rattle.cr_check_enclosing.specs.Around.{outermost}
use Rattle.cr_check_expressions.specs.Known.{meaning_by}
use Rattle.cr_check_expressions.specs.declared.known.Declared.{Declared}
use Rattle.cr_check_expressions.specs.declared.known.Declared.TheVariants.{Object, Function, TypeName, Unclear}
use Rattle.cr_check_declarators.specs.declared.words.Class.{Class}
use Rattle.cr_check_declarators.specs.declared.words.Class.TheVariants as class
use Rattle.cr_check_declarators.specs.declared.words.Storage.{Storage}
use Rattle.cr_check_declarators.specs.declared.words.Specified.{Specified}
use Rattle.cr_check_declarators.specs.Specifiers.{nothing}
use Rattle.cr_check_declarations.specs.Named.{is_typedef, is_register, class_of, value_by, is_variadic}
use Rattle.cr_check_declarations.specs.Faults.{place_of}
use Rattle.cr_check_definitions.specs.Known as checks
use Rattle.cr_check_definitions.specs.Known.{Known}
use Rattle.cr_check_definitions.specs.Defined as checks_defined
use Rattle.cr_check.specs.Columns.{known_in}
use Rattle.cr_check_unit.specs.Typing.{entry_at}
use Rattle.cr_typed.specs.declared.typed.Typed.{Typed}
use Rattle.cr_typed.specs.declared.typed.Duration.TheVariants as duration
use Rattle.cr_typed_columns.specs.Reading.{kind_of, part_of, entry_of}
use Rattle.cr_typed_columns.specs.Entities as entities
use Rattle.cr_typed_columns.specs.Names as names
use Rattle.cr_meaning_operations.specs.Operations.{entity_if, entity_of}
use Rattle.cr_meaning_types.proofs.FittingLemmas.Types.{both as both_true}
use Rattle.cr_meaning_declarations.specs.Declared.Files.{IsUnitOfFile}
use Rattle.cr_meaning_declarations.proofs.DeclaredLemmas.Bodies.{listed_at}
use Rattle.cr_meaning_declarations.specs.Linked.Laws.{DeclaresValue}
use Rattle.cr_meaning_declarations.proofs.LinkedLemmas.Owned.{HasOwn, own_there}
use Rattle.cr_meaning_declarations.proofs.LinkedLemmas.Sorts.{values_share}
use Rattle.cr_meaning_declarations.proofs.DeclaredLemmas.Files.{has_unit}
use Rattle.cr_meaning_objects.specs.Chained.Laws.{DeclaresFunction}
use Rattle.cr_meaning_objects.proofs.ChainedLemmas.Words.{no_type}
use Rattle.cr_meaning_objects.proofs.ChainedLemmas.Chained as chained
use Rattle.cr_meaning_objects.proofs.ChainedLemmas.Known.{words, owned}
use Rattle.cr_meaning_objects.specs.Objects.Laws.{DeclaresObject}
use Rattle.cr_meaning_objects.proofs.ObjectsLemmas.Declaring.{last_there, entity_of_declared, few_of, token_low}
use Rattle.cr_meaning_objects.proofs.ObjectsLemmas.Alone.{Stands, in_file, in_block, in_clause, declared_is, stands_there}
use Rattle.cr_meaning_objects.proofs.ObjectsLemmas.Objects.{value_there, follows_at}
use Rattle.cr_meaning_objects.specs.Kept.Laws
use Rattle.cr_meaning_objects.proofs.KeptLemmas.Defined.{whole_by, entity_by, IsDefined, defined_there, IsFirst, first_node}
use Rattle.cr_meaning_objects.proofs.ObjectsLemmas.Statics.{declarer_is, named_token}

closed_is : (b : Bool) → b ≡ false → not b ≡ true
closed_is false h = refl
closed_is true h = absurd (false≢true (sym h))

-- ---- roles

-- a value is an object or a function
value_sort : (nodes : List Node) (of : Option Class) (f : Option ℕ) (row : ℕ) (d : Declared) → d ≡ value_by nodes of f row → ((x : ℕ) × ((register : Bool) × (d ≡ Object x register))) ⊎ ((x : ℕ) × ((more : Bool) × (d ≡ Function x more)))
value_sort nodes of None row d e = inl (row, (is_register of, e))
value_sort nodes of (Some f) row d e = inr (row, (is_variadic nodes f, e))

-- ---- durations

is_object_there : (row : ℕ) (register : Bool) (p : Place) (own static : Bool) → Stands p → names.by_declared (Object row register) p own static true ≡ duration.NoObject → ⊥
is_object_there row register p own static s h = elim s [
  | in_file e ↦ by place.File static refl (subst (λ x. names.by_declared (Object row register) x own static true ≡ duration.NoObject) e h)
  | in_block e ↦ by place.Block static refl (subst (λ x. names.by_declared (Object row register) x own static true ≡ duration.NoObject) e h)
  | in_clause e ↦ by place.Clause static refl (subst (λ x. names.by_declared (Object row register) x own static true ≡ duration.NoObject) e h)
]
  where
    of_object : (b : Bool) → names.of_object b true ≡ duration.NoObject → ⊥
    of_object true h = cc
    of_object false h = cc

    by : (x : Place) (b : Bool) → names.by_place x own b true ≡ names.of_object b true → names.by_place x own b true ≡ duration.NoObject → ⊥
    by x b e h = of_object b (sym e ∙ h)

-- ---- what leaves the definition to another declaration, by the check and by the columns

class_same : (c : Class) → entities.is_extern_class c ≡ checks_defined.is_extern_class c
class_same class.Extern = refl
class_same c = refl

storage_same : (s : Option Storage) → entities.is_extern s ≡ checks_defined.is_extern_by s
storage_same None = refl
storage_same (Some s) = class_same s.class

kind_same : (k : Option Kind) → entities.is_declaration k ≡ checks_defined.is_declaration k
kind_same None = refl
kind_same (Some kind.Declaration) = refl
kind_same (Some k) = refl

first_same : (ps : List ℕ) → slice_get ps 0 ≡ checks.first_part ps
first_same [] = refl
first_same (p ∷ ps) = refl

abbrev said_by : List Specified → Option ℕ → Option Storage
said_by column o = (entry_of column nothing o).storage

specified_same : (known : Known) (column : List Specified) → ((s : ℕ) → known.specified s ≡ slice_index_or column s nothing) → (o : Option ℕ) → entities.is_extern (said_by column o) ≡ checks_defined.is_extern_if known o
specified_same known column same None = refl
specified_same known column same (Some s) = storage_same (slice_index_or column s nothing).storage ∙ ap (λ (x : Specified). checks_defined.is_extern_by x.storage) (sym (same s))

open_same : (known : Known) (column : List Specified) → ((s : ℕ) → known.specified s ≡ slice_index_or column s nothing) → (a : Option ℕ)
    → (entities.is_declaration (kind_of known.nodes a) && entities.is_extern (said_by column (part_of known.nodes a 0))) ≡ (checks_defined.is_declaration (checks.kind_if known.nodes a) && checks_defined.is_extern_above known a)
open_same known column same None = refl
open_same known column same (Some a) =
    let first = kind_same (scripts.kind_at known.nodes a) in
    let second = ap (λ o. entities.is_extern (said_by column o)) (first_same (scripts.parts_at known.nodes a)) ∙ specified_same known column same (checks.first_part (scripts.parts_at known.nodes a)) in
    (λ j. first j && second j)

module _ (file : List ℕ) (t : Typed) (it : IsUnitOfFile file t) where
  open it use {made_by, typing, shapes, tree, columns}
  open has_unit file t it use {unit, order, count}

  abbrev tokens : ℕ
  tokens = length it.unit.tokens.list.items

  abbrev spelled : ℕ → ℕ
  spelled = spelled_name file it.unit.tokens.list.items

  abbrev events : List Event
  events = unit_events it.unit

  abbrev known : Known
  known = known_in file it.unit it.checked.checked

  -- ---- durations, by the whole declarator

  abbrev is_own : ℕ → Bool
  is_own w = names.is_own it.unit.nodes columns (Some w) (names.around_of columns (Some w)).function

  abbrev kept_of : Option ℕ → Bool
  kept_of entity = entities.is_kept it.unit.nodes columns entity

  -- how long the object of a declared name lives
  pub duration_at : (node : ℕ) → node < length t.nodes → slice_index_or t.durations node duration.NoObject ≡ names.duration_of it.unit.nodes columns node
  duration_at node low =
      ap (λ ds. slice_index_or ds node duration.NoObject) made_by.elaborated.durations
      ∙ listed_at (names.duration_of it.unit.nodes columns) (length it.unit.nodes) node duration.NoObject (let c = count in omega (arith, low, c))

  pub duration_is : (node w : ℕ) → entities.whole_of it.unit.nodes columns node ≡ Some w
      → names.duration_of it.unit.nodes columns node
      ≡ names.by_declared (slice_index_or typing.declared w Unclear) (place_of tree w) (is_own w) (slice_index_or columns.statics.now w false) (kept_of (entities.entity_of it.unit.nodes it.names node))
  duration_is node w whole =
      ap (λ o. names.by_declared (entities.declared_of columns o) (names.around_of columns o).place (names.is_own it.unit.nodes columns o (names.around_of columns o).function) (entry_of columns.statics.now false o)
      (kept_of (entities.entity_of it.unit.nodes columns.names.now node))) whole
      ∙ ap (λ ds. names.by_declared (slice_index_or ds w Unclear) (names.around_of columns (Some w)).place (is_own w) (slice_index_or columns.statics.now w false) (kept_of (entities.entity_of it.unit.nodes columns.names.now node))) made_by.are.declared
      ∙ ap (λ around. names.by_declared (slice_index_or typing.declared w Unclear) (slice_index_or around w outermost).place (is_own w) (slice_index_or columns.statics.now w false) (kept_of (entities.entity_of it.unit.nodes columns.names.now node)))
      (made_by.are.around ∙ sym made_by.is.whole.tree.around)
      ∙ ap (λ ns. names.by_declared (slice_index_or typing.declared w Unclear) (place_of tree w) (is_own w) (slice_index_or columns.statics.now w false) (kept_of (entities.entity_of it.unit.nodes ns node))) made_by.are.names_are

  -- ---- what declares the entity of an object

  -- it is an object or a function
  pub sort_of : (token : ℕ) (v : DeclaresValue t.nodes token) → DeclaresObject typing v.declarator ⊎ DeclaresFunction typing v.declarator
  sort_of token v =
      let o = owned file t it token v.declaration v.declarator v.node v.is in
      let w = words file t it v.declaration v.node v.is.at v.is.external in
      let row = (entry_at typing v.declarator).own.named in
      let of = class_of (entry_at typing w.specifiers).own.specified.storage in
      let plain : is_typedef of ≡ false = sym w.say ∙ no_type (scripts.storage_of t.nodes v.node.parts) (declarator_of t.nodes v.declarator).next v.value in
      value_sort tree.nodes.now of (entry_at typing v.declarator).own.declarator.function row (slice_index_or typing.declared v.declarator Unclear)
      (declared_is file t it v.declaration v.node v.is.at v.is.external v.declarator o.node o.at o.names o.declaration
      ∙ ap (λ c. if c then TypeName else value_by tree.nodes.now of (entry_at typing v.declarator).own.declarator.function row) plain)

  module _ (token k declaration q : ℕ) (m : Node) (d : IsDeclarer t.nodes token declaration q m) (mine : bound.declared_entity it.names token ≡ Some k) (object : DeclaresObject typing q) where
    abbrev own_value : DeclaresValue t.nodes token
    own_value = record { declaration = declaration; declarator = q; node = m; is = d; value = value_there file t it token declaration q m d object }

    record IsObject (other : ℕ) : Type 0 where
      value : DeclaresValue t.nodes other
      is : DeclaresObject typing value.declarator

    -- an object as well
    is_object : (other : ℕ) → bound.declared_entity it.names other ≡ Some k → IsObject other
    is_object other its = elim (cases_lt other token) [
      | inl less ↦ record { value = v; is = follows_at file t it token other k declaration q v.declaration v.declarator m v.node d v.is mine its object less }
      | inr ge ↦ elim (cases_lt token other) [
        | inl more ↦ elim (sort_of other v) [
          | inl is ↦ record { value = v; is = is }
          | inr function ↦
              (let b = chained.follow file t it other token k v.declaration v.declarator declaration q v.node m v.is d its mine function more in
              let never : Object object.0 object.1.0 ≡ Function b.declares.0 b.declares.1.0 = sym object.1.1 ∙ b.declares.1.1 in
              absurd cc)
        ]
        | inr le ↦ (let same : token ≡ other = omega (arith, ge, le) in subst IsObject same (record { value = own_value; is = object }))
      ]
    ]
      where
        v : DeclaresValue t.nodes other
        v = values_share file t it other token k its mine own_value

    -- ---- where it is used

    module _ (i : ℕ) (n : Node) (at : slice_get t.nodes i ≡ Some n) (is : n.kind ≡ kind.Identifier) (stands : bound.entity_at it.names n.first ≡ Some k) where
      x : IsDefined file t it k
      x = defined_there file t it token k declaration q m d mine i n at (ap is_using is) stands

      abbrev e : ℕ
      e = x.defining

      o : IsObject e
      o = is_object e x.declares

      abbrev w : ℕ
      w = o.value.declarator

      e_low : e < tokens
      e_low = token_low spelled events tokens it.names it.known e k (entity_of_declared it.names e k x.declares)

      declarer : slice_index_or it.checked.checked.surroundings.bindings.declarers e None ≡ Some w
      declarer = declarer_is file t it e o.value.declaration w o.value.node o.value.is e_low

      closed : entities.is_open it.unit.nodes columns (Some w) ≡ false
      closed =
          (λ j. entities.is_declaration (kind_of it.unit.nodes (slice_index_or (made_by.are.above j) w None))
          && entities.is_extern (said_by (made_by.are.specified j) (part_of it.unit.nodes (slice_index_or (made_by.are.above j) w None) 0)))
          ∙ open_same known typing.specified (λ s. refl) (known.above w)
          ∙ sym (ap (λ x. checks_defined.open_by (meaning_by (type_at shapes) (slice_index_or typing.parameters w []) x) (checks.kind_above known w) (checks_defined.is_extern known w) (checks_defined.is_library known e)) o.is.1.1)
          ∙ sym (ap (checks_defined.is_open_if known e) declarer) ∙ x.closed

      -- so it is kept
      own_e : HasOwn t unit order e
      own_e = own_there t unit order e w o.value.is.name

      e_named : entities.named_token it.unit.nodes own_e.own ≡ Some e
      e_named = named_token file t it own_e.own own_e.node own_e.at own_e.is ∙ ap Some own_e.first

      e_whole : entities.whole_of it.unit.nodes columns own_e.own ≡ Some w
      e_whole = whole_by file t it own_e.own e e_named ∙ declarer

      e_keeps : entities.keeps it.unit.nodes columns (Some w) ≡ true
      e_keeps =
          both_true (entities.is_object (entities.declared_of columns (Some w))) (not (entities.is_open it.unit.nodes columns (Some w)))
          (ap (λ ds. entities.is_object (slice_index_or ds w Unclear)) made_by.are.declared ∙ ap entities.is_object o.is.1.1) (closed_is (entities.is_open it.unit.nodes columns (Some w)) closed)

      e_key : entities.kept_entity it.unit.nodes columns own_e.own ≡ Some k
      e_key =
          ap (λ x. if entities.keeps it.unit.nodes columns x then entities.entity_of it.unit.nodes columns.names.now own_e.own else None) e_whole
          ∙ ap (λ b. if b then entities.entity_of it.unit.nodes columns.names.now own_e.own else None) e_keeps
          ∙ ap (λ ns. entities.entity_of it.unit.nodes ns own_e.own) made_by.are.names_are
          ∙ entity_by file t it own_e.own e e_named ∙ entity_of_declared it.names e k x.declares

      few : k < length it.names.entities
      few = few_of spelled events tokens it.names it.known n.first k stands

      kept : kept_of (Some k) ≡ true
      kept =
          let c = count in
          let own_low = slice_get_within t.nodes own_e.own own_e.node own_e.at in
          let l = last_there (entities.kept_entity it.unit.nodes columns) (length it.unit.nodes) k own_e.own (omega (arith, c, own_low)) e_key in
          ap (λ ns. is_some (entities.last_below (entities.kept_entity it.unit.nodes columns) (length it.unit.nodes) (length ns.entities) k)) made_by.are.names_are
          ∙ ap (λ b. is_some (if b then last_with (entities.kept_entity it.unit.nodes columns) (length it.unit.nodes) k else None)) (lt-ltb k (length it.names.entities) few)
          ∙ ap is_some l.is

      -- ---- the first declaration

      abbrev f : ℕ
      f = x.first

      f_entity : bound.entity_at it.names f ≡ Some k
      f_entity = entity_of_declared it.names f k x.own

      f_low : f < tokens
      f_low = token_low spelled events tokens it.names it.known f k f_entity

      f_object : IsObject f
      f_object = is_object f x.own

      abbrev g : ℕ
      g = f_object.value.declarator

      named : IsFirst file t it i k f
      named = first_node file t it k f f_object.value.declaration g f_object.value.node f_object.value.is x.begins x.own i n at (ap (λ c. names.is_mention (Some c)) is) stands

      abbrev node : ℕ
      node = named.node

      no_object : slice_index_or t.durations (entity_of t i) duration.NoObject ≡ duration.NoObject → ⊥
      no_object none =
          is_object_there f_object.is.0 f_object.is.1.0 (place_of tree g) (is_own g) (slice_index_or columns.statics.now g false)
          (stands_there file t it f f_object.value.declaration g f_object.value.node f_object.value.is f_object.is)
          (sym (ap (λ x. names.by_declared x (place_of tree g) (is_own g) (slice_index_or columns.statics.now g false) true) f_object.is.1.1)
          ∙ sym (ap (names.by_declared (slice_index_or typing.declared g Unclear) (place_of tree g) (is_own g) (slice_index_or columns.statics.now g false))
          (ap kept_of (entity_by file t it node f named.named ∙ f_entity) ∙ kept))
          ∙ sym (duration_is node g (whole_by file t it node f named.named ∙ declarer_is file t it f f_object.value.declaration g f_object.value.node f_object.value.is f_low))
          ∙ sym (duration_at node (let l = named.low in let c = count in omega (arith, l, c)))
          ∙ ap (λ p. slice_index_or t.durations (entity_if p i) duration.NoObject) (sym named.is) ∙ none)

pub keep : Laws.NamedObjectsAreKept
keep file t it i token k declaration q n m at is stands d mine object none = no_object file t it token k declaration q m d mine object i n at is stands none
