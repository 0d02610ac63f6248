-- A name that sees a declared object names it, and its whole cells (C11 6.2.1p4, 6.2.7p3).
use Rattle.std.proofs.Common.{◌≡◌, ℕ, ◌≤◌, true, false, List, Option, None, Some, length, slice_get, slice_index_or, refl, sym, ap, subst, ◌∙◌, arith, if◌then◌else◌}
use Rattle.std.proofs.lemmas.Bool.{false≢true}
use Rattle.std.proofs.lemmas.Option.{slice_get_within}
use Rattle.cr_syntax.specs.declared.node.Kind.{Kind}
use Rattle.cr_syntax.specs.declared.node.Kind.TheVariants as kind
use Rattle.cr_syntax.specs.declared.node.Node.{Node}
use Rattle.cr_scopes_events.specs.Scripts as scripts
use Rattle.cr_scopes_bindings.specs.Entities as bound
use Rattle.cr_scopes_linkage.specs.Shared.Origins.{is_external, IsDeclarer}
use Rattle.cr_scopes.specs.Units.{unit_events}
use Rattle.cr_scopes_visibility.specs.Told.Told.{is_declaration as tells_names}
use Rattle.cr_scopes_visibility.specs.Once.Told.{count_of}
use Rattle.cr_check_expressions.specs.Forms.{form_of}
use Rattle.cr_typed.specs.declared.typed.Typed.{Typed}
use Rattle.cr_typed.specs.declared.typed.Duration.{Duration}
use Rattle.cr_typed.specs.declared.typed.Duration.TheVariants as duration
use Rattle.cr_typed_columns.specs.Reading.{parsed_of, entry_of}
use Rattle.cr_typed_columns.specs.Entities as entities
use Rattle.cr_typed_columns.specs.Names as names
use Rattle.cr_meaning.specs.declared.run.Limits.{Limits}
use Rattle.cr_meaning_operations.specs.Operations.{kind_at, entity_if, entity_of, program_of}
use Rattle.cr_meaning_typing.specs.Typed.Placed.{IsNamed}
use Rattle.cr_meaning_typing.specs.Typed.Typing.{has_value, is_expression}
use Rattle.cr_meaning_typing.specs.Judged.Judged.{seen_in}
use Rattle.cr_meaning_declarations.specs.Declared.Files.{IsUnitOfFile}
use Rattle.cr_meaning_declarations.proofs.DeclaredLemmas.Bodies.{listed_at}
use Rattle.cr_meaning_declarations.proofs.LinkedLemmas.Owned.{HasOwn, own_there}
use Rattle.cr_meaning_declarations.proofs.DeclaredLemmas.Files.{has_unit}
use Rattle.cr_meaning_objects.specs.Composed.Laws.{IsObject}
use Rattle.cr_meaning_objects.proofs.ObjectsLemmas.Declaring.{entity_of_declared}
use Rattle.cr_meaning_objects.proofs.KeptLemmas.Defined.{no_goto as mention_plain}
use Rattle.cr_meaning_files.specs.Celled.{SeesDeclared}
use Rattle.cr_meaning_files.specs.Local.{is_object_by}
use Rattle.cr_meaning_files.specs.Structures.{AreMembersWhole}
use Rattle.cr_meaning_files.proofs.Objects.{names_cells}
use Rattle.cr_meaning_files.proofs.Seeing.{held, declared_type}

-- ---- kinds

external_tells : (k : Kind) → is_external k ≡ true → tells_names k ≡ true
external_tells kind.Declaration h = refl
external_tells kind.FunctionDefinition h = refl
external_tells k h = absurd (false≢true h)

module _ (file : List ℕ) (t : Typed) (it : IsUnitOfFile file t) where
  open it use {made_by, columns}
  open has_unit file t it use {unit as u, nodes_are, count, order}

  -- a name refers to the node that declares its entity first
  pub refers : (j : ℕ) (m : Node) → slice_get t.nodes j ≡ Some m → names.is_mention (Some m.kind) ≡ true
      → slice_index_or t.refs j None ≡ entities.name_node (parsed_of it.unit) (bound.first_of it.names (bound.entity_at it.names m.first))
  refers j m at mention =
      ap (λ rs. slice_index_or rs j None) made_by.elaborated.refs
      ∙ listed_at (names.ref_of (parsed_of it.unit) columns) (length it.unit.nodes) j None (let low = slice_get_within t.nodes j m at in let c = count in omega (arith, low, c))
      ∙ ap (λ b. if b then slice_index_or columns.labels.now j None else entities.first_declared (parsed_of it.unit) columns.names.now (bound.entity_if columns.names.now (names.mentioned_token it.unit.nodes j))) plain_name
      ∙ ap (λ ns. entities.name_node (parsed_of it.unit) (bound.first_of ns (bound.entity_if ns (names.mentioned_token it.unit.nodes j)))) made_by.are.names_are
      ∙ ap (λ p. entities.name_node (parsed_of it.unit) (bound.first_of it.names (bound.entity_if it.names p))) mentions
    where
      kind_is : scripts.kind_at it.unit.nodes j ≡ Some m.kind
      kind_is = ap (λ ns. scripts.kind_at ns j) nodes_are ∙ ap scripts.kind_if at

      plain_name : names.is_goto (scripts.kind_at it.unit.nodes j) ≡ false
      plain_name = ap names.is_goto kind_is ∙ mention_plain m.kind mention

      mentions : names.mentioned_token it.unit.nodes j ≡ Some m.first
      mentions =
          ap (λ k. if names.is_mention k then scripts.first_at it.unit.nodes j else None) kind_is
          ∙ ap (λ b. if b then scripts.first_at it.unit.nodes j else None) mention
          ∙ ap (λ ns. scripts.first_at ns j) nodes_are ∙ ap scripts.first_if at

  -- a name that declares nothing is no object
  nothing_there : (i : ℕ) (n : Node) → slice_get t.nodes i ≡ Some n → n.kind ≡ kind.Identifier → slice_index_or t.durations i duration.NoObject ≡ duration.NoObject
  nothing_there i n at is =
      ap (λ ds. slice_index_or ds i duration.NoObject) made_by.elaborated.durations
      ∙ listed_at (names.duration_of it.unit.nodes columns) (length it.unit.nodes) i duration.NoObject (let low = slice_get_within t.nodes i n at in let c = count in omega (arith, low, c))
      ∙ ap by_token none
    where
      by_token : Option ℕ → Duration
      by_token o =
          (let w = entry_of columns.declarers.now None o in
          names.by_declared (entities.declared_of columns w) (names.around_of columns w).place (names.is_own it.unit.nodes columns w (names.around_of columns w).function) (entry_of columns.statics.now false w)
          (entities.is_kept it.unit.nodes columns (entities.entity_of it.unit.nodes columns.names.now i)))

      none : entities.named_token it.unit.nodes i ≡ None
      none =
          ap (λ ns. entities.named_token ns i) nodes_are ∙ ap (λ o. if entities.is_name (scripts.kind_if o) then scripts.first_if o else None) at
          ∙ ap (λ k. if entities.is_name (Some k) then Some n.first else None) is

  module _ (i : ℕ) (n : Node) (at : slice_get t.nodes i ≡ Some n) (is : n.kind ≡ kind.Identifier) (few : count_of n.first (unit_events it.unit) ≤ 1)
      (lvalue : (seen_in it.checked.checked i).lvalue ≡ true) (s : SeesDeclared file t it i n.first) where
    abbrev own : HasOwn t u order s.token
    own = own_there t u order s.token s.declarator s.is.name

    abbrev node : ℕ
    node = own.own

    declared_there : IsObject file t it node s.declarator
    declared_there = record {
      own = own.node;
      at = own.at;
      is = own.is;
      entity = s.stands.entity;
      declares = ap (bound.declared_entity it.names) own.first ∙ s.stands.declares;
      declaration = s.declaration;
      holder = s.node;
      declarer = subst (λ z. IsDeclarer t.nodes z s.declaration s.declarator s.node) (sym own.first) s.is;
      object = s.object;
    }

    -- it names an object of the program
    pub mentioned_object : is_object_by (slice_index_or t.durations (entity_of t i) duration.NoObject) ≡ true
    mentioned_object = by (slice_index_or t.durations (entity_of t i) duration.NoObject) s.stands.kept
      where
        by : (d : Duration) → (d ≡ duration.NoObject → ⊥) → is_object_by d ≡ true
        by duration.NoObject h = absurd (h refl)
        by d h = refl

    entity_there : bound.entity_at it.names own.node.first ≡ Some s.stands.entity
    entity_there = ap (bound.entity_at it.names) own.first ∙ entity_of_declared it.names s.token s.stands.entity s.stands.declares

    same_refs : slice_index_or t.refs i None ≡ slice_index_or t.refs node None
    same_refs =
        refers i n at (ap (λ c. names.is_mention (Some c)) is)
        ∙ ap (λ o. entities.name_node (parsed_of it.unit) (bound.first_of it.names o)) (s.stands.stands ∙ sym entity_there)
        ∙ sym (refers node own.node own.at (ap (λ c. names.is_mention (Some c)) own.is))

    -- that for which its declared name stands
    same_entity : entity_of t i ≡ entity_of t node
    same_entity = by (slice_index_or t.refs i None) refl
      where
        by : (o : Option ℕ) → slice_index_or t.refs i None ≡ o → entity_of t i ≡ entity_of t node
        by (Some f) e = ap (λ o. entity_if o i) e ∙ sym (ap (λ o. entity_if o node) (sym same_refs ∙ e))
        by None e =
            absurd (false≢true (sym (ap (λ z. is_object_by (slice_index_or t.durations z duration.NoObject)) (ap (λ o. entity_if o i) e) ∙ ap is_object_by (nothing_there i n at is)) ∙ mentioned_object))

    -- with whole cells
    pub mentioned_named : AreMembersWhole t → ((j : ℕ) → is_expression (form_of (kind_at t j)) ≡ true → has_value (seen_in it.checked.checked j).type ≡ true) → (limits : Limits) → IsNamed (program_of t limits) t i
    mentioned_named made worth limits =
        let declares = held file t it s.declaration s.is.place s.is.part s.declarator s.node s.is.at (external_tells s.node.kind s.is.external) s.is.is s.is.declares in
        let p = declared_type file t it i n at is few lvalue s.token s.declarator s.visible declares s.is.name in
        names_cells file t it made worth limits node s.declarator p.0 i declared_there p.1.0 p.1.1 same_entity mentioned_object
