-- What a name sees, and what it stands for (C11 6.2.1p4, 6.2.2p2).
use Rattle.std.specs.Prelude.{◌≡◌, ℕ, ◌<◌, ◌≤◌, ◌⊎◌, true, List, None, Some, length, slice_get, slice_index_or}
use Rattle.cr_syntax.specs.declared.node.Kind.TheVariants as kind
use Rattle.cr_syntax.specs.declared.node.Node.{Node}
use Rattle.cr_scopes_events.specs.declared.event.Event.{Event}
use Rattle.cr_scopes.specs.declared.names.Names.{Names}
use Rattle.cr_scopes_events.specs.Declarators.{declarator_of}
use Rattle.cr_scopes_events.specs.Scripts.{storage_of, role_by}
use Rattle.cr_scopes.specs.Resolved.{AreResolved, past_of}
use Rattle.cr_scopes.specs.Units.{unit_events}
use Rattle.cr_scopes_bindings.specs.Entities.{entity_at, declared_entity}
use Rattle.cr_scopes_bindings.specs.Nodes.{name_at}
use Rattle.cr_scopes_bindings.specs.Visible.{visible}
use Rattle.cr_scopes_visibility.specs.Alone.Alone.{IsAlone}
use Rattle.cr_scopes_linkage.specs.Shared.Sorts.{is_value}
use Rattle.cr_scopes_linkage.specs.Shared.Origins.{IsDeclarer}
use Rattle.cr_scopes_visibility.specs.Sight.Scopes.{is_using}
use Rattle.cr_scopes_typedef_names.specs.Tellings.Tellings.{is_parameter, IsDeclarer as IsTeller}
use Rattle.cr_scopes_visibility.specs.Uses.Uses.{is_use}
use Rattle.cr_scopes_visibility.specs.Once.Told.{count_of}
use Rattle.cr_check_surroundings.specs.Raised.{raised_of}
use Rattle.cr_check_types.specs.Types.{Qualified, plain, pointer, array, type_at}
use Rattle.cr_check_types.specs.Relations.{composite_of}
use Rattle.cr_typed.specs.declared.typed.Typed.{Typed}
use Rattle.cr_typed.specs.declared.typed.Duration.TheVariants as duration
use Rattle.cr_typed.specs.Typed.{MOST_CELLS}
use Rattle.cr_meaning.specs.World.{Program}
use Rattle.cr_meaning_operations.specs.Shapes.{type_of_node, named_type, cells_of}
use Rattle.cr_meaning_operations.specs.Operations.{entity_of, is_automatic_by}
use Rattle.cr_meaning_typing.specs.Typed.Placed.{IsNamed}
use Rattle.cr_meaning_objects.specs.Initialised.Composites.{IsSized}
use Rattle.cr_meaning_declarations.specs.Declared.Files.{IsUnitOfFile}
use Rattle.cr_meaning_typing.specs.Judged.Judged.{seen_in}
use Rattle.cr_meaning_objects.specs.Objects.Laws.{DeclaresObject, HasLinkage}

-- a token always stands for the same: it is told once, or each time without linkage (6.2.2p6)
abbrev pub IsSteady : ℕ → List Event → Type 0
IsSteady token events = (count_of token events ≤ 1) ⊎ IsAlone token (past_of events (length events))

-- where no name is at fault, a name that is told once and sees a token stands for the entity of this token
abbrev pub UsesStandForWhatTheySee : Type 0
UsesStandForWhatTheySee = (name : ℕ → ℕ) (events : List Event) (tokens : ℕ) (names : Names) (token site entity : ℕ) → AreResolved name events tokens names → site < tokens
    → token < tokens
    → is_use site (past_of events (length events)) ≡ true → count_of site events ≤ 1 → IsSteady token events → visible name (past_of events (length events)) site ≡ Some token
    → entity_at names site ≡ Some entity → entity_at names token ≡ Some entity

-- and where this one stands for an entity, so does the name
abbrev pub UsesHaveEntities : Type 0
UsesHaveEntities = (name : ℕ → ℕ) (events : List Event) (tokens : ℕ) (names : Names) (token site entity : ℕ) → AreResolved name events tokens names → site < tokens
    → token < tokens
    → is_use site (past_of events (length events)) ≡ true → count_of site events ≤ 1 → IsSteady token events → visible name (past_of events (length events)) site ≡ Some token
    → entity_at names token ≡ Some entity → entity_at names site ≡ Some entity

-- ---- of a file's unit

-- a node sees the whole declarator of a token, or this with its initialiser
pub record IsSeen (file : List ℕ) (t : Typed) (it : IsUnitOfFile file t) (i first : ℕ) : Type 0 where
  pub token : ℕ
  pub whole : ℕ
  pub names : name_at t.nodes whole ≡ Some token
  pub below : whole < i
  pub sees : slice_index_or it.checked.by.tree.visible.now i None ≡ raised_of it.unit.nodes it.checked.checked.surroundings.above (Some whole) i
  -- and its own name stands for the entity of the token
  pub stands : IsSteady token (unit_events it.unit) → (entity : ℕ) → entity_at it.names first ≡ Some entity → entity_at it.names token ≡ Some entity

-- an identifier that is told once stands for what it sees (6.2.1p4)
abbrev pub NamesStandForWhatTheySee : Type 0
NamesStandForWhatTheySee = (file : List ℕ) (t : Typed) (it : IsUnitOfFile file t) (i : ℕ) (n : Node) → slice_get t.nodes i ≡ Some n → n.kind ≡ kind.Identifier
    → count_of n.first (unit_events it.unit) ≤ 1 → IsSeen file t it i n.first

-- the name of a declarator declares what it stands for
abbrev pub DeclaratorsDeclare : Type 0
DeclaratorsDeclare = (file : List ℕ) (t : Typed) (it : IsUnitOfFile file t) (q token entity : ℕ) → (declarator_of t.nodes q).name ≡ Some token
    → entity_at it.names token ≡ Some entity → declared_entity it.names token ≡ Some entity

-- the name of an automatic object always stands for the same: it has no linkage (6.2.2p6)
abbrev pub AutomaticNamesAreSteady : Type 0
AutomaticNamesAreSteady = (file : List ℕ) (t : Typed) (it : IsUnitOfFile file t) (node : ℕ) (own : Node) → slice_get t.nodes node ≡ Some own
    → is_automatic_by (slice_index_or t.durations node duration.NoObject) ≡ true → IsSteady own.first (unit_events it.unit)

-- so does that of an object without linkage, which may last (6.2.4p3)
abbrev pub ObjectsAreLinkedOrSteady : Type 0
ObjectsAreLinkedOrSteady = (file : List ℕ) (t : Typed) (it : IsUnitOfFile file t) → (token i q : ℕ) (m : Node) → IsDeclarer t.nodes token i q m
    → DeclaresObject it.checked.checked.whole.typing q → HasLinkage file t it q ⊎ IsSteady token (unit_events it.unit)

-- the name that an external declaration declares is told once (6.9)
abbrev pub ExternalTokensAreToldOnce : Type 0
ExternalTokensAreToldOnce = (file : List ℕ) (t : Typed) (it : IsUnitOfFile file t) (token declaration q place : ℕ) (m : Node) → IsDeclarer t.nodes token declaration q m
    → slice_get t.items place ≡ Some declaration → count_of token (unit_events it.unit) ≤ 1

-- a name that is used, and told once, stands for the entity that the declaration or definition which it sees declares, as an object or a function
-- (6.2.1p4, 6.2.2p2)
abbrev pub NamesStandForDeclarations : Type 0
NamesStandForDeclarations = (file : List ℕ) (t : Typed) (it : IsUnitOfFile file t) (i : ℕ) (n : Node) → slice_get t.nodes i ≡ Some n → is_using n.kind ≡ true
    → count_of n.first (unit_events it.unit) ≤ 1 → (token declaration q : ℕ) (m : Node) → IsDeclarer t.nodes token declaration q m
    → is_value (role_by (storage_of t.nodes m.parts) (declarator_of t.nodes q).next) ≡ true
    → slice_index_or it.checked.checked.surroundings.bindings.visible n.first None ≡ Some token
    → (entity : ℕ) × ((entity_at it.names n.first ≡ Some entity) × (declared_entity it.names token ≡ Some entity))

-- ---- its object

-- a name stands for the entity that a token declares, and for an object that the program has (6.9p3, p5, K40)
pub record StandsForObject (file : List ℕ) (t : Typed) (it : IsUnitOfFile file t) (i first token : ℕ) : Type 0 where
  pub entity : ℕ
  pub stands : entity_at it.names first ≡ Some entity
  pub declares : declared_entity it.names token ≡ Some entity
  pub kept : slice_index_or t.durations (entity_of t i) duration.NoObject ≡ duration.NoObject → ⊥

-- an identifier that is told once, and sees an object of a declaration, stands for it
abbrev pub NamesStandForObjects : Type 0
NamesStandForObjects = (file : List ℕ) (t : Typed) (it : IsUnitOfFile file t) → (i : ℕ) (n : Node)
    → slice_get t.nodes i ≡ Some n → n.kind ≡ kind.Identifier → count_of n.first (unit_events it.unit) ≤ 1 → (token declaration q : ℕ) (m : Node)
    → IsDeclarer t.nodes token declaration q m → DeclaresObject it.checked.checked.whole.typing q
    → slice_index_or it.checked.checked.surroundings.bindings.visible n.first None ≡ Some token → StandsForObject file t it i n.first token

-- a name sees an object of a declaration, and stands for it
pub record SeesDeclared (file : List ℕ) (t : Typed) (it : IsUnitOfFile file t) (i first : ℕ) : Type 0 where
  pub token : ℕ
  pub visible : slice_index_or it.checked.checked.surroundings.bindings.visible first None ≡ Some token
  pub declaration : ℕ
  pub declarator : ℕ
  pub node : Node
  pub is : IsDeclarer t.nodes token declaration declarator node
  pub object : DeclaresObject it.checked.checked.whole.typing declarator
  pub stands : StandsForObject file t it i first token

-- or it sees a parameter
pub record SeesParameter (file : List ℕ) (t : Typed) (it : IsUnitOfFile file t) (first : ℕ) : Type 0 where
  pub token : ℕ
  pub visible : slice_index_or it.checked.checked.surroundings.bindings.visible first None ≡ Some token
  pub parameter : IsTeller t.nodes token is_parameter
  pub object : DeclaresObject it.checked.checked.whole.typing parameter.declarator

-- an identifier that is told once, and designates an object, sees the one or the other (6.5.1p2)
abbrev pub PlacesStandForObjects : Type 0
PlacesStandForObjects = (file : List ℕ) (t : Typed) (it : IsUnitOfFile file t) → (i : ℕ) (n : Node)
    → slice_get t.nodes i ≡ Some n → n.kind ≡ kind.Identifier → (seen_in it.checked.checked i).lvalue ≡ true → count_of n.first (unit_events it.unit) ≤ 1
    → SeesDeclared file t it i n.first ⊎ SeesParameter file t it n.first

-- ---- its type

-- what a node sees declares an object, whose type there it has
pub record HasSeenType (file : List ℕ) (t : Typed) (it : IsUnitOfFile file t) (i : ℕ) : Type 0 where
  pub declarator : ℕ
  pub sees : slice_index_or it.checked.by.tree.visible.now i None ≡ Some declarator
  pub below : declarator < i
  pub object : DeclaresObject it.checked.checked.whole.typing declarator
  pub type : type_of_node t i ≡ type_at it.checked.checked.table (slice_index_or it.checked.checked.whole.typing.named declarator 0)

-- an identifier that designates an object has the type with which the declaration that it sees declares it (6.5.1p2, 6.7.6)
abbrev pub NamesHaveTheTypesTheySee : Type 0
NamesHaveTheTypesTheySee = (file : List ℕ) (t : Typed) (it : IsUnitOfFile file t) (i : ℕ) (n : Node) → slice_get t.nodes i ≡ Some n → n.kind ≡ kind.Identifier
    → (seen_in it.checked.checked i).lvalue ≡ true → HasSeenType file t it i

-- ---- its cells

-- an array has elements of known sizes (6.7.6.2p1)
abbrev pub HasSizedElements : Qualified → Type 0
HasSizedElements (array n below) = IsSized below
HasSizedElements (plain of c v) = Unit {0}
HasSizedElements (pointer c v below) = Unit {0}

-- where the object has the cells of its type, some and not too many, and this is the type of the name but for sizes that became known
-- (6.2.7p3), the name has whole cells
abbrev pub NamesHaveWholeCells : Type 0
NamesHaveWholeCells = (p : Program) (t : Typed) (i : ℕ) → HasSizedElements (type_of_node t i)
    → composite_of (type_of_node t i) (named_type t (entity_of t i)) ≡ named_type t (entity_of t i)
    → length (p.shape (entity_of t i)) ≡ cells_of t (named_type t (entity_of t i)) → 1 ≤ length (p.shape (entity_of t i)) → length (p.shape (entity_of t i)) ≤ MOST_CELLS
    → IsNamed p t i
