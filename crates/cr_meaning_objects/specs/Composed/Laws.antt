-- The composite type of an object's declarations in a file's unit (C11 6.2.7p3, p4).
use Rattle.std.specs.Prelude.{◌≡◌, ℕ, List, Some, slice_get}
use Rattle.cr_syntax.specs.declared.node.Kind.TheVariants as kind
use Rattle.cr_syntax.specs.declared.node.Node.{Node}
use Rattle.cr_scopes_events.specs.Declarators.{declarator_of}
use Rattle.cr_scopes_bindings.specs.Entities.{declared_entity}
use Rattle.cr_scopes_linkage.specs.Shared.Origins.{IsDeclarer}
use Rattle.cr_check_types.specs.Types.{Qualified}
use Rattle.cr_check_types.specs.Relations.{composite_of}
use Rattle.cr_check_unit.specs.Typing.{cut, object_in}
use Rattle.cr_typed.specs.declared.typed.Typed.{Typed}
use Rattle.cr_typed_columns.specs.Entities as declared
use Rattle.cr_meaning_operations.specs.Shapes.{named_type}
use Rattle.cr_meaning_operations.specs.Operations.{entity_of, name_of}
use Rattle.cr_meaning_declarations.specs.Declared.Files.{IsUnitOfFile}
use Rattle.cr_meaning_declarations.specs.Linked.Laws.{DeclaresValue}
use Rattle.cr_meaning_objects.specs.Objects.Laws.{DeclaresObject}
use Rattle.cr_meaning_objects.specs.Parameters.Laws.{named_at}

-- the other is the same type but for sizes that became known: it is the composite of both (6.2.7p3)
abbrev pub Becomes : Qualified → Qualified → Type 0
Becomes one whole = composite_of one whole ≡ whole

-- the declared name at a node: its declarator declares the object of an entity
pub record IsObject (file : List ℕ) (t : Typed) (it : IsUnitOfFile file t) (node q : ℕ) : Type 0 where
  pub own : Node
  pub at : slice_get t.nodes node ≡ Some own
  pub is : own.kind ≡ kind.NameDeclarator
  pub entity : ℕ
  pub declares : declared_entity it.names own.first ≡ Some entity
  pub declaration : ℕ
  pub holder : Node
  pub declarer : IsDeclarer t.nodes own.first declaration q holder
  pub object : DeclaresObject it.checked.checked.whole.typing q

-- the entity has the type of each declarator, but for sizes that became known (K9)
abbrev pub CompositesComplete : Type 0
CompositesComplete = (file : List ℕ) (t : Typed) (it : IsUnitOfFile file t)
    → (node q : ℕ) → IsObject file t it node q → Becomes (named_at file t it q) (named_type t (entity_of t node))

-- its first declaration, for which its names stand, is one of it
abbrev pub FirstsDeclareTheirObjects : Type 0
FirstsDeclareTheirObjects = (file : List ℕ) (t : Typed) (it : IsUnitOfFile file t)
    → (node q : ℕ) (x : IsObject file t it node q) → declared.entity_of it.unit.nodes it.names (entity_of t node) ≡ Some x.entity

-- and each declared name of its entity is one of the object, by its own whole declarator
abbrev pub NamesOfObjectsAreObjects : Type 0
NamesOfObjectsAreObjects = (file : List ℕ) (t : Typed) (it : IsUnitOfFile file t)
    → (node q : ℕ) (x : IsObject file t it node q) (i : ℕ) → declared.entity_of it.unit.nodes it.names i ≡ Some x.entity
    → (r : ℕ) × (IsObject file t it i r × ((declared.whole_of it.unit.nodes it.checked.by.columns i ≡ Some r) × (entity_of t i ≡ entity_of t node)))

-- and that which an initialiser completes (6.7.9p22)
abbrev pub InitialisersComplete : Type 0
InitialisersComplete = (file : List ℕ) (t : Typed) (it : IsUnitOfFile file t)
    → (node q : ℕ) → IsObject file t it node q → (i : ℕ) (n : Node) → slice_get t.nodes i ≡ Some n → n.kind ≡ kind.InitDeclarator → slice_get n.parts 0 ≡ Some q
    → Becomes (named_at file t it i) (named_type t (entity_of t node))

-- an initialised declarator that declares an object by its name is one of a declaration (6.7p1)
abbrev pub InitialisersStandInDeclarations : Type 0
InitialisersStandInDeclarations = (file : List ℕ) (t : Typed) (it : IsUnitOfFile file t)
    → (i q token : ℕ) (n : Node) → slice_get t.nodes i ≡ Some n → n.kind ≡ kind.InitDeclarator → slice_get n.parts 0 ≡ Some q → DeclaresObject it.checked.checked.whole.typing q
    → (declarator_of t.nodes q).name ≡ Some token → (declaration : ℕ) × ((holder : Node) × IsDeclarer t.nodes token declaration q holder)

-- and its name is that of its declarator
abbrev pub InitialisersNameTheirTokens : Type 0
InitialisersNameTheirTokens = (file : List ℕ) (t : Typed) (it : IsUnitOfFile file t)
    → (i q token : ℕ) (n : Node) → slice_get t.nodes i ≡ Some n → n.kind ≡ kind.InitDeclarator → slice_get n.parts 0 ≡ Some q → (declarator_of t.nodes q).name ≡ Some token
    → (own : Node) × ((slice_get t.nodes (name_of t i) ≡ Some own) × ((own.kind ≡ kind.NameDeclarator) × (own.first ≡ token)))

-- and it has one
abbrev pub InitialisersHaveNames : Type 0
InitialisersHaveNames = (file : List ℕ) (t : Typed) (it : IsUnitOfFile file t)
    → (i q : ℕ) (n : Node) → slice_get t.nodes i ≡ Some n → n.kind ≡ kind.InitDeclarator → slice_get n.parts 0 ≡ Some q → (token : ℕ) × ((declarator_of t.nodes q).name ≡ Some token)

-- a declared object or function has an entity: its declaration is told (6.2.1p7)
abbrev pub DeclaredValuesHaveEntities : Type 0
DeclaredValuesHaveEntities = (file : List ℕ) (t : Typed) (it : IsUnitOfFile file t)
    → (token : ℕ) → DeclaresValue t.nodes token → (entity : ℕ) × (declared_entity it.names token ≡ Some entity)

-- so the law on initialisers is of each initialised declarator that declares an object
abbrev pub InitialisersAreObjects : Type 0
InitialisersAreObjects = (file : List ℕ) (t : Typed) (it : IsUnitOfFile file t)
    → (i q : ℕ) (n : Node) → slice_get t.nodes i ≡ Some n → n.kind ≡ kind.InitDeclarator → slice_get n.parts 0 ≡ Some q → DeclaresObject it.checked.checked.whole.typing q
    → IsObject file t it (name_of t i) q

-- what an initialiser is read for is an object that its declarator declares
abbrev pub PlannedDeclareObjects : Type 0
PlannedDeclareObjects = (file : List ℕ) (t : Typed) (it : IsUnitOfFile file t)
    → (i q : ℕ) (n : Node) → slice_get t.nodes i ≡ Some n → slice_get n.parts 0 ≡ Some q → (type : Qualified) → object_in it.checked.checked.table (cut i it.checked.checked.whole.typing) n ≡ Some type
    → DeclaresObject it.checked.checked.whole.typing q
