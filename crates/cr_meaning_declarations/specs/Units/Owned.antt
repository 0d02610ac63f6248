-- Where the declarators of a unit stand (C11 6.7, 6.8.2, 6.8.5.3), and what is asked of its names and initialisers.
use Rattle.std.specs.Prelude.{◌≡◌, ℕ, ◌==◌, ◌||◌, Bool, true, false, Option, Some, None, List, [], slice_get, slice_index_or, length}
use Rattle.std.specs.List.{list_any}
use Rattle.cr_syntax.specs.declared.node.Kind.{Kind}
use Rattle.cr_syntax.specs.declared.node.Kind.TheVariants as kind
use Rattle.cr_syntax.specs.declared.node.Node.{Node}
use Rattle.cr_syntax.specs.declared.part.Part.TheVariants.{Initializer}
use Rattle.cr_syntax.specs.Kept.{AreWithin, PartsAreBelow, NamedOnce, ItemsAreNodes, row_in}
use Rattle.cr_syntax.specs.Words.{Lexeme}
use Rattle.cr_syntax.specs.Spells.{Limit}
use Rattle.cr_syntax.specs.Units.{IsUnit}
use Rattle.cr_syntax_nodes.specs.Laid.{stands_for}
use Rattle.cr_typed.specs.declared.typed.Typed.{Typed}
use Rattle.cr_typed.specs.declared.typed.Put.{Put}
use Rattle.cr_meaning.specs.declared.op.Parameter.{Parameter}
use Rattle.cr_meaning.specs.declared.op.Callee.TheVariants.{Function}
use Rattle.cr_meaning_operations.specs.Operations.{kind_at, name_of, entity_of, is_automatic, declarators_of, callee_of}

-- ---- the declarators that stand in a node, as declarations hand them on

-- the object that a declarator declares; with an initialiser, that of the entity which is initialised
abbrev pub declared_by : Typed → ℕ → Kind → Option ℕ
declared_by t node kind.InitDeclarator = Some (entity_of t (name_of t node))
declared_by t node kind.NameDeclarator = Some node
declared_by t node kind.PointerDeclarator = Some (name_of t node)
declared_by t node kind.GroupDeclarator = Some (name_of t node)
declared_by t node kind.ArrayDeclarator = Some (name_of t node)
declared_by t node other = None

abbrev pub is_declared : Option ℕ → ℕ → Bool
is_declared None declared = false
is_declared (Some own) declared = own == declared

abbrev pub declares : Typed → ℕ → ℕ → Bool
declares t declared node = is_declared (declared_by t node (kind_at t node)) declared

-- a declaration has the objects of its declarators
abbrev pub owns_by : Typed → ℕ → Kind → ℕ → Bool
owns_by t node kind.Declaration declared = list_any (declares t declared) (declarators_of t node)
owns_by t node k declared = is_declared (declared_by t node k) declared

-- and the whole program those of all static objects; no other node has any
abbrev pub owns : Typed → ℕ → ℕ → Bool
owns t node declared = (node == length t.nodes) || owns_by t node (kind_at t node) declared

-- ---- what is asked of a unit's columns

-- the nodes are those of a unit of the grammar
pub record AreOfUnit (t : Typed) : Type 0 where
  pub tokens : List Lexeme
  pub limit : Limit
  pub within : AreWithin (length t.tokens) t.nodes
  pub below : PartsAreBelow t.nodes
  pub once : NamedOnce t.nodes t.items
  pub are : ItemsAreNodes t.nodes t.items
  pub is_unit : IsUnit limit tokens (row_in t.nodes t.items)

-- what is planned to be put in an object is an initialiser (6.7.9)
pub record IsInitialiser (t : Typed) (node : ℕ) : Type 0 where
  pub own : Node
  pub at : slice_get t.nodes node ≡ Some own
  pub stands : stands_for Initializer own.kind ≡ true

abbrev pub AreInitialisers : Typed → Type 0
AreInitialisers t = (node k : ℕ) (put : Put) → slice_get (slice_index_or t.plans node []) k ≡ Some put → IsInitialiser t put.node

-- an object of automatic duration is declared once: it has no linkage (6.2.2p6, 6.7p3)
abbrev pub AreDeclaredOnce : Typed → Type 0
AreDeclaredOnce t = (declarator : ℕ) → is_automatic t declarator ≡ true → entity_of t (name_of t declarator) ≡ name_of t declarator

-- kinds of nodes with declarators of their own
abbrev pub is_owner : Kind → Bool
is_owner kind.Declaration = true
is_owner kind.InitDeclarator = true
is_owner kind.NameDeclarator = true
is_owner kind.PointerDeclarator = true
is_owner kind.GroupDeclarator = true
is_owner kind.ArrayDeclarator = true
is_owner other = false

-- a node that declares nothing by itself, as the block that is the body of a function (6.9.1)
pub record IsBody (t : Typed) (node : ℕ) : Type 0 where
  pub own : Node
  pub at : slice_get t.nodes node ≡ Some own
  pub plain : is_owner own.kind ≡ false

-- what a call of a function goes on with is such a node
abbrev pub AreBodies : Typed → Type 0
AreBodies t = (node : ℕ) (parameters : List Parameter) (rest : ℕ) (is_main : Bool) → kind_at t node ≡ kind.Call → callee_of t node ≡ Function parameters rest is_main → IsBody t rest

-- all of it: what the grammar, the initialisers and the names of a unit give
pub record IsWellDeclared (t : Typed) : Type 0 where
  pub of_unit : AreOfUnit t
  pub initialisers : AreInitialisers t
  pub once : AreDeclaredOnce t
  pub bodies : AreBodies t
