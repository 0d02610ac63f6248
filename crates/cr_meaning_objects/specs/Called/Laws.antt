-- Calls of functions that a file's unit defines (C11 6.2.7p2, 6.5.2.2p6, 6.9.1).
use Rattle.std.specs.Prelude.{◌≡◌, ℕ, ◌<◌, List, [], None, Some, length, map, slice_get, slice_index_or}
use Rattle.cr_syntax.specs.declared.ctype.CType.TheVariants.{Int, Struct}
use Rattle.cr_syntax.specs.declared.node.Kind.TheVariants as kind
use Rattle.cr_syntax.specs.declared.node.Node.{Node}
use Rattle.cr_scopes_bindings.specs.Entities.{declared_entity}
use Rattle.cr_scopes_linkage.specs.Shared.Origins.{IsDeclarer}
use Rattle.cr_check_types.specs.Types.{Qualified, plain, pointer, array}
use Rattle.cr_check_expressions.specs.Known.{Signature, a_function}
use Rattle.cr_typed.specs.declared.typed.Typed.{Typed}
use Rattle.cr_meaning.specs.World.{Program}
use Rattle.cr_meaning.specs.declared.op.Parameter.{Parameter}
use Rattle.cr_meaning.specs.declared.run.Limits.{Limits}
use Rattle.cr_meaning_soundness.specs.Sorts.{sort_of}
use Rattle.cr_meaning_operations.specs.Shapes.{form_by}
use Rattle.cr_meaning_operations.specs.Operations.{parameter_of, program_of}
use Rattle.cr_meaning_typing.specs.Typed.Good.{value_sort}
use Rattle.cr_meaning_typing.specs.Calls.Calls.{IsGiven, IsParameter}
use Rattle.cr_meaning_typing.specs.Judged.Judged.{source_of, scene_of}
use Rattle.cr_meaning_declarations.specs.Declared.Files.{IsUnitOfFile}

-- the declaration that is visible at a node and a definition declare one entity (6.2.2p2)
pub record IsMeant (file : List ℕ) (t : Typed) (it : IsUnitOfFile file t) (i d : ℕ) : Type 0 where
  pub entity : ℕ
  -- the declaration that is visible
  pub token : ℕ
  pub declaration : ℕ
  pub declarator : ℕ
  pub node : Node
  pub sees : slice_index_or it.checked.by.tree.visible.now i None ≡ Some declarator
  pub declares : IsDeclarer t.nodes token declaration declarator node
  pub stands : declared_entity it.names token ≡ Some entity
  -- the definition
  pub name : ℕ
  pub whole : ℕ
  pub own : Node
  pub defines : IsDeclarer t.nodes name d whole own
  pub body : own.kind ≡ kind.FunctionDefinition
  pub same : declared_entity it.names name ≡ Some entity

-- a definition gives what a call expects, and has as many parameters
pub record IsFitting (file : List ℕ) (t : Typed) (it : IsUnitOfFile file t) (p : Program) (signature : Signature) (d : ℕ) : Type 0 where
  pub gives : (row : ℕ) → value_sort p row signature.gives ≡ sort_of p (form_by t 0 ((scene_of it.checked.by.tree it.checked.checked).gives (Some d)))
  pub count : length (slice_index_or t.parameters d []) ≡ signature.count

-- what a call sees has the result and the parameters of the definition (K9, K10)
abbrev pub DefinitionsFitCalls : Type 0
DefinitionsFitCalls = (file : List ℕ) (t : Typed) (it : IsUnitOfFile file t)
    → (p : Program) (i d : ℕ) (signature : Signature) → (source_of it.checked.by.tree it.checked.checked i).stands i ≡ a_function signature → IsGiven signature.gives → IsMeant file t it i d
    → IsFitting file t it p signature d

-- a type of which some value may be passed (6.5.2.2p2)
abbrev pub IsPassed : Qualified → Type 0
IsPassed (plain (Int k) c v) = Unit {0}
IsPassed (plain (Struct node) c v) = Unit {0}
IsPassed (pointer c v below) = Unit {0}
IsPassed (array n below) = Unit {0}
IsPassed type = ⊥

-- and the objects of its parameters are as the call takes them (6.5.2.2p7, 6.7.6.3p15)
abbrev pub ParametersFitCalls : Type 0
ParametersFitCalls = (file : List ℕ) (t : Typed) (it : IsUnitOfFile file t)
    → (limits : Limits) (i d : ℕ) (signature : Signature) → (source_of it.checked.by.tree it.checked.checked i).stands i ≡ a_function signature → IsMeant file t it i d
    → ((k : ℕ) (type : Qualified) → k < signature.count → signature.parameter k ≡ Some type → IsPassed type)
    → (k : ℕ) (own : Parameter) → slice_get (map (parameter_of t) (slice_index_or t.parameters d [])) k ≡ Some own → IsParameter (program_of t limits) t signature k own
