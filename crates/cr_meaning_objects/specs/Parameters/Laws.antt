-- Laws of the parameters of a unit's definitions (C11 6.7.6.3p7, 6.9.1p7).
use Rattle.std.specs.Prelude.{◌≡◌, ℕ, true, Bool, List, [], Some, map, slice_get, slice_index_or}
use Rattle.cr_syntax.specs.declared.node.Kind.TheVariants as kind
use Rattle.cr_syntax.specs.declared.node.Node.{Node}
use Rattle.cr_scopes_events.specs.declared.declarator.Derivation.TheVariants as derivation
use Rattle.cr_scopes_events.specs.Declarators.{declarator_of}
use Rattle.cr_scopes_linkage.specs.Shared.Origins.{IsDeclarer}
use Rattle.cr_check_types.specs.Types.{Qualified, type_at}
use Rattle.cr_check_types.specs.Relations.{is_complete_at}
use Rattle.cr_check_expressions.specs.declared.known.Declared.TheVariants.{Object, Unclear}
use Rattle.cr_check_declarators.specs.Functions.{adjusted_type}
use Rattle.cr_check_declarators.specs.Declarators.{whole_object}
use Rattle.cr_check_declarations.specs.Named.{parameter_nodes}
use Rattle.cr_check_declarations.specs.Faults.{list_in}
use Rattle.cr_check_signatures.specs.Functions.Outlines.{head}
use Rattle.cr_typed.specs.declared.typed.Typed.{Typed}
use Rattle.cr_typed.specs.declared.typed.Duration.TheVariants as duration
use Rattle.cr_meaning_operations.specs.Shapes.{named_type}
use Rattle.cr_meaning_operations.specs.Operations.{kind_at}
use Rattle.cr_meaning_declarations.specs.Declared.Files.{IsUnitOfFile}

-- the nodes that a run enters for parameters of these types: identifiers, as many, and each with the word of its type
pub record AreParameters (t : Typed) (types : List Qualified) (objects : List ℕ) : Type 0 where
  pub names : (k object : ℕ) → slice_get objects k ≡ Some object → kind_at t object ≡ kind.NameDeclarator
  pub words : map (λ object. head (named_type t object)) objects ≡ map head types

-- the parameters of a definition are those of the type that its declarator gives the function
abbrev pub ParametersHaveTheirTypes : Type 0
ParametersHaveTheirTypes = (file : List ℕ) (t : Typed) (it : IsUnitOfFile file t) → (token d declarator : ℕ) (m : Node) → IsDeclarer t.nodes token d declarator m
    → m.kind ≡ kind.FunctionDefinition → AreParameters t (map (type_at it.checked.checked.table) (slice_index_or it.checked.checked.whole.typing.parameters declarator [])) (slice_index_or t.parameters d [])

-- ---- one parameter

-- the type that a node names, by the columns of a check; of an initialised declarator the type that its initialiser completes (6.7.9p22)
abbrev pub named_at : (file : List ℕ) (t : Typed) → IsUnitOfFile file t → ℕ → Qualified
named_at file t it p = type_at it.checked.checked.table (slice_index_or it.checked.checked.whole.typing.named p 0)

-- a node declares an object by a name in the list of parameters next to the name of a definition
pub record IsOwnParameter (file : List ℕ) (t : Typed) (it : IsUnitOfFile file t) (d x p token : ℕ) : Type 0 where
  -- the definition
  pub name : ℕ
  pub whole : ℕ
  pub own : Node
  pub defines : IsDeclarer t.nodes name d whole own
  pub body : own.kind ≡ kind.FunctionDefinition
  -- its list
  pub list : ℕ
  pub next : (declarator_of t.nodes whole).next ≡ derivation.Function list
  pub place : ℕ
  pub listed : slice_get (parameter_nodes t.nodes (list_in t.nodes (Some list))) place ≡ Some x
  -- the parameter, with its declarator
  pub parameter : Node
  pub at : slice_get t.nodes x ≡ Some parameter
  pub is : parameter.kind ≡ kind.Parameter
  pub second : slice_get parameter.parts 1 ≡ Some p
  pub names : (declarator_of t.nodes p).name ≡ Some token
  pub row : ℕ
  pub register : Bool
  pub object : slice_index_or it.checked.checked.whole.typing.declared p Unclear ≡ Object row register

-- the declared identifier is an automatic object (6.2.4p5, 6.9.1p9), with the word of the type that its declarator gives it, which is adjusted
-- (6.7.6.3p7) and complete (6.7.6.3p4), where it is one at all
pub record HasObject (file : List ℕ) (t : Typed) (it : IsUnitOfFile file t) (d p token : ℕ) : Type 0 where
  pub node : ℕ
  pub own : Node
  pub at : slice_get t.nodes node ≡ Some own
  pub is : own.kind ≡ kind.NameDeclarator
  pub first : own.first ≡ token
  pub automatic : slice_index_or t.durations node duration.NoObject ≡ duration.Automatic
  pub word : head (named_type t node) ≡ head (named_at file t it p)
  pub adjusted : adjusted_type (named_at file t it p) ≡ named_at file t it p
  pub complete : whole_object (is_complete_at t.nodes d) (named_at file t it p) ≡ true

-- each parameter of a definition is an object (6.9.1p7, p9)
abbrev pub ParametersAreObjects : Type 0
ParametersAreObjects = (file : List ℕ) (t : Typed) (it : IsUnitOfFile file t) → (d x p token : ℕ) → IsOwnParameter file t it d x p token → HasObject file t it d p token
