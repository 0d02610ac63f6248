-- Functions that are defined, and the declarations of names.
use Rattle.std.specs.Prelude.{ℕ, Bool, true, false, ◌&&◌, nat_le, List, [], ◌∷◌, Option, None, Some, drop, length, map, slice_get}
use Rattle.std.specs.List.{list_any}
use Rattle.cr_syntax.specs.declared.node.Kind.{Kind}
use Rattle.cr_syntax.specs.declared.node.Kind.TheVariants as kind
use Rattle.cr_syntax.specs.declared.node.Node.{Node}
use Rattle.cr_scopes_events.specs.declared.declarator.Derivation.{Derivation}
use Rattle.cr_scopes_events.specs.declared.declarator.Derivation.TheVariants.{Function}
use Rattle.cr_scopes_events.specs.Declarators.{declarator_of}
use Rattle.cr_scopes.specs.declared.names.Names.{Names}
use Rattle.pass_levels.specs.Gathered.{gathered}
use Rattle.pass_levels.specs.Nodes.{node_at}
use Rattle.pass_params.specs.Functions.{number_of, part_at}
use Rattle.pass_inline.specs.declared.callees.Body.{Body}
use Rattle.pass_inline.specs.declared.callees.Body.TheVariants.{Other, Returned, WithoutReturn}
use Rattle.pass_inline.specs.declared.callees.Callee.{Callee}
use Rattle.pass_inline.specs.declared.callees.Declared.{Declared}

-- the number of the entity that a declarator declares
abbrev pub number_if : Names → Option ℕ → Option ℕ
number_if names None = None
number_if names (Some token) = number_of names token

abbrev pub declared_number : List Node → Names → ℕ → Option ℕ
declared_number nodes names declarator = number_if names (declarator_of nodes declarator).name

-- a token stands from one to another
abbrev pub is_within : ℕ → ℕ → ℕ → Bool
is_within first last token = nat_le first token && nat_le token last

-- the first tokens of all return statements
abbrev pub returns_by : Kind → ℕ → List ℕ
returns_by kind.Return first = first ∷ []
returns_by _ first = []

abbrev pub returns_in : List Node → List ℕ
returns_in nodes = gathered (λ k. returns_by (node_at nodes k).kind (node_at nodes k).first) (length nodes)

-- The body of a function (C11 6.9.1).

-- what a return statement returns, and what a body's one item does
abbrev pub returned_by : Kind → List ℕ → Option ℕ
returned_by kind.Return parts = slice_get parts 0
returned_by _ parts = None

abbrev pub returned_in : List Node → List ℕ → Option ℕ
returned_in nodes (item ∷ []) = returned_by (node_at nodes item).kind (node_at nodes item).parts
returned_in nodes _ = None

-- its one item is `return E;`, or no return stands in the definition
abbrev pub body_by : Option ℕ → Bool → Body
body_by (Some expression) returns = Returned expression
body_by None false = WithoutReturn
body_by None true = Other

abbrev pub body_of : List Node → List ℕ → Node → Body
body_of nodes returns n = body_by (returned_in nodes (node_at nodes (part_at n.parts 2)).parts) (list_any (is_within n.first n.last) returns)

-- A definition whose declarator is that of a function.
abbrev pub callee_from : Derivation → List Node → Names → List ℕ → ℕ → List Callee
callee_from (Function function) nodes names returns k = record {
  definition = k;
  function = function;
  number = declared_number nodes names (part_at (node_at nodes k).parts 1);
  body = body_of nodes returns (node_at nodes k);
} ∷ []
callee_from _ nodes names returns k = []

abbrev pub callee_by : Kind → List Node → Names → List ℕ → ℕ → List Callee
callee_by kind.FunctionDefinition nodes names returns k = callee_from (declarator_of nodes (part_at (node_at nodes k).parts 1)).next nodes names returns k
callee_by _ nodes names returns k = []

-- all functions that are defined, in the order of their definitions
abbrev pub callees_in : List Node → Names → List Callee
callees_in nodes names = gathered (λ k. callee_by (node_at nodes k).kind nodes names (returns_in nodes) k) (length nodes)

-- a declaration, and what its declarators declare. One with an initialiser declares no function (6.7.9p3).
abbrev pub declared_by : Kind → List Node → Names → ℕ → List Declared
declared_by kind.Declaration nodes names k = record { declaration = k; numbers = map (declared_number nodes names) (drop 1 (node_at nodes k).parts) } ∷ []
declared_by _ nodes names k = []

abbrev pub declared_in : List Node → Names → List Declared
declared_in nodes names = gathered (λ k. declared_by (node_at nodes k).kind nodes names k) (length nodes)
