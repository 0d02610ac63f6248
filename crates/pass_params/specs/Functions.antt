-- Functions, their parameters, and their calls.
use Rattle.std.specs.Prelude.{ℕ, ◌+◌, Bool, false, ◌&&◌, ◌==◌, List, [], ◌∷◌, Option, None, Some, length, drop, slice_index_or, if◌then◌else◌}
use Rattle.cr_syntax.specs.declared.node.Kind.{Kind}
use Rattle.cr_syntax.specs.declared.node.Kind.TheVariants as kind
use Rattle.cr_syntax.specs.declared.node.Node.{Node}
use Rattle.cr_scopes_events.specs.declared.declarator.Derivation.{Derivation}
use Rattle.cr_scopes_events.specs.declared.declarator.Derivation.TheVariants.{Function}
use Rattle.cr_scopes_events.specs.Declarators.{declarator_of}
use Rattle.cr_scopes.specs.declared.names.Names.{Names}
use Rattle.cr_scopes.specs.Resolved.{nobody}
use Rattle.pass_levels.specs.Gathered.{gathered}
use Rattle.pass_levels.specs.Nodes.{node_at}

-- the part of a number
abbrev pub part_at : List ℕ → ℕ → ℕ
part_at parts at = slice_index_or parts at 0

-- the number of the entity in whose lists a token stands
abbrev pub number_of : Names → ℕ → Option ℕ
number_of names token = slice_index_or names.of_token token None

abbrev pub uses_by : Names → Option ℕ → List ℕ
uses_by names None = []
uses_by names (Some at) = (slice_index_or names.entities at nobody).uses

abbrev pub same_number : Option ℕ → Option ℕ → Bool
same_number None other = false
same_number (Some at) None = false
same_number (Some at) (Some other) = at == other

-- two tokens name the same
abbrev pub name_same : Names → ℕ → ℕ → Bool
name_same names token other = same_number (number_of names token) (number_of names other)

-- the declarator of a function's parameters, where it is what a name's own declarator derives first (C11 6.7.6.3)
abbrev pub function_by : Derivation → List ℕ
function_by (Function node) = node ∷ []
function_by _ = []

abbrev pub is_next : ℕ → Derivation → Bool
is_next function (Function node) = node == function
is_next function _ = false

abbrev pub names_same : Names → ℕ → Option ℕ → Bool
names_same names token None = false
names_same names token (Some other) = name_same names token other

-- a function's declarator declares what a token names
abbrev pub declares_same : List Node → Names → ℕ → ℕ → Bool
declares_same nodes names token function = is_next function (declarator_of nodes function).next && names_same names token (declarator_of nodes function).name

-- the parameters of a list, by the node behind its name; a list of one parameter is that parameter
abbrev pub row_by : Kind → List ℕ → List ℕ → List ℕ
row_by kind.VoidParameters whole parts = []
row_by kind.Parameters whole parts = parts
row_by kind.VariadicParameters whole parts = parts
row_by _ whole parts = whole

abbrev pub row_of : List Node → ℕ → List ℕ
row_of nodes function = row_by (node_at nodes (part_at (node_at nodes function).parts 1)).kind (drop 1 (node_at nodes function).parts) (node_at nodes (part_at (node_at nodes function).parts 1)).parts

-- how many parts the list has that commas separate: `...` is one more
abbrev pub parts_in : Kind → ℕ → ℕ
parts_in kind.VariadicParameters count = count + 1
parts_in _ count = count

abbrev pub count_of : List Node → ℕ → ℕ
count_of nodes function = parts_in (node_at nodes (part_at (node_at nodes function).parts 1)).kind (length (row_of nodes function))

-- the nodes of a kind
abbrev pub calls_by : Kind → ℕ → List ℕ
calls_by kind.Call k = k ∷ []
calls_by _ k = []

abbrev pub calls_in : List Node → List ℕ
calls_in nodes = gathered (λ k. calls_by (node_at nodes k).kind k) (length nodes)

abbrev pub functions_by : Kind → ℕ → List ℕ
functions_by kind.FunctionDeclarator k = k ∷ []
functions_by _ k = []

abbrev pub functions_in : List Node → List ℕ
functions_in nodes = gathered (λ k. functions_by (node_at nodes k).kind k) (length nodes)
