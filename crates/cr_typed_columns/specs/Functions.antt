-- The functions that a unit defines (C11 6.9.1): their parameters, and `main`.
use Rattle.std.specs.Prelude.{ℕ, zero, suc, ◌&&◌, Bool, false, List, [], ◌∷◌, Option, None, Some, length, codes, option_to_list, if◌then◌else◌}
use Rattle.std.specs.List.{flat_map}
use Rattle.std.specs.Str.{bytes_eq}
use Rattle.cr_tokens.specs.declared.token.Token.{Token}
use Rattle.cr_syntax.specs.declared.node.Kind.{Kind}
use Rattle.cr_syntax.specs.declared.node.Kind.TheVariants as kind
use Rattle.cr_syntax.specs.declared.node.Node.{Node}
use Rattle.cr_scopes_events.specs.Scripts.{kind_at, parts_at}
use Rattle.cr_check_expressions.specs.Known.{spelling_of}
use Rattle.cr_check_declarators.specs.Declarators.{name_alone}
use Rattle.cr_typed_columns.specs.declared.checked.CheckedColumns.{CheckedColumns}
use Rattle.cr_typed_columns.specs.Reading.{Parsed, part_of, entry_of}
use Rattle.cr_typed_columns.specs.Entities.{name_node, is_definition, declared_token}

-- ---- parameters

-- the node of the identifier of a parameter, which its declarator declares
abbrev pub parameter_name : Parsed → ℕ → Option ℕ
parameter_name u parameter = name_node u (declared_token u.nodes (part_of u.nodes (Some parameter) 1))

-- the parameters of a list, which is a lone parameter itself where it is no such list (6.7.6.3)
abbrev pub listed_by : Option Kind → List ℕ → ℕ → List ℕ
listed_by (Some kind.VoidParameters) parts list = []
listed_by (Some kind.Parameters) parts list = parts
listed_by (Some kind.VariadicParameters) parts list = parts
listed_by k parts list = list ∷ []

abbrev pub parameter_nodes : List Node → Option ℕ → List ℕ
parameter_nodes nodes None = []
parameter_nodes nodes (Some list) = listed_by (kind_at nodes list) (parts_at nodes list) list

-- the function declarator next to the name of a definition
abbrev pub function_of : List Node → CheckedColumns → ℕ → Option ℕ
function_of nodes j definition = (entry_of j.declarators.now name_alone (part_of nodes (Some definition) 1)).function

abbrev pub parameters_of : Parsed → CheckedColumns → ℕ → List ℕ
parameters_of u j i =
    if is_definition (kind_at u.nodes i)
    then flat_map (λ p. option_to_list (parameter_name u p)) (parameter_nodes u.nodes (part_of u.nodes (function_of u.nodes j i) 1))
    else []

-- ---- main (5.1.2.2.1)

abbrev pub is_spelled_main : List ℕ → List Token → Option ℕ → Bool
is_spelled_main file tokens None = false
is_spelled_main file tokens (Some token) = bytes_eq (spelling_of file tokens token) (codes "main")

abbrev pub is_main : List ℕ → Parsed → ℕ → Bool
is_main file u i =
    is_definition (kind_at u.nodes i) && is_spelled_main file u.tokens (declared_token u.nodes (part_of u.nodes (Some i) 1))

-- the last of so many nodes that defines it; of a unit without breaks there is one
abbrev pub main_below : List ℕ → Parsed → ℕ → ℕ
main_below file u zero = 0
main_below file u (suc i) = if is_main file u i then i else main_below file u i

abbrev pub main_of : List ℕ → Parsed → ℕ
main_of file u = main_below file u (length u.nodes)
