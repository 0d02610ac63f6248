-- Pass p: parameters.
use Rattle.std.specs.Prelude.{ℕ, Bool, nat_le, nat_lt, List, [], ◌∷◌, ◌++◌, Option, None, Some, codes, length, map, if◌then◌else◌}
use Rattle.std.specs.List.{flat_map}
use Rattle.std.specs.Str.{bytes_eq}
use Rattle.cr_tokens.specs.declared.token.Token.{Token}
use Rattle.cr_syntax.specs.declared.node.Kind.{Kind}
use Rattle.cr_syntax.specs.declared.node.Kind.TheVariants as kind
use Rattle.cr_syntax.specs.declared.node.Node.{Node}
use Rattle.cr_scopes_events.specs.declared.declarator.Derivation.{Derivation}
use Rattle.cr_scopes_events.specs.declared.declarator.Derivation.TheVariants.{Function}
use Rattle.cr_scopes_events.specs.Declarators.{declarator_of}
use Rattle.cr_scopes.specs.declared.names.Names.{Names}
use Rattle.pass_edit.specs.declared.change.Change.{Change}
use Rattle.pass_edit.specs.declared.change.Text.TheVariants.{Void, Zero}
use Rattle.pass_edit.specs.Forms.{nothing_kept}
use Rattle.pass_edit.specs.Menu.{Offering}
use Rattle.pass_levels.specs.declared.counted.Counted.{Counted}
use Rattle.pass_levels.specs.Gathered.{gathered}
use Rattle.pass_levels.specs.Level.{level_of}
use Rattle.pass_levels.specs.Nodes.{node_at}
use Rattle.pass_levels.specs.Places.{replaced, spelling_at, with_comma}
use Rattle.pass_params.specs.Functions.{calls_in, count_of, declares_same, functions_in, name_same, number_of, part_at, row_of, uses_by}
use Rattle.pass_params.specs.Ordered.{ordered}
use Rattle.pass_params.specs.declared.removal.ParametersGo.{ParametersGo}

-- a parameter goes from its list with its comma; a list left empty becomes `void`
abbrev pub parameter_goes : List Token → ℕ → ℕ → Node → Change
parameter_goes tokens at count n = if nat_le count 1 then replaced tokens n.first n.last Void else with_comma tokens at count n.first n.last

-- the parameter of a number goes from a function's declarator, where it is there
abbrev pub from_list : List Token → List Node → ℕ → ℕ → List Change
from_list tokens nodes at function = if nat_lt at (length (row_of nodes function))
    then parameter_goes tokens at (count_of nodes function) (node_at nodes (part_at (row_of nodes function) at)) ∷ [] else []

-- it goes from each declaration of what a token names
abbrev pub from_declarator : List Token → List Node → Names → ℕ → ℕ → ℕ → List Change
from_declarator tokens nodes names token at function = if declares_same nodes names token function then from_list tokens nodes at function else []

abbrev pub from_declarators : List Token → List Node → Names → ℕ → ℕ → List ℕ → List Change
from_declarators tokens nodes names token at functions = flat_map (from_declarator tokens nodes names token at) functions

-- the argument of a number goes from a row of arguments with its comma, where it is there
abbrev pub from_row : List Token → List Node → ℕ → List ℕ → List Change
from_row tokens nodes at row = if nat_lt at (length row)
    then with_comma tokens at (length row) (node_at nodes (part_at row at)).first (node_at nodes (part_at row at)).last ∷ [] else []

-- it goes from each call of what a token names
abbrev pub from_call : List Token → List Node → Names → ℕ → ℕ → ℕ → List Change
from_call tokens nodes names token at call = if name_same names token (node_at nodes call).first then from_row tokens nodes at (node_at nodes call).parts else []

abbrev pub from_calls : List Token → List Node → Names → ℕ → ℕ → List ℕ → List Change
from_calls tokens nodes names token at calls = flat_map (from_call tokens nodes names token at) calls

-- the tokens that use a parameter, by the name of its declarator
abbrev pub uses_if : Names → Option ℕ → List ℕ
uses_if names None = []
uses_if names (Some token) = uses_by names (number_of names token)

abbrev pub parameter_uses_by : Kind → List Node → Names → List ℕ → List ℕ
parameter_uses_by kind.Parameter nodes names parts = uses_if names (declarator_of nodes (part_at parts 1)).name
parameter_uses_by _ nodes names parts = []

abbrev pub parameter_uses : List Node → Names → ℕ → List ℕ
parameter_uses nodes names parameter = parameter_uses_by (node_at nodes parameter).kind nodes names (node_at nodes parameter).parts

-- each of its uses becomes `0`
abbrev pub zeros : List Token → List ℕ → List Change
zeros tokens uses = map (λ used. replaced tokens used used Zero) uses

-- what changes where the parameter of a number goes from the function that a token names
abbrev pub changes_of : List Token → List Node → Names → List ℕ → List ℕ → ℕ → ℕ → ℕ → List Change
changes_of tokens nodes names functions calls token at parameter =
    from_declarators tokens nodes names token at functions
    ++ from_calls tokens nodes names token at calls
    ++ zeros tokens (parameter_uses nodes names parameter)

abbrev pub parameter_gives : List Token → List Node → Names → List ℕ → List ℕ → ℕ → List ℕ → ℕ → List Counted
parameter_gives tokens nodes names functions calls token row at = record {
  first = (node_at nodes (part_at row at)).first;
  last = (node_at nodes (part_at row at)).last;
  edit = ordered (changes_of tokens nodes names functions calls token at (part_at row at));
} ∷ []

abbrev pub row_gives : List Token → List Node → Names → List ℕ → List ℕ → ℕ → List ℕ → List Counted
row_gives tokens nodes names functions calls token row = gathered (parameter_gives tokens nodes names functions calls token row) (length row)

-- main's parameters stay
abbrev pub is_main : List ℕ → Bool
is_main text = bytes_eq text (codes "main")

abbrev pub named_gives : List ℕ → List Token → List Node → Names → List ℕ → List ℕ → Derivation → Option ℕ → List Counted
named_gives file tokens nodes names functions calls (Function function) (Some token) =
    if is_main (spelling_at file tokens token) then [] else row_gives tokens nodes names functions calls token (row_of nodes function)
named_gives file tokens nodes names functions calls _ _ = []

abbrev pub definition_by : Kind → List ℕ → List Token → List Node → Names → List ℕ → List ℕ → ℕ → List Counted
definition_by kind.FunctionDefinition file tokens nodes names functions calls declarator =
    named_gives file tokens nodes names functions calls (declarator_of nodes declarator).next (declarator_of nodes declarator).name
definition_by _ file tokens nodes names functions calls declarator = []

-- each parameter of a defined function goes
abbrev pub definitions_give : List ℕ → List Token → List Node → Names → List ℕ → List ℕ → ℕ → List Counted
definitions_give file tokens nodes names functions calls k =
    definition_by (node_at nodes k).kind file tokens nodes names functions calls (part_at (node_at nodes k).parts 1)

-- ---- the same by what a level stands on

abbrev pub declarator_gives : ParametersGo → ℕ → List Counted
declarator_gives l declarator =
    definition_by kind.FunctionDefinition l.file.now l.tokens.now l.known.now.nodes.now l.known.now.names.now l.known.now.functions.now l.known.now.calls.now declarator

abbrev pub function_gives : ParametersGo → ℕ → ℕ → List Counted
function_gives l token function =
    named_gives l.file.now l.tokens.now l.known.now.nodes.now l.known.now.names.now l.known.now.functions.now l.known.now.calls.now (Function function) (Some token)

abbrev pub list_gives : ParametersGo → ℕ → List ℕ → List Counted
list_gives l token row = row_gives l.tokens.now l.known.now.nodes.now l.known.now.names.now l.known.now.functions.now l.known.now.calls.now token row

abbrev pub one_gives : ParametersGo → ℕ → List ℕ → ℕ → List Counted
one_gives l token row at = parameter_gives l.tokens.now l.known.now.nodes.now l.known.now.names.now l.known.now.functions.now l.known.now.calls.now token row at

-- What pass p offers: a parameter goes from each declaration of its function, its argument from each call, and its uses become `0`.
abbrev pub p_offering : List ℕ → List Token → List Node → Names → Offering
p_offering file tokens nodes names = record {
  levels = level_of (definitions_give file tokens nodes names (functions_in nodes) (calls_in nodes)) (length nodes) ∷ [];
  kept = nothing_kept;
}
