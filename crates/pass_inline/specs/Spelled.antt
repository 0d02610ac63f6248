-- What calls become, spelled anew: forms of the functions, whose holes the arguments fill.
use Rattle.std.specs.Prelude.{ℕ, ◌+◌, ◌-◌, List, [], ◌∷◌, ◌++◌, Option, None, Some, length, map}
use Rattle.std.specs.List.{position}
use Rattle.cr_syntax.specs.declared.node.Kind.{Kind}
use Rattle.cr_syntax.specs.declared.node.Kind.TheVariants as kind
use Rattle.cr_syntax.specs.declared.node.Node.{Node}
use Rattle.cr_scopes.specs.declared.names.Names.{Names}
use Rattle.pass_edit.specs.declared.form.Bit.{Bit}
use Rattle.pass_edit.specs.declared.form.Bit.TheVariants as bit
use Rattle.pass_edit.specs.declared.form.Run.{Run}
use Rattle.pass_edit.specs.declared.form.Sign.TheVariants.{CloseBrace, CloseParenthesis, Equals, OpenParenthesis, Semicolon}
use Rattle.pass_levels.specs.Gathered.{gathered}
use Rattle.pass_levels.specs.Nodes.{node_at}
use Rattle.pass_params.specs.Functions.{number_of, part_at, row_of, same_number}
use Rattle.pass_inline.specs.declared.callees.Body.{Body}
use Rattle.pass_inline.specs.declared.callees.Body.TheVariants.{Other, Returned, WithoutReturn}
use Rattle.pass_inline.specs.declared.callees.Callee.{Callee}
use Rattle.pass_inline.specs.Callees.{declared_number}

-- the tokens of a node
abbrev pub run_of : Node → Run
run_of n = record { from = n.first; to = n.last + 1 }

-- the number of the entity that a parameter declares; one without a declarator declares none
abbrev pub parameter_by : Kind → List Node → Names → List ℕ → Option ℕ
parameter_by kind.Parameter nodes names parts = declared_number nodes names (part_at parts 1)
parameter_by _ nodes names parts = None

abbrev pub parameter_number : List Node → Names → ℕ → Option ℕ
parameter_number nodes names parameter = parameter_by (node_at nodes parameter).kind nodes names (node_at nodes parameter).parts

-- which of these numbers' parameters a token uses
abbrev pub used_by : Names → List (Option ℕ) → ℕ → Option ℕ
used_by names numbers token = position (same_number (number_of names token)) numbers

-- `(` the argument `)` where a parameter is used, else the token itself
abbrev pub token_bits : Option ℕ → ℕ → List Bit
token_bits (Some at) token = bit.Put OpenParenthesis ∷ (bit.Hole at ∷ (bit.Put CloseParenthesis ∷ []))
token_bits None token = bit.Tokens (record { from = token; to = token + 1 }) ∷ []

-- behind `(`: the tokens of an expression, each use of a parameter spelled anew, and `)`
abbrev pub expression_form : Names → List (Option ℕ) → Node → List Bit
expression_form names numbers n =
    gathered (λ i. token_bits (used_by names numbers (n.first + i)) (n.first + i)) (n.last + 1 - n.first) ++ bit.Put CloseParenthesis ∷ []

-- a parameter's tokens, `=`, the argument, `;`
abbrev pub parameter_bits : Node → ℕ → List Bit
parameter_bits n at = bit.Tokens (run_of n) ∷ (bit.Put Equals ∷ (bit.Hole at ∷ (bit.Put Semicolon ∷ [])))

-- behind `{`: what each parameter is, the function's body, and `}`
abbrev pub block_form : List Node → List ℕ → Node → List Bit
block_form nodes row body =
    gathered (λ at. parameter_bits (node_at nodes (part_at row at)) at) (length row) ++ bit.Tokens (run_of body) ∷ (bit.Put CloseBrace ∷ [])

-- what a call of a function becomes
abbrev pub form_by : Body → List Node → Names → List ℕ → Node → List Bit
form_by (Returned expression) nodes names row body = expression_form names (map (parameter_number nodes names) row) (node_at nodes expression)
form_by WithoutReturn nodes names row body = block_form nodes row body
form_by Other nodes names row body = []

abbrev pub form_of : List Node → Names → Callee → List Bit
form_of nodes names callee = form_by callee.body nodes names (row_of nodes callee.function) (node_at nodes (part_at (node_at nodes callee.definition).parts 2))

-- the forms of functions, by their places among all
abbrev pub forms_of : List Node → Names → List Callee → List (List Bit)
forms_of nodes names callees = map (form_of nodes names) callees

-- the arguments of each call, by the call's node
abbrev pub arguments_by : Kind → List Node → List ℕ → List Run
arguments_by kind.Call nodes parts = map (λ part. run_of (node_at nodes part)) parts
arguments_by _ nodes parts = []

abbrev pub arguments_in : List Node → List (List Run)
arguments_in nodes = gathered (λ k. arguments_by (node_at nodes k).kind nodes (node_at nodes k).parts ∷ []) (length nodes)
