-- What declarators declare, where it is used, and how a declarator and a value go (C11 6.2.1, 6.7).
use Rattle.std.specs.Prelude.{ℕ, ◌+◌, Bool, true, false, nat_le, List, [], ◌∷◌, Option, None, Some, drop, length, if◌then◌else◌}
use Rattle.cr_tokens.specs.declared.token.Token.{Token}
use Rattle.cr_syntax.specs.declared.node.Kind.{Kind}
use Rattle.cr_syntax.specs.declared.node.Kind.TheVariants as kind
use Rattle.cr_syntax.specs.declared.node.Node.{Node}
use Rattle.cr_scopes_events.specs.Declarators.{declarator_of}
use Rattle.cr_scopes.specs.declared.names.Names.{Names}
use Rattle.pass_edit.specs.declared.change.Change.{Change}
use Rattle.pass_edit.specs.declared.change.Text.TheVariants.{Filled}
use Rattle.pass_edit.specs.declared.form.Bit.{Bit}
use Rattle.pass_edit.specs.declared.form.Bit.TheVariants as bit
use Rattle.pass_edit.specs.declared.form.Kept.{Kept}
use Rattle.pass_edit.specs.declared.form.Run.{Run}
use Rattle.pass_edit.specs.declared.form.Sign.TheVariants.{CloseParenthesis, OpenParenthesis}
use Rattle.pass_levels.specs.Gathered.{gathered}
use Rattle.pass_levels.specs.Nodes.{node_at}
use Rattle.pass_levels.specs.Places.{gone, replaced, with_comma}
use Rattle.pass_params.specs.Functions.{number_of, part_at, uses_by}
use Rattle.pass_values.specs.declared.declarators.Plain.{Plain}
use Rattle.pass_values.specs.declared.known.Known.{Known}

-- What is known of a unit: its names, its declarators without initialiser, and the names on the left of `=`, each by its token.
pub record Facts : Type 0 where
  pub tokens : List Token
  pub nodes : List Node
  pub names : Names
  pub plains : List Plain
  pub lefts : List ℕ

abbrev pub facts_of : Known → Facts
facts_of known = record { tokens = known.tokens.now; nodes = known.nodes.now; names = known.names.now; plains = known.plains.now; lefts = known.lefts.now }

-- the number of the entity that a name declares, and the uses of that
abbrev pub number_if : Names → Option ℕ → Option ℕ
number_if names None = None
number_if names (Some token) = number_of names token

abbrev pub declared_number : List Node → Names → ℕ → Option ℕ
declared_number nodes names declarator = number_if names (declarator_of nodes declarator).name

abbrev pub declared_uses : List Node → Names → ℕ → List ℕ
declared_uses nodes names declarator = uses_by names (declared_number nodes names declarator)

-- The expression by which a declarator is initialised (6.7.9); an initialiser in braces is none.
abbrev pub expression_if : Kind → ℕ → Option ℕ
expression_if kind.InitializerList part = None
expression_if _ part = Some part

abbrev pub initial_by : Kind → List Node → List ℕ → Option ℕ
initial_by kind.InitDeclarator nodes parts = expression_if (node_at nodes (part_at parts 1)).kind (part_at parts 1)
initial_by _ nodes parts = None

abbrev pub initial_of : List Node → ℕ → Option ℕ
initial_of nodes part = initial_by (node_at nodes part).kind nodes (node_at nodes part).parts

-- the declarator that is initialised
abbrev pub named_in : List Node → ℕ → ℕ
named_in nodes part = part_at (node_at nodes part).parts 0

-- Declarators without initialiser, each with its declaration, its number there, and the entity that it declares.
abbrev pub is_initialised : Kind → Bool
is_initialised kind.InitDeclarator = true
is_initialised _ = false

abbrev pub plain_at : List Node → Names → ℕ → List ℕ → ℕ → List Plain
plain_at nodes names declaration row at = if is_initialised (node_at nodes (part_at row at)).kind then []
    else record { declaration = declaration; at = at; number = declared_number nodes names (part_at row at) } ∷ []

abbrev pub plains_by : Kind → List Node → Names → ℕ → List ℕ → List Plain
plains_by kind.Declaration nodes names k row = gathered (plain_at nodes names k row) (length row)
plains_by _ nodes names k row = []

abbrev pub plains_from : List Node → Names → ℕ → List Plain
plains_from nodes names k = plains_by (node_at nodes k).kind nodes names k (drop 1 (node_at nodes k).parts)

abbrev pub plains_in : List Node → Names → List Plain
plains_in nodes names = gathered (plains_from nodes names) (length nodes)

-- A declarator among others goes with its comma; one that is alone with its declaration, n.
abbrev pub declarator_goes : List Token → Node → ℕ → ℕ → Node → Change
declarator_goes tokens n at count d = if nat_le count 1 then gone tokens n.first n.last else with_comma tokens at count d.first d.last

-- an expression comes in brackets in the place of a token
abbrev pub comes_to : List Token → ℕ → ℕ → Change
comes_to tokens token expression = replaced tokens token token (Filled OpenParenthesis 0 expression)

-- for that one form is kept, and the tokens of each node
abbrev pub run_of : Node → Run
run_of n = record { from = n.first; to = n.last + 1 }

abbrev pub runs_in : List Node → List (List Run)
runs_in nodes = gathered (λ k. (run_of (node_at nodes k) ∷ []) ∷ []) (length nodes)

abbrev pub form : List Bit
form = bit.Hole 0 ∷ (bit.Put CloseParenthesis ∷ [])

abbrev pub kept_by : List Token → List Node → Kept
kept_by tokens nodes = record { bytes = []; tokens = tokens; forms = form ∷ []; runs = runs_in nodes }
