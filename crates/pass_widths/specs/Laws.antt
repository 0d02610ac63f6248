-- Laws: of each pass over a tree, no level has more edits than the file has tokens; and how many nodes a unit has.
use Rattle.std.specs.Prelude.{◌≤◌, ◌*◌, ℕ, List, Option, length}
use Rattle.cr_tokens.specs.declared.token.Token.{Token}
use Rattle.cr_syntax.specs.declared.node.Node.{Node}
use Rattle.cr_scopes.specs.declared.names.Names.{Names}
use Rattle.cr_scopes.specs.declared.told.Told.{Told}
use Rattle.cr_scopes.specs.Resolved.{AreNames}
use Rattle.pass_edit.specs.Menu.{Offering}
use Rattle.pass_exprs.specs.Expressions.{c_offering}
use Rattle.pass_inline.specs.Inlined.{i_offering}
use Rattle.pass_names.specs.Renamed.{r_offering}
use Rattle.pass_names.specs.Unused.{u_offering}
use Rattle.pass_output.specs.Output.{o_offering}
use Rattle.pass_params.specs.Parameters.{p_offering}
use Rattle.pass_stmts.specs.Printed.{IsPrintedOffering}
use Rattle.pass_stmts.specs.Statements.{s_offering}
use Rattle.pass_values.specs.Values.{v_offering}
use Rattle.pass_widths.specs.Few.{AreFew, AreOfUnit}

abbrev pub StatementsAreFew : Type 0
StatementsAreFew = (file : List ℕ) (tokens : List Token) (nodes : List Node) (items : List ℕ)
    → AreOfUnit (length tokens) nodes items → AreFew (length tokens) (s_offering file tokens nodes)

abbrev pub ExpressionsAreFew : Type 0
ExpressionsAreFew = (tokens : List Token) (nodes : List Node) (items : List ℕ)
    → AreOfUnit (length tokens) nodes items → AreFew (length tokens) (c_offering tokens nodes)

abbrev pub UnusedAreFew : Type 0
UnusedAreFew = (file : List ℕ) (tokens : List Token) (nodes : List Node) (items : List ℕ) (names : Names) (structures : List (Option ℕ))
    → AreOfUnit (length tokens) nodes items → AreFew (length tokens) (u_offering file tokens nodes items names structures)

abbrev pub InlinedAreFew : Type 0
InlinedAreFew = (tokens : List Token) (nodes : List Node) (items : List ℕ) (names : Names)
    → AreOfUnit (length tokens) nodes items → AreFew (length tokens) (i_offering tokens nodes names)

abbrev pub ParametersAreFew : Type 0
ParametersAreFew = (file : List ℕ) (tokens : List Token) (nodes : List Node) (items : List ℕ) (names : Names)
    → AreOfUnit (length tokens) nodes items → AreFew (length tokens) (p_offering file tokens nodes names)

-- an entity has a token that begins it
abbrev pub RenamedAreFew : Type 0
RenamedAreFew = (file : List ℕ) (tokens : List Token) (nodes : List Node) (items : List ℕ) (names : Names) (at : ℕ → Option Told)
    → AreNames at (length tokens) names → AreFew (length tokens) (r_offering file tokens nodes items names)

-- and the printed unit is one edit, where a unit has a token
abbrev pub PrintedAreFew : Type 0
PrintedAreFew = (file : List ℕ) (tokens : List Token) (nodes : List Node) (items : List ℕ) (menu : Offering)
    → AreOfUnit (length tokens) nodes items → IsPrintedOffering file tokens menu → AreFew (length tokens) menu

abbrev pub ValuesAreFew : Type 0
ValuesAreFew = (tokens : List Token) (nodes : List Node) (items : List ℕ) (names : Names)
    → AreOfUnit (length tokens) nodes items → AreFew (length tokens) (v_offering tokens nodes names)

abbrev pub OutputIsFew : Type 0
OutputIsFew = (file : List ℕ) (tokens : List Token) (nodes : List Node) (items : List ℕ)
    → AreOfUnit (length tokens) nodes items → AreFew (length tokens) (o_offering file tokens nodes)

-- A unit has at most twice as many nodes as tokens: a node has a token of its own, or two parts.
abbrev pub NodesAreFew : Type 0
NodesAreFew = (count : ℕ) (nodes : List Node) (items : List ℕ) → AreOfUnit count nodes items → length nodes ≤ 2 * count
