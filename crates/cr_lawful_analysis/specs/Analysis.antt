-- What is read of a file.
use Rattle.std.specs.Prelude.{◌≡◌, ℕ, List, Option, Some, None, length}
use Rattle.cr_tokens.specs.declared.token.Token.{Token}
use Rattle.cr_tokens.specs.Tokens.{HasNoTokens, Tokenizes}
use Rattle.cr_syntax.specs.declared.node.Node.{Node}
use Rattle.cr_syntax.specs.declared.unit.Unit as source
use Rattle.cr_syntax.specs.Kept.{PartsAreBelow, row_in}
use Rattle.cr_syntax.specs.Units.{IsTreeOf}
use Rattle.cr_syntax.specs.Words.{lexemes_of}
use Rattle.cr_scopes_events.specs.Events.{events_of}
use Rattle.cr_scopes.specs.declared.names.Names.{Names}
use Rattle.cr_scopes.specs.Resolved.{AreResolved}
use Rattle.cr_scopes.specs.Spelled.{name_of}
use Rattle.cr_check.specs.declared.checked.Checked.{Checked}
use Rattle.cr_check.specs.Checked.{IsSoundOf}
use Rattle.cr_lawful_analysis.specs.declared.analysis.Analysis as the_analysis
use Rattle.cr_lawful_analysis.specs.declared.analysis.Analysis.TheVariants.{NoTokens, NoUnit, OfUnit}
use Rattle.cr_lawful_analysis.specs.Members.{structures_of}
use Rattle.cr_syntax_order.specs.Listed.{AreListed}

-- the nodes of a unit, and which of them are its items
pub record Tree : Type 0 where
  pub nodes : List Node
  pub items : List ℕ

abbrev pub tree_of : source.Unit → Tree
tree_of u = record { nodes = u.nodes; items = u.items }

-- the tree is that of the tokens, and its nodes are listed in order
pub record IsParsed (file : List ℕ) (tokens : List Token) (tree : Tree) : Type 0 where
  pub is_tree : IsTreeOf (lexemes_of file tokens) (row_in tree.nodes tree.items)
  pub below : PartsAreBelow tree.nodes
  pub listed : AreListed tree.nodes 0 tree.items (length tree.nodes)

-- these are the entities of the tree's names, each of which is known where it is used, and declared once where it may be
abbrev pub AreItsNames : List ℕ → List Token → Tree → Names → Type 0
AreItsNames file tokens tree names = AreResolved (name_of file tokens) (events_of tokens tree.nodes tree.items) (length tokens) names

-- the unit is that of the tokens, its names are known, and it breaks no constraint as it was checked
pub record IsUnitOf (file : List ℕ) (tokens : List Token) (unit : source.Unit) (names : Names) (checked : Checked) : Type 0 where
  pub tokens_are : unit.tokens.list.items ≡ tokens
  pub parsed : IsParsed file tokens (tree_of unit)
  pub known : AreItsNames file tokens (tree_of unit) names
  pub sound : IsSoundOf file unit names checked

-- the tokens are those of no unit whose names are known and that breaks no constraint
abbrev pub IsUnread : List ℕ → List Token → Type 0
IsUnread file tokens = (unit : source.Unit) (names : Names) (checked : Checked) → IsUnitOf file tokens unit names checked → ⊥

-- What is read of a file: its tokens, and the tree of its unit with its names, and for each node the structure whose member it names, as far
-- as they are there.
pub record Read : Type 0 where
  pub tokens : Option (List Token)
  pub tree : Option Tree
  pub names : Option Names
  pub structures : Option (List (Option ℕ))

abbrev pub tokens_alone : Option (List Token) → Read
tokens_alone tokens = record { tokens = tokens; tree = None; names = None; structures = None }

abbrev pub unit_read : List Token → Tree → Names → List (Option ℕ) → Read
unit_read tokens tree names structures =
    record { tokens = Some tokens; tree = Some tree; names = Some names; structures = Some structures }

-- A file is read so: it has no tokens, or tokens that are no unit with known names that breaks no constraint, or such a unit.
pub data IsRead (file : List ℕ) : Read → Type 0 where
  no_tokens : HasNoTokens file → IsRead file (tokens_alone None)
  no_unit : {tokens : List Token} → Tokenizes file tokens → IsUnread file tokens → IsRead file (tokens_alone (Some tokens))
  of_unit : {tokens : List Token} {unit : source.Unit} {names : Names} {checked : Checked} → Tokenizes file tokens
      → IsUnitOf file tokens unit names checked → IsRead file (unit_read tokens (tree_of unit) names (structures_of unit.nodes checked))

-- what an analysis has read
abbrev pub read_of : the_analysis.Analysis → Read
read_of NoTokens = tokens_alone None
read_of (NoUnit tokens) = tokens_alone (Some tokens)
read_of (OfUnit unit names structures) = unit_read unit.tokens.list.items (tree_of unit) names structures

-- the analysis is the file's
abbrev pub IsAnalysis : List ℕ → the_analysis.Analysis → Type 0
IsAnalysis file analysis = IsRead file (read_of analysis)
