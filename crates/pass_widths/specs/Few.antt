-- Levels that have few edits.
use Rattle.std.specs.Prelude.{◌≡◌, ◌≤◌, ℕ, List, length}
use Rattle.cr_syntax.specs.declared.node.Node.{Node}
use Rattle.cr_syntax.specs.Kept.{PartsAreBelow, row_in}
use Rattle.cr_syntax.specs.Spells.{Limit}
use Rattle.cr_syntax.specs.Units.{IsUnit}
use Rattle.cr_syntax.specs.Words.{Lexeme}
use Rattle.cr_syntax_order.specs.Listed.{AreListed}
use Rattle.pass_edit.specs.Menu.{Offering, level_of}

-- no level has more edits than so many
abbrev pub AreFew : ℕ → Offering → Type 0
AreFew most menu = (level : ℕ) → length (level_of menu level) ≤ most

-- the nodes, with these items, are those of a unit of so many tokens, listed in order
pub record AreOfUnit (count : ℕ) (nodes : List Node) (items : List ℕ) : Type 0 where
  pub lexemes : List Lexeme
  pub limit : Limit
  pub count_is : length lexemes ≡ count
  pub is_unit : IsUnit limit lexemes (row_in nodes items)
  pub below : PartsAreBelow nodes
  pub listed : AreListed nodes 0 items (length nodes)
