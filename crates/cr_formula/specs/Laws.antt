-- A law of formulas.
use Rattle.std.specs.Prelude.{◌≡◌, ℕ, List}
use Rattle.cr_formula.specs.Forms.{Form, Spells}

-- a word spells one formula at most
abbrev pub SpellsOneFormula : Type 0
SpellsOneFormula = (word : List ℕ) (f g : Form) → Spells word f → Spells word g → f ≡ g
