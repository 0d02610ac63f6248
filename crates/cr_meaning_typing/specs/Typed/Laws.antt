-- What the check gives.
use Rattle.std.specs.Prelude.{◌≡◌, ℕ, true, List, Option}
use Rattle.cr_syntax.specs.declared.node.Node.{Node}
use Rattle.cr_check_operands.specs.Values.{Seen}
use Rattle.cr_check_expressions.specs.declared.form.Form.{Form}
use Rattle.cr_check_expressions.specs.declared.least.Break.{Break}
use Rattle.cr_check_expressions.specs.Known.{Source}
use Rattle.cr_check_expressions.specs.Ruled.{ruled}
use Rattle.cr_check_expressions.specs.Breaks.{faults_in, IsAmong}
use Rattle.cr_meaning_typing.specs.Typed.Typing.{has_value, IsRead, AreWorth}

-- of a node that breaks nothing
abbrev pub HoldsAll : List (Option Break) → Type 0
HoldsAll faults = (b : Break) → IsAmong faults b → ⊥

abbrev pub ExpressionsAreTyped : Type 0
ExpressionsAreTyped = (f : Form) (own : Seen) (at : ℕ → Seen) (s : Source) (i : ℕ) (n : Node) → own ≡ ruled f at s i n
    → HoldsAll (faults_in f own at s i n) → IsRead f at s i n → AreWorth f at n.parts → has_value own.type ≡ true
