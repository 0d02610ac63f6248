-- Which nodes stand under a node.
use Rattle.std.specs.Prelude.{ℕ, zero, suc, ◌==◌, Bool, false, ◌||◌, Option, None, Some, length}
use Rattle.cr_check_enclosing.specs.Above.{above_of}
use Rattle.cr_typed.specs.declared.typed.Typed.{Typed}

abbrev pub under_above : ℕ → (ℕ → Bool) → Option ℕ → Bool
under_above holder outside None = false
under_above holder outside (Some node) = (node == holder) || outside node

-- nodes stand above their parts, so the number of all is enough
abbrev pub under_by : ℕ → Typed → ℕ → ℕ → Bool
under_by zero t holder part = false
under_by (suc more) t holder part = under_above holder (under_by more t holder) (above_of t.nodes (length t.nodes) part)

abbrev pub is_under : Typed → ℕ → ℕ → Bool
is_under t holder part = under_by (suc (length t.nodes)) t holder part
