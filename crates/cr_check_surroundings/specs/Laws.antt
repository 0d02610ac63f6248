-- A law of what is known of a unit.
use Rattle.std.specs.Prelude.{◌≡◌, ℕ, List}
use Rattle.cr_syntax.specs.declared.unit.Unit as tree
use Rattle.cr_scopes.specs.declared.names.Names.{Names}
use Rattle.cr_check_surroundings.specs.declared.surroundings.Surroundings.{Surroundings}
use Rattle.cr_check_surroundings.specs.Surroundings.{AreSurroundings}

-- One thing is known of a unit with its names, and nothing else.
abbrev pub OneSurroundings : Type 0
OneSurroundings = (file : List ℕ) (unit : tree.Unit) (names : Names) (s t : Surroundings)
    → AreSurroundings file unit names s → AreSurroundings file unit names t → s ≡ t
