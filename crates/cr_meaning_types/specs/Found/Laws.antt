-- What a reader expects of what names and tags find.
use Rattle.std.specs.Prelude.{ℕ, List}
use Rattle.cr_syntax.specs.declared.unit.Unit as source
use Rattle.cr_scopes.specs.declared.names.Names.{Names}
use Rattle.cr_check_declarations.specs.declared.tree.Tree.{Tree}
use Rattle.cr_check_surroundings.specs.declared.surroundings.Surroundings.{Surroundings}
use Rattle.cr_check_surroundings.specs.Surroundings.{AreSurroundings, IsTree}
use Rattle.cr_meaning_types.specs.Known.Sighted.{AreSighted}
use Rattle.cr_meaning_types.specs.Found.Found.{AreFound}

-- where names and tags find something, it is a declaration of theirs
abbrev pub WhatIsFoundIsDeclared : Type 0
WhatIsFoundIsDeclared = (file : List ℕ) (unit : source.Unit) (names : Names) (s : Surroundings) (u : Tree) → AreSurroundings file unit names s → IsTree file unit s u → AreFound u → AreSighted u
