-- What a reader expects of the tree of a file's unit that breaks no constraint.
use Rattle.std.specs.Prelude.{ℕ, List}
use Rattle.cr_check_enclosing.specs.Around.{AreAround}
use Rattle.cr_typed.specs.declared.typed.Typed.{Typed}
use Rattle.cr_meaning_declarations.specs.Declared.Files.{IsAssembledFile}
use Rattle.cr_meaning_types.specs.Known.Shaped.{IsShaped}
use Rattle.cr_meaning_types.specs.Known.Sighted.{AreSighted}

-- its nodes have the parts that the grammar gives them, in order (6.5 to 6.9)
abbrev pub TreesAreShaped : Type 0
TreesAreShaped = (file : List ℕ) (t : Typed) (it : IsAssembledFile file t) → IsShaped it.tree

-- what stands around a node is what the node above it gives its parts
abbrev pub TreesAreSurrounded : Type 0
TreesAreSurrounded = (file : List ℕ) (t : Typed) (it : IsAssembledFile file t) → AreAround it.tree.nodes.now it.tree.above.now it.tree.around.now

-- what names and tags find is declared, and constants have values (6.2.1p7, 6.4.4, 6.7.2.3)
abbrev pub TreesAreSighted : Type 0
TreesAreSighted = (file : List ℕ) (t : Typed) (it : IsAssembledFile file t) → AreSighted it.tree
