-- Which cells the composite type of two declarations has (C11 6.2.7p3).
use Rattle.std.specs.Prelude.{◌≡◌, ◌≤◌}
use Rattle.cr_typed.specs.declared.typed.Typed.{Typed}
use Rattle.cr_check_types.specs.Types.{Qualified, plain, pointer, array}
use Rattle.cr_check_types.specs.Relations.{composite_of}
use Rattle.cr_meaning_soundness.specs.Sorts.{sorts_in}
use Rattle.cr_meaning_operations.specs.Shapes.{shape_of}

-- arrays of known sizes, and what is none
abbrev pub IsSized : Qualified → Type 0
IsSized (plain of c v) = Unit {0}
IsSized (pointer c v below) = Unit {0}
IsSized (array n below) = (1 ≤ n) × IsSized below

-- a later declaration adds no cells to a type of known size
abbrev pub CompositesKeepCells : Type 0
CompositesKeepCells = (t : Typed) (one other : Qualified) → IsSized one → sorts_in (shape_of t (composite_of one other)) ≡ sorts_in (shape_of t one)
