-- What is assembled of a file's unit, before it is tested whether it fits.
use Rattle.std.specs.Prelude.{ℕ, ◌<◌, ◌^◌, List, length}
use Rattle.cr_typed.specs.declared.typed.Typed.{Typed}
use Rattle.cr_typed_fit.specs.Fits.{IsFitting}
use Rattle.cr_meaning_declarations.specs.Declared.Files.{IsUnitOfFile, IsAssembledFile}

-- Whatever is assembled of the columns of a file's unit that breaks no constraint fits (K6, K7, 6.7.2.1p3): it is what `assembled` of
-- `cr_typed_unit` gives by its contract, and on which `typed` calls `fits` of `cr_typed_fit`.
abbrev pub AssembledUnitsFit : Type 0
AssembledUnitsFit = (file : List ℕ) (t : Typed) → IsAssembledFile file t → IsFitting t

-- So it is the file's typed unit: what is said of that is said of whatever is assembled. That the unit has no more nodes than can be numbered
-- is a clause of `assembled` too (`few`), and holds of each file: it has at most twice as many nodes as tokens (`nodes_are_few` of `pass_widths`).
abbrev pub AssembledUnitsAreTyped : Type 0
AssembledUnitsAreTyped = (file : List ℕ) (t : Typed) (it : IsAssembledFile file t) → length it.unit.nodes < 2 ^ 32 → IsUnitOfFile file t
