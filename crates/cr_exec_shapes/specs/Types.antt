-- What the code keeps of the types of a unit, and how it finds their cells.
use Rattle.std.specs.Prelude.{◌≡◌, ℕ, ◌*◌, ◌^◌, ◌<◌, ◌≤◌, Bool, true, false, Option, Some, None, List, [], ◌∷◌, length, map, sum_by, take, slice_index_or}
use Rattle.cr_memory.specs.declared.value.Scalar.{Scalar}
use Rattle.cr_memory.specs.declared.value.Scalar.TheVariants as scalar
use Rattle.cr_memory.specs.declared.value.Guard.{Guard}
use Rattle.cr_memory.specs.declared.value.Guard.TheVariants.{Constant}
use Rattle.cr_syntax.specs.declared.ctype.CType.{CType}
use Rattle.cr_syntax.specs.declared.ctype.CType.TheVariants.{Int, Pointer, Array, Struct}
use Rattle.cr_check_types.specs.Types.{type_at}
use Rattle.cr_typed.specs.declared.typed.Typed.{Typed}
use Rattle.cr_typed.specs.Typed.{IsTyped, row_cells}
use Rattle.cr_meaning_operations.specs.Shapes.{number_of, name_in, guard_of, structure_cells}

-- the cells before each of some members, and those of all, where there are any
abbrev pub AreSums : Typed → List ℕ → List ℕ → Type 0
AreSums t members sums = (index : ℕ) → index ≤ length members → slice_index_or sums index 0 ≡ sum_by (row_cells t) (take index members)

-- the same of each structure, by its node
abbrev pub AreOffsets : Typed → List (List ℕ) → Type 0
AreOffsets t offsets = (node : ℕ) → AreSums t (slice_index_or t.members node []) (slice_index_or offsets node [])

-- for each row the number of its type and what names it as an element, and for each structure where its members stand
pub record AreNumbered (t : Typed) (numbers names : List ℕ) (offsets : List (List ℕ)) : Type 0 where
  pub typed : IsTyped t
  pub rows_fit : length t.shapes < 2 ^ 32
  pub count : length numbers ≡ length t.shapes
  pub each : (row : ℕ) → slice_index_or numbers row 0 ≡ number_of t (type_at t.shapes row)
  pub named : (row : ℕ) → slice_index_or names row 0 ≡ name_in t (type_at t.shapes row)
  pub before : AreOffsets t offsets

-- ---- elements

-- where it is counted, so many times the rest is the whole
abbrev pub Counted : Option ℕ → ℕ → ℕ → Type 0
Counted None rest whole = Unit {0}
Counted (Some n) rest whole = n * rest ≡ whole

-- no array
abbrev pub IsSingle : CType → Type 0
IsSingle (Array row n) = ⊥
IsSingle other = Unit {0}

-- ---- cells

-- what is in a constant object is constant
abbrev pub sealed : Scalar × Guard → Scalar × Guard
sealed own = (own.0, Constant)

abbrev pub sealed_if : Bool → List (Scalar × Guard) → List (Scalar × Guard)
sealed_if true cells = map sealed cells
sealed_if false cells = cells

-- the cells of a structure, by a list of those of each node
abbrev pub looked_up : List (List (Scalar × Guard)) → Bool → ℕ → List (Scalar × Guard)
looked_up structures constant node = sealed_if constant (slice_index_or structures node [])

-- the cells of what is no array
abbrev pub single_cells : (Bool → ℕ → List (Scalar × Guard)) → Typed → CType → Bool → List (Scalar × Guard)
single_cells look t (Int kind) constant = (scalar.Int kind, guard_of constant) ∷ []
single_cells look t (Pointer below) constant = (scalar.Pointer (number_of t (type_at t.shapes below)), guard_of constant) ∷ []
single_cells look t (Struct node) constant = look constant node
single_cells look t other constant = []

-- the cells of each structure, by its node
abbrev pub AreStructures : Typed → List (List (Scalar × Guard)) → Type 0
AreStructures t structures = (node : ℕ) → slice_index_or structures node [] ≡ structure_cells (length t.nodes) t false node
