-- Types (C11 6.2.5), as values: a type is a chain, since a pointer and an array have one type below them.
use Rattle.std.specs.Prelude.{◌≡◌, ℕ, suc, ◌<◌, ◌≤◌, List, [], ◌∷◌, ◌++◌, Bool, false, length, fold, slice_get, slice_index_or, Some}
use Rattle.cr_syntax.specs.declared.ctype.CType.{CType}
use Rattle.cr_syntax.specs.declared.ctype.CType.TheVariants.{Pointer, Array, Unknown}
use Rattle.cr_check_types.specs.declared.shape.Shape.{Shape}

-- A type with its qualifiers, `const` and `volatile` (6.7.3): `plain` is void, an integer, a structure or a function by its
-- node, or no type. An array is qualified as its elements are (6.7.3p9); a length of 0 is an unknown size.
pub data Qualified : Type 0 where
  plain : CType → Bool → Bool → Qualified
  pointer : Bool → Bool → Qualified → Qualified
  array : ℕ → Qualified → Qualified

-- the type of an expression without a type, and of what is no expression
abbrev pub unknown : Qualified
unknown = plain Unknown false false

-- the type that a shape makes of the types of the rows below it
abbrev pub type_by : CType → Bool → Bool → (ℕ → Qualified) → Qualified
type_by (Pointer row) constant volatile look = pointer constant volatile (look row)
type_by (Array row count) constant volatile look = array count (look row)
type_by other constant volatile look = plain other constant volatile

abbrev pub type_of : (ℕ → Qualified) → Shape → Qualified
type_of look shape = type_by shape.of shape.constant shape.volatile look

-- a shape names rows below this number
abbrev pub room_in : CType → ℕ
room_in (Pointer row) = suc row
room_in (Array row count) = suc row
room_in other = 0

abbrev pub room_of : Shape → ℕ
room_of shape = room_in shape.of

-- the types of a table's rows, in order
abbrev pub with_row : List Qualified → Shape → List Qualified
with_row made shape = made ++ type_of (λ row. slice_index_or made row unknown) shape ∷ []

unfoldable pub types_of : List Shape → List Qualified
types_of shapes = fold with_row [] shapes

-- the type of a row
unfoldable pub type_at : List Shape → ℕ → Qualified
type_at shapes row = slice_index_or (types_of shapes) row unknown

-- each shape names rows before its own
abbrev pub IsTable : List Shape → Type 0
IsTable shapes = (row : ℕ) (shape : Shape) → slice_get shapes row ≡ Some shape → room_of shape ≤ row

-- the row has this type
pub record IsRow (shapes : List Shape) (row : ℕ) (type : Qualified) : Type 0 where
  pub within : row < length shapes
  pub is : type_at shapes row ≡ type

-- the rows of a table stay as they are when it grows
pub record Grows (old new : List Shape) : Type 0 where
  pub longer : length old ≤ length new
  pub keeps : (row : ℕ) → row < length old → type_at new row ≡ type_at old row

-- the row has this shape: its type, and the rows below it
pub record IsShape (shapes : List Shape) (row : ℕ) (shape : Shape) : Type 0 where
  pub is : type_at shapes row ≡ type_of (type_at shapes) shape
  pub below : room_of shape ≤ row
