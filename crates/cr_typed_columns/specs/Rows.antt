-- Columns as lists, and rows of types in a table that has each type once.
use Rattle.std.specs.Prelude.{◌≡◌, ◌<◌, ℕ, zero, suc, false, List, [], ◌∷◌, ◌++◌, Option, None, Some, length, map, slice_index_or}
use Rattle.std.specs.List.{flat_map}
use Rattle.cr_syntax.specs.declared.ctype.CType.TheVariants as type
use Rattle.cr_check_types.specs.declared.shape.Shape.{Shape}
use Rattle.cr_check_types.specs.Types.{Qualified, plain, type_at, IsRow}
use Rattle.cr_check_types.specs.Relations.{AreRows}
use Rattle.cr_check_types.specs.Shared.{levels_of}
use Rattle.cr_typed.specs.declared.typed.Put.{Put}
use Rattle.cr_check_initialisers.specs.declared.lines.Line.TheVariants as line
use Rattle.cr_check_initialisers.specs.Plans.{Entry, entry_of}
use Rattle.cr_typed_columns.specs.declared.rows.Named.{Named}
use Rattle.cr_typed_columns.specs.declared.rows.Named.TheVariants.{Row, Function}

-- what so many nodes have, in order
abbrev pub listed : {A : Type 0} → (ℕ → A) → ℕ → List A
listed f zero = []
listed f (suc i) = listed f i ++ f i ∷ []

-- ---- types

-- the levels of types, in order
abbrev pub levels_of_all : List Qualified → List Qualified
levels_of_all types = flat_map levels_of types

-- those of so many nodes that have several types each
abbrev pub levels_upto : (ℕ → List Qualified) → ℕ → List Qualified
levels_upto types zero = []
levels_upto types (suc i) = levels_upto types i ++ levels_of_all (types i)

-- rows of these types, in order
pub record AreRowsOf (shapes : List Shape) (types : List Qualified) (rows : List ℕ) : Type 0 where
  pub within : AreRows shapes rows
  pub are : map (type_at shapes) rows ≡ types

-- a type that a row of a table has, or that of a function
abbrev pub type_in : (ℕ → Qualified) → Named → Qualified
type_in look (Row row) = look row
type_in look (Function node) = plain (type.Function node) false false

-- each of these types has a row
abbrev pub AreThere : List Shape → List Qualified → Type 0
AreThere shapes [] = Unit {0}
AreThere shapes (type ∷ types) = ((row : ℕ) × IsRow shapes row type) × AreThere shapes types

-- a row of a type that another table has in a row of its own, with rows of all its levels
pub record IsKept (from shapes : List Shape) (own row : ℕ) : Type 0 where
  pub is : IsRow shapes row (type_at from own)
  pub levels : AreThere shapes (levels_of (type_at from own))

-- for rows of one table those of the same types in another, as far as they are known
abbrev pub AreKept : List Shape → List Shape → List (Option ℕ) → Type 0
AreKept from shapes known = (own row : ℕ) → slice_index_or known own None ≡ Some row → IsKept from shapes own row

-- ---- initialisers

abbrev pub put_entry : List Shape → Put → Entry
put_entry shapes put = entry_of shapes (line.Put put)

abbrev pub put_type : List Shape → Put → Qualified
put_type shapes put = type_at shapes put.row

abbrev pub put_row : Put → ℕ
put_row put = put.row

-- the same expressions for the same parts, by rows of this table
pub record ArePuts (shapes : List Shape) (entries : List Entry) (puts : List Put) : Type 0 where
  pub within : AreRows shapes (map put_row puts)
  pub are : map (put_entry shapes) puts ≡ entries

-- ---- lists of them

-- each of so many nodes has rows of its types
pub record AreAllRows (shapes : List Shape) (types : ℕ → List Qualified) (most : ℕ) (rows : List (List ℕ)) : Type 0 where
  pub count : length rows ≡ most
  pub each : (i : ℕ) → i < most → AreRowsOf shapes (types i) (slice_index_or rows i [])

pub record AreAllPuts (shapes : List Shape) (entries : ℕ → List Entry) (most : ℕ) (plans : List (List Put)) : Type 0 where
  pub count : length plans ≡ most
  pub each : (i : ℕ) → i < most → ArePuts shapes (entries i) (slice_index_or plans i [])
