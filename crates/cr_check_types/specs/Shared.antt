-- Tables in which each type has one row.
use Rattle.std.specs.Prelude.{◌≡◌, ℕ, ◌+◌, ◌<◌, ◌≤◌, ◌==◌, ◌&&◌, Bool, true, false, List, [], ◌∷◌, ◌++◌, Option, Some, length, slice_get}
use Rattle.cr_syntax.specs.declared.ctype.CType.{CType}
use Rattle.cr_syntax.specs.declared.ctype.CType.TheVariants.{Void, Int, Pointer, Array, Struct, Function, Unknown}
use Rattle.cr_check_types.specs.declared.shape.Shape.{Shape}
use Rattle.cr_check_types.specs.Types.{Qualified, plain, pointer, array, type_at, IsTable, Grows}
use Rattle.cr_check_types.specs.Relations.{number_of}

-- no two rows have one type
abbrev pub IsDistinct : List Shape → Type 0
IsDistinct shapes = (row other : ℕ) → row < length shapes → other < length shapes → type_at shapes row ≡ type_at shapes other → row ≡ other

-- an array is qualified as its elements are, so its shape has no qualifiers of its own
abbrev pub normal_by : CType → Bool → Bool → Shape
normal_by (Array row count) c v = record { of = Array row count; constant = false; volatile = false }
normal_by of c v = record { of = of; constant = c; volatile = v }

abbrev pub normal_of : Shape → Shape
normal_of shape = normal_by shape.of shape.constant shape.volatile

-- each type has one row, and one shape: such tables with the same types in the same rows are the same
pub record IsCanonical (shapes : List Shape) : Type 0 where
  pub table : IsTable shapes
  pub normal : (row : ℕ) (shape : Shape) → slice_get shapes row ≡ Some shape → normal_of shape ≡ shape
  pub distinct : IsDistinct shapes

-- ---- one type more

-- no row has the type
abbrev pub HasNoRow : List Shape → Qualified → Type 0
HasNoRow shapes type = (row : ℕ) → row < length shapes → type_at shapes row ≡ type → ⊥

-- the table with a row of the type behind the others, which had none
pub record Gains (old : List Shape) (type : Qualified) (new : List Shape) : Type 0 where
  pub none : HasNoRow old type
  pub longer : length new ≡ length old + 1
  pub grows : Grows old new
  pub last : type_at new (length old) ≡ type

-- the table as it is where a row has the type, else with one row more
pub data IsWith (old : List Shape) (type : Qualified) (new : List Shape) : Type 0 where
  has : (row : ℕ) → row < length old → type_at old row ≡ type → new ≡ old → IsWith old type new
  gains : Gains old type new → IsWith old type new

-- with a row of each of these types, taken in order
abbrev pub IsWithAll : List Shape → List Qualified → List Shape → Type 0
IsWithAll old [] new = new ≡ old
IsWithAll old (type ∷ types) new = (between : List Shape) × (IsWith old type between) × IsWithAll between types new

-- a type behind those that stand below it
abbrev pub levels_of : Qualified → List Qualified
levels_of (plain of c v) = plain of c v ∷ []
levels_of (pointer c v t) = levels_of t ++ pointer c v t ∷ []
levels_of (array n t) = levels_of t ++ array n t ∷ []

-- ---- how a table finds the row of a shape

abbrev pub qualifiers_of : Bool → Bool → ℕ
qualifiers_of false false = 0
qualifiers_of false true = 1
qualifiers_of true false = 2
qualifiers_of true true = 3

-- what tells shapes apart
abbrev pub Key : Type 0
Key = (ℕ × ℕ) × (ℕ × ℕ)

abbrev pub key_by : CType → ℕ → Key
key_by Void q = ((0, q), (0, 0))
key_by (Int kind) q = ((1, q), (number_of kind, 0))
key_by (Pointer row) q = ((2, q), (row, 0))
key_by (Array row count) q = ((3, q), (row, count))
key_by (Struct node) q = ((4, q), (node, 0))
key_by (Function node) q = ((5, q), (node, 0))
key_by Unknown q = ((6, q), (0, 0))

abbrev pub key_of : Shape → Key
key_of shape = key_by shape.of (qualifiers_of shape.constant shape.volatile)

abbrev pub same_key : Key → Key → Bool
same_key a b = ((a.0.0 == b.0.0) && (a.0.1 == b.0.1)) && ((a.1.0 == b.1.0) && (a.1.1 == b.1.1))

-- the row doesn't have the shape, or isn't there
abbrev pub IsOther : List Shape → ℕ → Shape → Type 0
IsOther shapes row shape = slice_get shapes row ≡ Some shape → ⊥

-- no row has the shape
abbrev pub IsAbsent : List Shape → Shape → Type 0
IsAbsent shapes shape = (row : ℕ) → slice_get shapes row ≡ Some shape → ⊥

-- the shapes are normal, and each is found at its row
pub record AreShared (shapes : List Shape) (rows : Key → Option ℕ) : Type 0 where
  pub table : IsTable shapes
  pub normal : (row : ℕ) (shape : Shape) → slice_get shapes row ≡ Some shape → normal_of shape ≡ shape
  pub found : (row : ℕ) (shape : Shape) → slice_get shapes row ≡ Some shape → rows (key_of shape) ≡ Some row
