-- What holds of types: which are compatible (C11 6.2.7), their composite, and whether one is complete (6.2.5p1) at a node.
use Rattle.std.specs.Prelude.{◌≡◌, ℕ, ◌<◌, ◌≤◌, ◌==◌, ◌&&◌, ◌||◌, List, Bool, true, false, not, Option, Some, None, nat_lt, slice_get, slice_index, length, if◌then◌else◌}
use Rattle.cr_ints.specs.declared.kind.IntKind.{IntKind}
use Rattle.cr_ints.specs.declared.kind.IntKind.TheVariants.{Bool as BoolKind, Char, SChar, UChar, Short, UShort, Int as IntKind_Int, UInt, Long, ULong, LLong, ULLong}
use Rattle.cr_syntax.specs.declared.ctype.CType.{CType}
use Rattle.cr_syntax.specs.declared.ctype.CType.TheVariants.{Void, Int, Pointer, Array, Struct, Function, Unknown}
use Rattle.cr_syntax.specs.declared.node.Kind.{Kind}
use Rattle.cr_syntax.specs.declared.node.Kind.TheVariants.{StructContent}
use Rattle.cr_syntax.specs.declared.node.Node.{Node}
use Rattle.cr_check_types.specs.declared.compatible.Step.{Step}
use Rattle.cr_check_types.specs.declared.compatible.Step.TheVariants.{Answer, Below}
use Rattle.cr_check_types.specs.declared.shape.Shape.{Shape}
use Rattle.cr_check_types.specs.Types.{Qualified, plain, pointer, array, type_at}

-- ---- compatible types

-- the integer types by their numbers: no two are one type, also where their ranges are the same (6.2.5p14)
abbrev pub number_of : IntKind → ℕ
number_of BoolKind = 0
number_of Char = 1
number_of SChar = 2
number_of UChar = 3
number_of Short = 4
number_of UShort = 5
number_of IntKind_Int = 6
number_of UInt = 7
number_of Long = 8
number_of ULong = 9
number_of LLong = 10
number_of ULLong = 11

abbrev pub same : Bool → Bool → Bool
same true right = right
same false right = not right

-- the same by their words: void, integers, structures and functions are compatible where they are the same. So the types of
-- two declarations of a function are judged by their parameters, where they are compared
abbrev pub are_same : CType → CType → Bool
are_same Void Void = true
are_same (Int kind) (Int other) = number_of kind == number_of other
are_same (Struct node) (Struct other) = node == other
are_same (Function node) (Function other) = node == other
are_same Unknown Unknown = true
are_same (Pointer row) (Pointer other) = row == other
are_same (Array row count) (Array other size) = row == other && count == size
are_same left right = false

-- a size agrees with another, and an unknown one with every size (6.7.6.2p6)
abbrev pub sizes_agree : ℕ → ℕ → Bool
sizes_agree count other = count == 0 || (other == 0 || count == other)

-- identically qualified (6.7.3p10), and arrays and pointers of compatible types (6.7.6.1p2, 6.7.6.2p6)
abbrev pub are_compatible : Qualified → Qualified → Bool
are_compatible (plain of c v) (plain other d w) = are_same of other && (same c d && same v w)
are_compatible (plain of c v) (pointer d w t) = false
are_compatible (plain of c v) (array n t) = false
are_compatible (pointer c v t) (plain other d w) = false
are_compatible (pointer c v t) (pointer d w u) = (same c d && same v w) && are_compatible t u
are_compatible (pointer c v t) (array m u) = false
are_compatible (array n t) (plain other d w) = false
are_compatible (array n t) (pointer d w u) = false
are_compatible (array n t) (array m u) = sizes_agree n m && are_compatible t u

-- what a step along two types says, by the types of the rows below them
abbrev pub stepped : (ℕ → Qualified) → Step → Bool
stepped look (Answer answer) = answer
stepped look (Below left right) = are_compatible (look left) (look right)

-- the rows are below the given numbers
abbrev pub StaysBelow : ℕ → ℕ → Step → Type 0
StaysBelow left right (Answer answer) = Unit {0}
StaysBelow left right (Below x y) = (x < left) × (y < right)

-- the composite of two compatible types: an array has the size that is known (6.2.7p3)
abbrev pub known_size : ℕ → ℕ → ℕ
known_size count other = if count == 0 then other else count

abbrev pub composite_of : Qualified → Qualified → Qualified
composite_of (pointer c v t) (pointer d w u) = pointer c v (composite_of t u)
composite_of (array n t) (array m u) = array (known_size n m) (composite_of t u)
composite_of (pointer c v t) (plain other d w) = pointer c v t
composite_of (pointer c v t) (array m u) = pointer c v t
composite_of (array n t) (plain other d w) = array n t
composite_of (array n t) (pointer d w u) = array n t
composite_of (plain of c v) other = plain of c v

-- the first row whose type is compatible with that of the row
pub record IsLeastRow (compatible : ℕ → Bool) (row least : ℕ) : Type 0 where
  pub is : compatible least ≡ true
  pub within : least ≤ row
  pub first : (other : ℕ) → other < least → compatible other ≡ false

-- ---- complete types

-- the node is the content of a structure, and stands before the given one (6.7.2.1p8)
abbrev pub is_content : Kind → Bool
is_content StructContent = true
is_content kind = false

abbrev pub is_content_if : Option Node → Bool
is_content_if None = false
is_content_if (Some node) = is_content node.kind

abbrev pub is_defined : List Node → ℕ → ℕ → Bool
is_defined nodes at node = nat_lt node at && is_content_if (slice_get nodes node)

-- 6.2.5p1, p19, p22: void is never complete, an array of unknown size isn't, nor is a structure that isn't defined yet; a
-- function and no type are no object types
abbrev pub is_whole : List Node → ℕ → CType → Bool
is_whole nodes at (Int kind) = true
is_whole nodes at (Struct node) = is_defined nodes at node
is_whole nodes at other = false

abbrev pub is_complete_at : List Node → ℕ → Qualified → Bool
is_complete_at nodes at (plain of c v) = is_whole nodes at of
is_complete_at nodes at (pointer c v t) = true
is_complete_at nodes at (array n t) = not (n == 0) && is_complete_at nodes at t

-- ---- derived types

-- what a declarator makes of the type of its specifiers (6.7.6), by its derivations from the name outwards, which end in any
-- plain type as the place of the name
abbrev pub turned : Qualified → Qualified → Qualified
turned (pointer c v t) base = turned t (pointer c v base)
turned (array n t) base = turned t (array n base)
turned (plain of c v) base = base

-- the unqualified version of a type (6.2.5p26); an array is qualified as its elements are and stays as it is
abbrev pub bare : Qualified → Qualified
bare (plain of c v) = plain of false false
bare (pointer c v t) = pointer false false t
bare (array n t) = array n t

-- a type with more qualifiers: those of an array go to its elements (6.7.3p9)
abbrev pub qualified : Bool → Bool → Qualified → Qualified
qualified constant volatile (plain of c v) = plain of (c || constant) (v || volatile)
qualified constant volatile (pointer c v t) = pointer (c || constant) (v || volatile) t
qualified constant volatile (array n t) = array n (qualified constant volatile t)

-- the parameters of two functions agree: as many, and compatible without their own qualifiers (6.7.6.3p15)
pub record AgreeInParameters (shapes : List Shape) (left right : List ℕ) : Type 0 where
  pub count : length left ≡ length right
  pub each : (k : ℕ) → k < length left
      → are_compatible (bare (type_at shapes (slice_index left k))) (bare (type_at shapes (slice_index right k))) ≡ true

-- each number is a row of the table
abbrev pub AreRows : List Shape → List ℕ → Type 0
AreRows shapes rows = (k : ℕ) → k < length rows → slice_index rows k < length shapes
