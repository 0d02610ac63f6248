-- When two scalar types are one (C11 6.2.5, 6.7.6.1p2): an integer type is one of its own, and pointer types are told
-- apart by what they point to.
use Rattle.std.specs.Prelude.{ℕ, ◌==◌, Bool, false}
use Rattle.cr_ints.specs.declared.kind.IntKind.{IntKind}
use Rattle.cr_ints.specs.declared.kind.IntKind.TheVariants.{Bool as BoolKind, Char, SChar, UChar, Short, UShort, Int, UInt, Long, ULong, LLong, ULLong}
use Rattle.cr_memory.specs.declared.value.Scalar.{Scalar}
use Rattle.cr_memory.specs.declared.value.Scalar.TheVariants.{Int as IntegerKind, Pointer as PointerKind}

-- the place of an integer type in their list
abbrev pub place_of : IntKind → ℕ
place_of BoolKind = 0
place_of Char = 1
place_of SChar = 2
place_of UChar = 3
place_of Short = 4
place_of UShort = 5
place_of Int = 6
place_of UInt = 7
place_of Long = 8
place_of ULong = 9
place_of LLong = 10
place_of ULLong = 11

abbrev pub is_same : Scalar → Scalar → Bool
is_same (IntegerKind left) (IntegerKind right) = place_of left == place_of right
is_same (PointerKind left) (PointerKind right) = left == right
is_same (IntegerKind left) (PointerKind right) = false
is_same (PointerKind left) (IntegerKind right) = false
