-- The integer types of the subset (C11 6.2.5): their widths, signs and ranges, and their ranks (6.3.1.1p1).
use Rattle.std.specs.Prelude.{ℕ, ℤ, pos, neg_ℤ, ◌-◌, ◌^◌, ◌≤ℤ◌, Bool, true, false, ◌&&◌, int_le, if◌then◌else◌}
use Rattle.cr_ints.specs.declared.kind.IntKind.{IntKind}
use Rattle.cr_ints.specs.declared.kind.IntKind.TheVariants.{Bool as BoolKind, Char, SChar, UChar, Short, UShort, Int, UInt, Long, ULong, LLong, ULLong}

-- ---- widths and ranges

-- the bits of a value, the sign's included (6.2.6.2p6); that `char` has 8 and so on is this project's choice
abbrev pub width_of : IntKind → ℕ
width_of BoolKind = 1
width_of Char = 8
width_of SChar = 8
width_of UChar = 8
width_of Short = 16
width_of UShort = 16
width_of Int = 32
width_of UInt = 32
width_of Long = 64
width_of ULong = 64
width_of LLong = 64
width_of ULLong = 64

-- the signed integer types (6.2.5p4); that `char` is one of them (6.2.5p15) is this project's choice
abbrev pub is_signed : IntKind → Bool
is_signed BoolKind = false
is_signed Char = true
is_signed SChar = true
is_signed UChar = false
is_signed Short = true
is_signed UShort = false
is_signed Int = true
is_signed UInt = false
is_signed Long = true
is_signed ULong = false
is_signed LLong = true
is_signed ULLong = false

-- the least and the greatest value: two's complement where there is a sign, pure binary where there is none (6.2.6.2)
abbrev pub least_of : IntKind → ℤ
least_of kind = if is_signed kind then neg_ℤ (pos (2 ^ (width_of kind - 1))) else pos 0

abbrev pub greatest_of : IntKind → ℤ
greatest_of kind = if is_signed kind then pos (2 ^ (width_of kind - 1) - 1) else pos (2 ^ width_of kind - 1)

-- how many values a kind of this width has
abbrev pub modulus_of : IntKind → ℤ
modulus_of kind = pos (2 ^ width_of kind)

-- the kind can represent the value: it lies in the kind's range; as a fact, and as a test
pub record Represents (kind : IntKind) (value : ℤ) : Type 0 where
  pub from_least : least_of kind ≤ℤ value
  pub to_greatest : value ≤ℤ greatest_of kind

abbrev pub can_represent : IntKind → ℤ → Bool
can_represent kind value = int_le (least_of kind) value && int_le value (greatest_of kind)

-- the kind can represent all values of the other
abbrev pub can_represent_all : IntKind → IntKind → Bool
can_represent_all kind other = can_represent kind (least_of other) && can_represent kind (greatest_of other)

-- the value lies between the least and the greatest value that any kind has
pub record IsInteger (value : ℤ) : Type 0 where
  pub from_least : least_of LLong ≤ℤ value
  pub to_greatest : value ≤ℤ greatest_of ULLong

-- ---- ranks

-- the conversion rank (6.3.1.1p1), counted from that of `_Bool`
abbrev pub rank_of : IntKind → ℕ
rank_of BoolKind = 0
rank_of Char = 1
rank_of SChar = 1
rank_of UChar = 1
rank_of Short = 2
rank_of UShort = 2
rank_of Int = 3
rank_of UInt = 3
rank_of Long = 4
rank_of ULong = 4
rank_of LLong = 5
rank_of ULLong = 5

-- the unsigned type that corresponds to a signed one (6.2.5p6); an unsigned type, and `_Bool`, is its own
abbrev pub unsigned_of : IntKind → IntKind
unsigned_of Char = UChar
unsigned_of SChar = UChar
unsigned_of Short = UShort
unsigned_of Int = UInt
unsigned_of Long = ULong
unsigned_of LLong = ULLong
unsigned_of kind = kind
