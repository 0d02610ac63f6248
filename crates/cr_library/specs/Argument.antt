-- What a conversion of `printf` takes and prints (C11 7.21.6.1p7 to p9).
use Rattle.std.specs.Prelude.{◌≡◌, ℕ, zero, suc, ◌≤◌, ℤ, unsigned_abs, Bool, false, ◌==◌, ◌&&◌, List, [], ◌∷◌, ⊤}
use Rattle.std.specs.Fmt.{decimal, signed_decimal, digits}
use Rattle.cr_ints.specs.declared.kind.IntKind.{IntKind}
use Rattle.cr_ints.specs.declared.kind.IntKind.TheVariants.{UChar, Int, UInt, Long, ULong, LLong, ULLong}
use Rattle.cr_ints.specs.IntKind.{Represents, can_represent, rank_of}
use Rattle.cr_ints.specs.Conversions.{convert_of}
use Rattle.cr_library.specs.declared.piece.Piece.{Piece}
use Rattle.cr_library.specs.declared.piece.Piece.TheVariants.{Bytes, Signed, Unsigned, Hex, Byte, Text}

-- a conversion of an integer, with a length modifier of the profile
abbrev pub TakesInteger : Piece → Type 0
TakesInteger (Bytes _) = ⊥
TakesInteger (Signed letters) = letters ≤ 2
TakesInteger (Unsigned letters) = letters ≤ 2
TakesInteger (Hex letters) = letters ≤ 2
TakesInteger Byte = ⊤
TakesInteger Text = ⊥

-- the signed and the unsigned type that nothing, `l` or `ll` names (p7)
abbrev pub signed_kind : ℕ → IntKind
signed_kind zero = Int
signed_kind (suc zero) = Long
signed_kind (suc (suc _)) = LLong

abbrev pub unsigned_kind : ℕ → IntKind
unsigned_kind zero = UInt
unsigned_kind (suc zero) = ULong
unsigned_kind (suc (suc _)) = ULLong

-- the type of a conversion's argument (p8)
abbrev pub wanted_of : Piece → IntKind
wanted_of (Bytes _) = Int
wanted_of (Signed letters) = signed_kind letters
wanted_of (Unsigned letters) = unsigned_kind letters
wanted_of (Hex letters) = unsigned_kind letters
wanted_of Byte = Int
wanted_of Text = Int

-- an argument of a kind agrees with the wanted type (p9): it has that type, or the signed or unsigned one of its rank,
-- and both represent the value (as in 7.16.1.1p2); as a fact, and as a test where the value is one of its kind's
pub record Agrees (wanted kind : IntKind) (value : ℤ) : Type 0 where
  pub rank : rank_of kind ≡ rank_of wanted
  pub in_kind : Represents kind value
  pub in_wanted : Represents wanted value

abbrev pub agrees : IntKind → IntKind → ℤ → Bool
agrees wanted kind value = (rank_of kind == rank_of wanted) && can_represent wanted value

-- what a conversion prints of a value that agrees: a number in the style of p8, without needless zeros; `%c` the value
-- converted to unsigned char
abbrev pub shown : Piece → ℤ → List ℕ
shown (Bytes _) value = []
shown (Signed _) value = signed_decimal value
shown (Unsigned _) value = decimal (unsigned_abs value)
shown (Hex _) value = digits 16 false (unsigned_abs value)
shown Byte value = unsigned_abs (convert_of value UChar) ∷ []
shown Text value = []
