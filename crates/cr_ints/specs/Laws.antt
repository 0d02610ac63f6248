-- What a reader of C11 6.3.1 expects of the conversions, and of the operations on bits, as facts about their definitions.
use Rattle.std.specs.Prelude.{◌≡◌, ◌≢◌, ℕ, ◌*◌, ◌^◌, ℤ, pos, neg_ℤ, ◌+ℤ◌, ◌-ℤ◌, true, ◌⊎◌}
use Rattle.cr_ints.specs.declared.kind.IntKind.{IntKind}
use Rattle.cr_ints.specs.declared.kind.IntKind.TheVariants.{Bool as BoolKind}
use Rattle.cr_ints.specs.IntKind.{width_of, is_signed, Represents}
use Rattle.cr_ints.specs.Conversions.{convert_of, promote_of, common_of}
use Rattle.cr_ints.specs.Bits.{bits_of, of_bits, not_of}

-- the one is the other with the modulus added some number of times (6.3.1.3p2)
abbrev pub IsCongruent : ℕ → ℤ → ℤ → Type 0
IsCongruent modulus left right =
    (times : ℕ) × ((left ≡ right +ℤ pos (times * modulus)) ⊎ (right ≡ left +ℤ pos (times * modulus)))

-- a value that the kind can represent is unchanged (6.3.1.3p1)
abbrev pub ConversionKeepsRange : Type 0
ConversionKeepsRange = (value : ℤ) (kind : IntKind) → Represents kind value → convert_of value kind ≡ value

-- the converted value is representable
abbrev pub ConversionIsRepresentable : Type 0
ConversionIsRepresentable = (value : ℤ) (kind : IntKind) → Represents kind (convert_of value kind)

-- but for `_Bool`, the converted value is congruent to the value modulo the number of the kind's values
abbrev pub ConversionIsCongruent : Type 0
ConversionIsCongruent = (value : ℤ) (kind : IntKind) → kind ≢ BoolKind
    → IsCongruent (2 ^ width_of kind) (convert_of value kind) value

-- and it is the only such value that the kind can represent
abbrev pub ConversionIsUnique : Type 0
ConversionIsUnique = (value result : ℤ) (kind : IntKind) → kind ≢ BoolKind → Represents kind result
    → IsCongruent (2 ^ width_of kind) result value → result ≡ convert_of value kind

-- a promotion keeps every value (6.3.1.1p3)
abbrev pub PromotionKeepsValues : Type 0
PromotionKeepsValues = (kind : IntKind) (value : ℤ) → Represents kind value → Represents (promote_of kind) value

-- a promoted kind is promoted to itself
abbrev pub PromotionIsIdempotent : Type 0
PromotionIsIdempotent = (kind : IntKind) → promote_of (promote_of kind) ≡ promote_of kind

-- the order of the operands makes no difference to their common kind
abbrev pub CommonIsSymmetric : Type 0
CommonIsSymmetric = (left right : IntKind) → common_of left right ≡ common_of right left

-- a value's bits are those of no other value of the kind: the way through the unsigned kind and back loses nothing
abbrev pub BitsAreKept : Type 0
BitsAreKept = (kind : IntKind) (value : ℤ) → Represents kind value → of_bits kind (bits_of kind value) ≡ value

-- in two's complement the complement of a signed value is its negation less 1 (6.2.6.2p2)
abbrev pub ComplementIsNegationLessOne : Type 0
ComplementIsNegationLessOne = (kind : IntKind) (value : ℤ) → is_signed kind ≡ true → Represents kind value → not_of kind value ≡ neg_ℤ value -ℤ pos 1
