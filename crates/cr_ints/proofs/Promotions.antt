-- Promotions and common kinds, kind by kind.
use Rattle.std.proofs.Common.{◌≡◌, ℤ, refl, arith}
use Rattle.std.proofs.lemmas.Int.{ints}
use Rattle.cr_ints.specs.declared.kind.IntKind.{IntKind}
use Rattle.cr_ints.specs.declared.kind.IntKind.TheVariants.{Bool as BoolKind, Char, SChar, UChar, Short, UShort, Int, UInt, Long, ULong, LLong, ULLong}
use Rattle.cr_ints.specs.IntKind.{Represents}
use Rattle.cr_ints.specs.Conversions.{promote_of, common_of}
use Rattle.cr_ints.proofs.Ranges.{each}

pub promote_of-promote_of : (kind : IntKind) → promote_of (promote_of kind) ≡ promote_of kind
promote_of-promote_of = each (λ kind. promote_of (promote_of kind) ≡ promote_of kind)
    refl refl refl refl refl refl refl refl refl refl refl refl

pub promote_of-represents : (kind : IntKind) (value : ℤ) → Represents kind value → Represents (promote_of kind) value
promote_of-represents = each (λ kind. (value : ℤ) → Represents kind value → Represents (promote_of kind) value)
    (λ v h. record { from_least = omega (arith, ints, h); to_greatest = omega (arith, ints, h) })
    (λ v h. record { from_least = omega (arith, ints, h); to_greatest = omega (arith, ints, h) })
    (λ v h. record { from_least = omega (arith, ints, h); to_greatest = omega (arith, ints, h) })
    (λ v h. record { from_least = omega (arith, ints, h); to_greatest = omega (arith, ints, h) })
    (λ v h. record { from_least = omega (arith, ints, h); to_greatest = omega (arith, ints, h) })
    (λ v h. record { from_least = omega (arith, ints, h); to_greatest = omega (arith, ints, h) })
    (λ v h. h) (λ v h. h) (λ v h. h) (λ v h. h) (λ v h. h) (λ v h. h)

pub common_of-symmetric : (left right : IntKind) → common_of left right ≡ common_of right left
common_of-symmetric = each (λ left. (right : IntKind) → common_of left right ≡ common_of right left)
    (each (λ right. common_of BoolKind right ≡ common_of right BoolKind) refl refl refl refl refl refl refl refl refl refl refl refl)
    (each (λ right. common_of Char right ≡ common_of right Char) refl refl refl refl refl refl refl refl refl refl refl refl)
    (each (λ right. common_of SChar right ≡ common_of right SChar) refl refl refl refl refl refl refl refl refl refl refl refl)
    (each (λ right. common_of UChar right ≡ common_of right UChar) refl refl refl refl refl refl refl refl refl refl refl refl)
    (each (λ right. common_of Short right ≡ common_of right Short) refl refl refl refl refl refl refl refl refl refl refl refl)
    (each (λ right. common_of UShort right ≡ common_of right UShort) refl refl refl refl refl refl refl refl refl refl refl refl)
    (each (λ right. common_of Int right ≡ common_of right Int) refl refl refl refl refl refl refl refl refl refl refl refl)
    (each (λ right. common_of UInt right ≡ common_of right UInt) refl refl refl refl refl refl refl refl refl refl refl refl)
    (each (λ right. common_of Long right ≡ common_of right Long) refl refl refl refl refl refl refl refl refl refl refl refl)
    (each (λ right. common_of ULong right ≡ common_of right ULong) refl refl refl refl refl refl refl refl refl refl refl refl)
    (each (λ right. common_of LLong right ≡ common_of right LLong) refl refl refl refl refl refl refl refl refl refl refl refl)
    (each (λ right. common_of ULLong right ≡ common_of right ULLong) refl refl refl refl refl refl refl refl refl refl refl refl)
