-- Quotients, remainders and shifted values stay near the left operand.
use Rattle.std.proofs.Common.{◌≡◌, ℕ, zero, suc, ◌/◌, ◌%◌, ◌≤◌, ◌^◌, ℤ, pos, negsuc, neg_ℤ, int_div, int_rem, unsigned_abs, refl, arith, FitsSigned}
use Rattle.std.proofs.Math.Nat.{div-le_self, mod-le}
use Rattle.std.proofs.lemmas.Int.{ints, fits_signed_from_abs}
use Rattle.std.specs.Int.{w128}
use Rattle.cr_ints.specs.declared.kind.IntKind.{IntKind}
use Rattle.std.specs.Int.Signed.{shr_z}
use Rattle.cr_ints.proofs.Ranges.{narrow_least, narrow_greatest}
use Rattle.cr_ints.specs.IntKind.{Represents, IsInteger}

-- the remainder lies between 0 and the left operand, and so in every range that has the left operand
pub rem-represents : (kind : IntKind) (left right : ℤ) → Represents kind left → Represents kind (int_rem left right)
rem-represents kind (pos a) right h =
    let l = narrow_least kind in let g = narrow_greatest kind in
    let m : a % unsigned_abs right ≤ a = mod-le a (unsigned_abs right) in
    record { from_least = omega (arith, ints); to_greatest = omega (arith, ints) }
rem-represents kind (negsuc a) right h =
    let l = narrow_least kind in let g = narrow_greatest kind in
    let m : suc a % unsigned_abs right ≤ suc a = mod-le (suc a) (unsigned_abs right) in
    record { from_least = omega (arith, ints); to_greatest = omega (arith, ints) }

-- a value shifted to the right lies between the value and 0 or -1
pub shr-represents : (kind : IntKind) (left : ℤ) (divisor : ℕ) → Represents kind left → Represents kind (shr_z left divisor)
shr-represents kind (pos a) divisor h =
    let l = narrow_least kind in let g = narrow_greatest kind in
    let m : a / divisor ≤ a = div-le_self a divisor in
    record { from_least = omega (arith, ints); to_greatest = omega (arith, ints) }
shr-represents kind (negsuc a) divisor h =
    let l = narrow_least kind in let g = narrow_greatest kind in
    let m : a / divisor ≤ a = div-le_self a divisor in
    record { from_least = omega (arith, ints); to_greatest = omega (arith, ints) }
