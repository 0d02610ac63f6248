use Rattle.std.proofs.Common.{◌≡◌, ◌≤◌, ◌-◌, ◌*◌, ◌^◌, ◌%◌, ℤ, pos, negsuc, ◌≤ℤ◌, ◌<ℤ◌, ◌*ℤ◌, unsigned_abs, lit<, arith, FitsSigned, to_z, of_z}
use Rattle.std.proofs.lemmas.Int.{ints, to_z-of_z, to_z_pos, fits_signed_mul}
use Rattle.std.proofs.Math.Nat.{pow-le-pow_right, mod-eq_of_lt, one-mul}
use Rattle.std.specs.Int.{w128}
use Rattle.cr_ints.specs.IntKind.{IsInteger}
use Rattle.cr_ints.proofs.arithmetic.times_power_of_two.Goals as goal

-- a power of two below the width of the widest kind, as the code's shift of 1 makes it
record Power (count : ℤ) : Type 0 where
  is : to_z w128 (1 * 2 ^ of_z w128 count % 2 ^ 128) ≡ pos (2 ^ unsigned_abs count)
  small : 2 ^ unsigned_abs count ≤ 2 ^ 63

power : (count : ℤ) → pos 0 ≤ℤ count → count <ℤ pos 64 → Power count
power (pos n) low high =
    let below : n ≤ 63 = omega (arith, ints) in
    let small : 2 ^ n ≤ 2 ^ 63 = pow-le-pow_right {n = 2} (lit< tt) {i = n} {j = 63} below in
    let whole : 2 ^ n % 2 ^ 128 ≡ 2 ^ n = mod-eq_of_lt (omega arith) in
    record { is = rw (one-mul (2 ^ n), whole) (to_z_pos w128 (2 ^ n) (omega arith)); small = small }
power (negsuc n) low high = absurd (omega (arith, ints))

shifted_fits : (left count : ℤ) → IsInteger left → pos 0 ≤ℤ count → count <ℤ pos 64 → FitsSigned w128 (left *ℤ pos (2 ^ unsigned_abs count))
shifted_fits left count within low high =
    let p = power count low high in
    fits_signed_mul w128 left (pos (2 ^ unsigned_abs count)) (2 ^ 64 - 1) (2 ^ 63) (omega (arith, ints, within)) p.small (lit< tt)

pub overflow_mul-result : goal.overflow_mul-result
overflow_mul-result c =
    let h = c.requires in
    let fl : FitsSigned w128 c.args.left = c.ranges.left in
    rw (to_z-of_z w128 c.args.left fl, (power c.args.count h.not_negative h.below_width).is) (shifted_fits c.args.left c.args.count h.left h.not_negative h.below_width)

pub returns : goal.returns
returns c =
    let h = c.requires in
    let fl : FitsSigned w128 c.args.left = c.ranges.left in
    rw (to_z-of_z w128 c.args.left fl, (power c.args.count h.not_negative h.below_width).is)
    (to_z-of_z w128 _ (shifted_fits c.args.left c.args.count h.left h.not_negative h.below_width))
