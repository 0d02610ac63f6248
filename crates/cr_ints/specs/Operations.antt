-- The operations on integers (C11 6.5.3.3p3, 6.5.5 to 6.5.7): the operation on integers without bounds, and then what the kind
-- makes of its result. Both operands of all but the shifts have the kind.
use Rattle.std.specs.Prelude.{ℤ, pos, neg_ℤ, ◌+ℤ◌, ◌-ℤ◌, ◌*ℤ◌, ◌^◌, ◌==◌, Bool, ◌&&◌, int_le, int_lt, int_div, int_rem, unsigned_abs, if◌then◌else◌}
use Rattle.std.specs.Int.{int_rem_euclid, int_div_euclid}
use Rattle.cr_ints.specs.declared.kind.IntKind.{IntKind}
use Rattle.cr_ints.specs.declared.end.IntEnd.{IntEnd}
use Rattle.cr_ints.specs.declared.end.IntEnd.TheVariants.{Value, Undefined}
use Rattle.cr_ints.specs.declared.end.TheConstants.{NOT_REPRESENTABLE, ZERO_DIVISOR, QUOTIENT_NOT_REPRESENTABLE, SHIFT_COUNT, LEFT_SHIFT}
use Rattle.cr_ints.specs.IntKind.{width_of, modulus_of, is_signed, can_represent}

-- the operation ends with a value, of which the fact holds, or without one
abbrev pub IfValue : IntEnd → (ℤ → Type 0) → Type 0
IfValue (Value value) P = P value
IfValue (Undefined number) P = Unit {0}

-- ---- sums and products

-- an unsigned result is reduced modulo one more than the greatest value (6.2.5p9)
abbrev pub modulo_of : IntKind → ℤ → ℤ
modulo_of kind exact = int_rem_euclid exact (modulus_of kind)

-- a signed result has to be representable (6.5p5)
abbrev pub end_of : IntKind → ℤ → IntEnd
end_of kind exact =
    if is_signed kind
    then (if can_represent kind exact then Value exact else Undefined NOT_REPRESENTABLE)
    else Value (modulo_of kind exact)

-- 6.5.6p5
abbrev pub add_of : IntKind → ℤ → ℤ → IntEnd
add_of kind left right = end_of kind (left +ℤ right)

-- 6.5.6p6
abbrev pub sub_of : IntKind → ℤ → ℤ → IntEnd
sub_of kind left right = end_of kind (left -ℤ right)

-- 6.5.5p4
abbrev pub mul_of : IntKind → ℤ → ℤ → IntEnd
mul_of kind left right = end_of kind (left *ℤ right)

-- 6.5.3.3p3
abbrev pub neg_of : IntKind → ℤ → IntEnd
neg_of kind value = end_of kind (neg_ℤ value)

-- ---- quotients

-- `/` and `%` are undefined where the divisor is 0 (6.5.5p5), and where the quotient isn't representable (6.5.5p6)
abbrev pub quotient_end_of : IntKind → ℤ → ℤ → ℤ → IntEnd
quotient_end_of kind left right result =
    if unsigned_abs right == 0
    then Undefined ZERO_DIVISOR
    else (if can_represent kind (int_div left right) then Value result else Undefined QUOTIENT_NOT_REPRESENTABLE)

-- the quotient with any fractional part discarded (6.5.5p6)
abbrev pub div_of : IntKind → ℤ → ℤ → IntEnd
div_of kind left right = quotient_end_of kind left right (int_div left right)

-- the remainder of that quotient (6.5.5p5, p6), so its sign is that of the left operand
abbrev pub rem_of : IntKind → ℤ → ℤ → IntEnd
rem_of kind left right = quotient_end_of kind left right (int_rem left right)

-- ---- shifts

-- a count from 0 to below the width (6.5.7p3)
abbrev pub is_shift_count : IntKind → ℤ → Bool
is_shift_count kind count = int_le (pos 0) count && int_lt count (pos (width_of kind))

-- the left operand times a power of two: of a signed kind it isn't negative and the product is representable (6.5.7p4)
abbrev pub shifted_left_of : IntKind → ℤ → ℤ → IntEnd
shifted_left_of kind left exact =
    if is_signed kind
    then (if int_le (pos 0) left && can_represent kind exact then Value exact else Undefined LEFT_SHIFT)
    else Value (modulo_of kind exact)

abbrev pub shl_of : IntKind → ℤ → ℤ → IntEnd
shl_of kind left count =
    if is_shift_count kind count
    then shifted_left_of kind left (left *ℤ pos (2 ^ unsigned_abs count))
    else Undefined SHIFT_COUNT

-- the left operand divided by a power of two (6.5.7p5); that a negative one is rounded down too is this project's choice
abbrev pub shr_of : IntKind → ℤ → ℤ → IntEnd
shr_of kind left count =
    if is_shift_count kind count
    then Value (int_div_euclid left (pos (2 ^ unsigned_abs count)))
    else Undefined SHIFT_COUNT
