-- Each operation on integers gives a number of its kind's range.
use Rattle.std.proofs.Common.{◌≡◌, ℕ, ◌-◌, ◌^◌, ◌&&◌, ◌==◌, Bool, true, false, ℤ, pos, negsuc, ◌≤ℤ◌, ◌*ℤ◌, int_div, unsigned_abs, IfOk, if◌then◌else◌, refl, arith}
use Rattle.std.specs.Prelude.{int_le, bit_and, bit_or, bit_xor}
use Rattle.std.specs.Int.{int_div_euclid}
use Rattle.std.specs.Int.Signed.{le_z_yes}
use Rattle.std.proofs.lemmas.Int.{ints}
use Rattle.std.proofs.lemmas.Nat.{pow_pos}
use Rattle.cr_ints.specs.declared.kind.IntKind.{IntKind}
use Rattle.cr_ints.specs.declared.kind.IntKind.TheVariants.{Int}
use Rattle.cr_ints.specs.declared.end.IntEnd.{IntEnd}
use Rattle.cr_ints.specs.declared.end.IntEnd.TheVariants as end
use Rattle.cr_ints.specs.declared.end.TheConstants.{NOT_REPRESENTABLE, QUOTIENT_NOT_REPRESENTABLE, SHIFT_COUNT, LEFT_SHIFT}
use Rattle.cr_ints.specs.IntKind.{width_of, is_signed, least_of, greatest_of, unsigned_of, can_represent, Represents}
use Rattle.cr_ints.specs.Bits.{bits_of}
use Rattle.cr_ints.specs.Conversions.{convert_of}
use Rattle.cr_ints.specs.Operations.{IfValue, modulo_of, end_of, quotient_end_of, div_of, rem_of, is_shift_count, shl_of, shr_of, add_of, sub_of, mul_of, neg_of}
use Rattle.cr_ints.proofs.Ranges.{each, remainder, narrow_least, narrow_greatest}
use Rattle.cr_ints.proofs.Congruence.{convert_of-represents}
use Rattle.cr_ints.proofs.Quotients.{rem-represents, shr-represents}
use Rattle.cr_memory.specs.Memory.{Memory}
use Rattle.cr_meaning.specs.Values.{exactly, computed, signed_by, truth}
use Rattle.cr_meaning.specs.declared.op.Operator.{Operator}
use Rattle.cr_meaning.specs.declared.op.Operator.TheVariants as operator
use Rattle.cr_meaning.specs.declared.op.Sign.{Sign}
use Rattle.cr_meaning.specs.declared.op.Sign.TheVariants.{Plus, Minus, Complement}
use Rattle.cr_meaning_soundness.specs.Sorts.{number, Fits}

-- ---- ranges

at_most : (a b : ℤ) → int_le a b ≡ true → a ≤ℤ b
at_most a b e = le_z_yes (rw e tt)

both : (a b : Bool) → (a && b) ≡ true → (a ≡ true) × (b ≡ true)
both true b e = (refl, e)
both false b e = absurd (cc e)

representable : (kind : IntKind) (value : ℤ) → can_represent kind value ≡ true → Represents kind value
representable kind value e =
    let b = both (int_le (least_of kind) value) (int_le value (greatest_of kind)) e in
    record { from_least = at_most _ _ b.0; to_greatest = at_most _ _ b.1 }

-- zero and one are of every kind
pub zero_or_one : (kind : IntKind) (b : Bool) → Represents kind (if b then pos 1 else pos 0)
zero_or_one kind true = each (λ k. Represents k (pos 1))
    (record { from_least = omega (arith, ints); to_greatest = omega (arith, ints) }) (record { from_least = omega (arith, ints); to_greatest = omega (arith, ints) })
    (record { from_least = omega (arith, ints); to_greatest = omega (arith, ints) }) (record { from_least = omega (arith, ints); to_greatest = omega (arith, ints) })
    (record { from_least = omega (arith, ints); to_greatest = omega (arith, ints) }) (record { from_least = omega (arith, ints); to_greatest = omega (arith, ints) })
    (record { from_least = omega (arith, ints); to_greatest = omega (arith, ints) }) (record { from_least = omega (arith, ints); to_greatest = omega (arith, ints) })
    (record { from_least = omega (arith, ints); to_greatest = omega (arith, ints) }) (record { from_least = omega (arith, ints); to_greatest = omega (arith, ints) })
    (record { from_least = omega (arith, ints); to_greatest = omega (arith, ints) }) (record { from_least = omega (arith, ints); to_greatest = omega (arith, ints) }) kind
zero_or_one kind false =
    let l = narrow_least kind in let g = narrow_greatest kind in
    record { from_least = omega (arith, ints); to_greatest = omega (arith, ints) }

-- a reduced value is of an unsigned kind
reduced : (kind : IntKind) (exact : ℤ) → is_signed kind ≡ false → Represents kind (modulo_of kind exact)
reduced kind exact e =
    let r = remainder exact (2 ^ width_of kind) (pow_pos (width_of kind)) in
    let h = r.below in
    let m : modulo_of kind exact ≡ pos r.value = r.is in
    let l : least_of kind ≡ pos 0 = rw e refl in
    let g : greatest_of kind ≡ pos (2 ^ width_of kind - 1) = rw e refl in
    rw m (record { from_least = rw l (omega (arith, ints)); to_greatest = rw g (omega (arith, ints)) })

-- ---- ends of operations

by_test : (b : Bool) (value : ℤ) (P : ℤ → Type 0) (other : IntEnd) → IfValue other P → (b ≡ true → P value) → IfValue (if b then end.Value value else other) P
by_test true value P other o h = h refl
by_test false value P other o h = o

by_sign : (b : Bool) (P : ℤ → Type 0) (one other : IntEnd) → (b ≡ true → IfValue one P) → (b ≡ false → IfValue other P) → IfValue (if b then one else other) P
by_sign true P one other h k = h refl
by_sign false P one other h k = k refl

end_represents : (kind : IntKind) (exact : ℤ) → IfValue (end_of kind exact) (Represents kind)
end_represents kind exact =
    by_sign (is_signed kind) (Represents kind) _ _
    (λ e. by_test (can_represent kind exact) exact (Represents kind) (end.Undefined NOT_REPRESENTABLE) tt (representable kind exact))
    (λ e. reduced kind exact e)

quotient_represents : (kind : IntKind) (left right result : ℤ) → (can_represent kind (int_div left right) ≡ true → Represents kind result)
    → IfValue (quotient_end_of kind left right result) (Represents kind)
quotient_represents kind left right result h =
    by_sign (unsigned_abs right == 0) (Represents kind) _ _ (λ e. tt)
    (λ e. by_test (can_represent kind (int_div left right)) result (Represents kind) (end.Undefined QUOTIENT_NOT_REPRESENTABLE) tt h)

left_represents : (kind : IntKind) (left count : ℤ) → IfValue (shl_of kind left count) (Represents kind)
left_represents kind left count =
    let exact = left *ℤ pos (2 ^ unsigned_abs count) in
    by_sign (is_shift_count kind count) (Represents kind) _ _
    (λ e. by_sign (is_signed kind) (Represents kind) _ _
    (λ s. by_test (int_le (pos 0) left && can_represent kind exact) exact (Represents kind) (end.Undefined LEFT_SHIFT) tt
    (λ t. representable kind exact (both (int_le (pos 0) left) (can_represent kind exact) t).1))
    (λ s. reduced kind exact s))
    (λ e. tt)

divided : (kind : IntKind) (left : ℤ) (divisor : ℕ) → Represents kind left → Represents kind (int_div_euclid left (pos divisor))
divided kind (pos a) divisor h = shr-represents kind (pos a) divisor h
divided kind (negsuc a) divisor h = shr-represents kind (negsuc a) divisor h

right_represents : (kind : IntKind) (left count : ℤ) → Represents kind left → IfValue (shr_of kind left count) (Represents kind)
right_represents kind left count h =
    by_test (is_shift_count kind count) _ (Represents kind) (end.Undefined SHIFT_COUNT) tt (λ e. divided kind left (2 ^ unsigned_abs count) h)

-- ---- values

pub truth_fits : (memory : Memory) (b : Bool) → Fits memory (number Int) (truth b)
truth_fits memory b = (refl, zero_or_one Int b)

exactly_fits : (memory : Memory) (kind : IntKind) (result : IntEnd) → IfValue result (Represents kind) → IfOk (exactly kind result) (Fits memory (number kind))
exactly_fits memory kind (end.Value value) h = (refl, h)
exactly_fits memory kind (end.Undefined case) h = tt

pub computed_fits : (memory : Memory) (op : Operator) (kind : IntKind) (left right : ℤ) → IfOk (computed op kind left right) (Fits memory (number kind))
computed_fits memory operator.Multiply kind left right = exactly_fits memory kind (mul_of kind (convert_of left kind) (convert_of right kind)) (end_represents kind _)
computed_fits memory operator.Divide kind left right =
    exactly_fits memory kind (div_of kind (convert_of left kind) (convert_of right kind)) (quotient_represents kind (convert_of left kind) (convert_of right kind) _ (representable kind _))
computed_fits memory operator.Remainder kind left right =
    exactly_fits memory kind (rem_of kind (convert_of left kind) (convert_of right kind))
    (quotient_represents kind (convert_of left kind) (convert_of right kind) _ (λ e. rem-represents kind (convert_of left kind) (convert_of right kind) (convert_of-represents left kind)))
computed_fits memory operator.Add kind left right = exactly_fits memory kind (add_of kind (convert_of left kind) (convert_of right kind)) (end_represents kind _)
computed_fits memory operator.Subtract kind left right = exactly_fits memory kind (sub_of kind (convert_of left kind) (convert_of right kind)) (end_represents kind _)
computed_fits memory operator.ShiftLeft kind left right = exactly_fits memory kind (shl_of kind (convert_of left kind) right) (left_represents kind (convert_of left kind) right)
computed_fits memory operator.ShiftRight kind left right =
    exactly_fits memory kind (shr_of kind (convert_of left kind) right) (right_represents kind (convert_of left kind) right (convert_of-represents left kind))
computed_fits memory operator.And kind left right = (refl, convert_of-represents (pos (bit_and (bits_of kind (convert_of left kind)) (bits_of kind (convert_of right kind)))) kind)
computed_fits memory operator.Xor kind left right = (refl, convert_of-represents (pos (bit_xor (bits_of kind (convert_of left kind)) (bits_of kind (convert_of right kind)))) kind)
computed_fits memory operator.Or kind left right = (refl, convert_of-represents (pos (bit_or (bits_of kind (convert_of left kind)) (bits_of kind (convert_of right kind)))) kind)

pub signed_fits : (memory : Memory) (sign : Sign) (kind : IntKind) (value : ℤ) → IfOk (signed_by sign kind value) (Fits memory (number kind))
signed_fits memory Plus kind value = (refl, convert_of-represents value kind)
signed_fits memory Minus kind value = exactly_fits memory kind (neg_of kind (convert_of value kind)) (end_represents kind _)
signed_fits memory Complement kind value = (refl, convert_of-represents (pos (unsigned_abs (greatest_of (unsigned_of kind)) - bits_of kind (convert_of value kind))) kind)
