-- What holds of the range of every kind.
use Rattle.std.proofs.Common.{◌≡◌, ℕ, ◌-◌, ◌%◌, ◌<◌, ◌^◌, ℤ, pos, negsuc, ◌+ℤ◌, ◌-ℤ◌, ◌≤ℤ◌, refl, arith, true, ◌≤◌, unsigned_abs, FitsSigned}
use Rattle.std.proofs.lemmas.Int.{ints}
use Rattle.std.proofs.lemmas.Nat.{pow_pos}
use Rattle.std.specs.Int.{int_rem_euclid, w128}
use Rattle.cr_ints.specs.declared.kind.IntKind.{IntKind}
use Rattle.cr_ints.specs.declared.kind.IntKind.TheVariants.{Bool as BoolKind, Char, SChar, UChar, Short, UShort, Int, UInt, Long, ULong, LLong, ULLong}
use Rattle.cr_ints.specs.IntKind.{width_of, modulus_of, is_signed, least_of, greatest_of, Represents, IsInteger}
use Rattle.cr_ints.specs.Conversions.{wrapped}

-- a fact that holds of each kind
pub each : (P : IntKind → Type 0) → P BoolKind → P Char → P SChar → P UChar → P Short → P UShort → P Int → P UInt → P Long → P ULong → P LLong → P ULLong → (kind : IntKind) → P kind
each P a b c d e f g h i j k l BoolKind = a
each P a b c d e f g h i j k l Char = b
each P a b c d e f g h i j k l SChar = c
each P a b c d e f g h i j k l UChar = d
each P a b c d e f g h i j k l Short = e
each P a b c d e f g h i j k l UShort = f
each P a b c d e f g h i j k l Int = g
each P a b c d e f g h i j k l UInt = h
each P a b c d e f g h i j k l Long = i
each P a b c d e f g h i j k l ULong = j
each P a b c d e f g h i j k l LLong = k
each P a b c d e f g h i j k l ULLong = l

-- the range has as many values as the width allows
pub greatest_from_least : (kind : IntKind) → greatest_of kind ≡ least_of kind +ℤ pos (2 ^ width_of kind - 1)
greatest_from_least = each (λ kind. greatest_of kind ≡ least_of kind +ℤ pos (2 ^ width_of kind - 1)) refl refl refl refl refl refl refl refl refl refl refl refl

pub record Remainder (z : ℤ) (m : ℕ) : Type 0 where
  pub value : ℕ
  pub is : int_rem_euclid z (pos m) ≡ pos value
  pub below : value < m

pub remainder : (z : ℤ) (m : ℕ) → 0 < m → Remainder z m
remainder (pos a) m h = record { value = a % m; is = refl; below = omega arith }
remainder (negsuc a) m h = record { value = m - 1 - a % m; is = refl; below = omega arith }

-- a wrapped value lies in the range
pub wrapped-represents : (kind : IntKind) (value : ℤ) → Represents kind (wrapped kind value)
wrapped-represents kind value =
    let r = remainder (value -ℤ least_of kind) (2 ^ width_of kind) (pow_pos (width_of kind)) in
    let e : wrapped kind value ≡ least_of kind +ℤ pos r.value = rw r.is refl in
    let g = greatest_from_least kind in
    let h = r.below in
    rw e (record { from_least = omega (arith, ints); to_greatest = omega (arith, ints) })

-- every value of a kind fits the code's numbers
pub represented_fits : (kind : IntKind) (value : ℤ) → Represents kind value → FitsSigned w128 value
represented_fits = each (λ kind. (value : ℤ) → Represents kind value → FitsSigned w128 value)
    (λ v h. omega (arith, ints)) (λ v h. omega (arith, ints)) (λ v h. omega (arith, ints)) (λ v h. omega (arith, ints))
    (λ v h. omega (arith, ints)) (λ v h. omega (arith, ints)) (λ v h. omega (arith, ints)) (λ v h. omega (arith, ints))
    (λ v h. omega (arith, ints)) (λ v h. omega (arith, ints)) (λ v h. omega (arith, ints)) (λ v h. omega (arith, ints))

-- the least value and the number of values are small beside what the code's numbers hold
pub narrow_least : (kind : IntKind) → (negsuc (2 ^ 63 - 1) ≤ℤ least_of kind) × (least_of kind ≤ℤ pos 0)
narrow_least = each (λ kind. (negsuc (2 ^ 63 - 1) ≤ℤ least_of kind) × (least_of kind ≤ℤ pos 0))
    (omega arith, omega arith) (omega arith, omega arith) (omega arith, omega arith) (omega arith, omega arith)
    (omega arith, omega arith) (omega arith, omega arith) (omega arith, omega arith) (omega arith, omega arith)
    (omega arith, omega arith) (omega arith, omega arith) (omega arith, omega arith) (omega arith, omega arith)

pub narrow_greatest : (kind : IntKind) → (pos 0 ≤ℤ greatest_of kind) × (greatest_of kind ≤ℤ pos (2 ^ 64 - 1))
narrow_greatest = each (λ kind. (pos 0 ≤ℤ greatest_of kind) × (greatest_of kind ≤ℤ pos (2 ^ 64 - 1)))
    (omega arith, omega arith) (omega arith, omega arith) (omega arith, omega arith) (omega arith, omega arith)
    (omega arith, omega arith) (omega arith, omega arith) (omega arith, omega arith) (omega arith, omega arith)
    (omega arith, omega arith) (omega arith, omega arith) (omega arith, omega arith) (omega arith, omega arith)

-- a value of a kind lies between the extremes of all kinds
pub represented_integer : (kind : IntKind) (value : ℤ) → Represents kind value → IsInteger value
represented_integer kind value h =
    let l = narrow_least kind in let g = narrow_greatest kind in
    record { from_least = omega (arith, ints); to_greatest = omega (arith, ints) }

-- a value of a signed kind is at most 2^63 away from 0
pub signed_size : (kind : IntKind) (value : ℤ) → is_signed kind ≡ true → Represents kind value → unsigned_abs value ≤ 2 ^ 63
signed_size = each (λ kind. (value : ℤ) → is_signed kind ≡ true → Represents kind value → unsigned_abs value ≤ 2 ^ 63)
    (λ v s h. cc) (λ v s h. omega (arith, ints)) (λ v s h. omega (arith, ints)) (λ v s h. cc)
    (λ v s h. omega (arith, ints)) (λ v s h. cc) (λ v s h. omega (arith, ints)) (λ v s h. cc)
    (λ v s h. omega (arith, ints)) (λ v s h. cc) (λ v s h. omega (arith, ints)) (λ v s h. cc)
