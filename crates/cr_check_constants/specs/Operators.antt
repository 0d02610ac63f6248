-- The operators of integer constant expressions (C11 6.6p3 and p6), over the operations on integers.
use Rattle.std.specs.Prelude.{ℕ, ℤ, pos, ◌+ℤ◌, ◌-ℤ◌, negsuc, Bool, not, int_le, int_lt, bit_and, bit_or, bit_xor, unsigned_abs, Option, Some, None, if◌then◌else◌}
use Rattle.std.specs.Int.{int_rem_euclid}
use Rattle.std.specs.Ordering.{int_eq}
use Rattle.cr_ints.specs.declared.kind.IntKind.{IntKind}
use Rattle.cr_ints.specs.declared.kind.IntKind.TheVariants.{Int, ULong}
use Rattle.cr_ints.specs.IntKind.{modulus_of, is_signed, greatest_of, can_represent}
use Rattle.cr_ints.specs.Operations.{add_of, sub_of, mul_of, div_of, rem_of, shl_of, shr_of}
use Rattle.cr_check_constants.specs.declared.constant.Constant.{Constant}
use Rattle.cr_check_constants.specs.declared.constant.Constant.TheVariants.{NotConstant, Undefined, Value}
use Rattle.cr_check_constants.specs.declared.constant.Operand.{Operand}
use Rattle.cr_check_constants.specs.declared.operator.Arithmetic.{Arithmetic}
use Rattle.cr_check_constants.specs.declared.operator.Arithmetic.TheVariants.{Add, Subtract, Multiply, Divide, Remainder, And, Xor, Or}
use Rattle.cr_check_constants.specs.declared.operator.Shift.{Shift}
use Rattle.cr_check_constants.specs.declared.operator.Shift.TheVariants.{Left, Right}
use Rattle.cr_check_constants.specs.declared.operator.Relation.{Relation}
use Rattle.cr_check_constants.specs.declared.operator.Relation.TheVariants.{Equal, NotEqual, Less, Greater, LessEqual, GreaterEqual}
use Rattle.cr_check_constants.specs.declared.operator.Sign.{Sign}
use Rattle.cr_check_constants.specs.declared.operator.Sign.TheVariants.{Plus, Minus, Complement}
use Rattle.cr_check_constants.specs.Constants.{in_kind, promoted_kind, common_kind, is_not_zero, truth_of, constant_of, one, both, beside}

-- ---- binary operators

-- the bits of a value of the kind (6.2.6.2p2), as a number: two's complement where it is negative
abbrev pub bits_of : IntKind → ℤ → ℕ
bits_of kind value = unsigned_abs (int_rem_euclid value (modulus_of kind))

-- the value of the kind that has these bits
abbrev pub with_bits : IntKind → ℕ → Constant
with_bits kind bits = Value (in_kind kind (pos bits))

-- the operation on two values of the kind (6.5.5, 6.5.6, 6.5.10 to 6.5.12)
unfoldable pub computed : Arithmetic → IntKind → ℤ → ℤ → Constant
computed Add kind left right = constant_of (add_of kind left right)
computed Subtract kind left right = constant_of (sub_of kind left right)
computed Multiply kind left right = constant_of (mul_of kind left right)
computed Divide kind left right = constant_of (div_of kind left right)
computed Remainder kind left right = constant_of (rem_of kind left right)
computed And kind left right = with_bits kind (bit_and (bits_of kind left) (bits_of kind right))
computed Xor kind left right = with_bits kind (bit_xor (bits_of kind left) (bits_of kind right))
computed Or kind left right = with_bits kind (bit_or (bits_of kind left) (bits_of kind right))

-- `* / % + - & ^ |` of two operands of integer types
abbrev pub arithmetic_of : Arithmetic → Operand → Operand → Operand
arithmetic_of operator left right =
    let kind = common_kind left.kind right.kind in
    record {
      kind = kind;
      constant = both (λ x y. computed operator kind (in_kind kind x) (in_kind kind y)) left.constant right.constant;
    }

-- the shift of a value of the kind by a count (6.5.7)
unfoldable pub moved : Shift → IntKind → ℤ → ℤ → Constant
moved Left kind left count = constant_of (shl_of kind left count)
moved Right kind left count = constant_of (shr_of kind left count)

-- `<< >>`: each operand is promoted by itself, and the result has the left one's kind (6.5.7p3)
abbrev pub shift_of : Shift → Operand → Operand → Operand
shift_of operator left right =
    let kind = promoted_kind left.kind in
    record {
      kind = kind;
      constant =
          both (λ x y. moved operator kind (in_kind kind x) (in_kind (promoted_kind right.kind) y)) left.constant right.constant;
    }

-- the comparison of two values (6.5.8p6, 6.5.9p3)
abbrev pub holds : Relation → ℤ → ℤ → Bool
holds Equal left right = int_eq left right
holds NotEqual left right = not (int_eq left right)
holds Less left right = int_lt left right
holds Greater left right = int_lt right left
holds LessEqual left right = int_le left right
holds GreaterEqual left right = int_le right left

-- `< > <= >= == !=` of two operands of integer types: an int
abbrev pub relation_of : Relation → Operand → Operand → Operand
relation_of operator left right =
    let kind = common_kind left.kind right.kind in
    record {
      kind = Int;
      constant = both (λ x y. truth_of (holds operator (in_kind kind x) (in_kind kind y))) left.constant right.constant;
    }

-- ---- operators whose right operand isn't always evaluated

-- `&&`: the right operand is evaluated where the left one isn't 0 (6.5.13p3, p4)
abbrev pub logical_and_of : Constant → Constant → Constant
logical_and_of (Value left) right =
    if is_not_zero left then one (λ y. truth_of (is_not_zero y)) right else beside right (Value (pos 0))
logical_and_of Undefined right = beside right Undefined
logical_and_of NotConstant right = NotConstant

-- `||`: the right operand is evaluated where the left one is 0 (6.5.14p3, p4)
abbrev pub logical_or_of : Constant → Constant → Constant
logical_or_of (Value left) right =
    if is_not_zero left then beside right (Value (pos 1)) else one (λ y. truth_of (is_not_zero y)) right
logical_or_of Undefined right = beside right Undefined
logical_or_of NotConstant right = NotConstant

-- `?:`: the second operand where the first isn't 0, else the third, in the common kind of both (6.5.15p4, p5)
abbrev pub chosen : Constant → Constant → Constant → Constant
chosen (Value condition) left right = if is_not_zero condition then beside right left else beside left right
chosen Undefined left right = beside left (beside right Undefined)
chosen NotConstant left right = NotConstant

abbrev pub conditional_of : Constant → Operand → Operand → Operand
conditional_of condition left right =
    let kind = common_kind left.kind right.kind in
    record { kind = kind; constant = one (λ z. Value (in_kind kind z)) (chosen condition left.constant right.constant) }

-- a comma may stand in what isn't evaluated (6.6p3), and an expression with one has no value where it is
abbrev pub comma_of : Constant → Operand → Operand
comma_of left right = record { kind = right.kind; constant = beside left (beside right.constant Undefined) }

-- ---- unary operators

-- each bit is set where the value's isn't (6.5.3.3p4): of an unsigned value the greatest one less it, and of a signed
-- one -1 less it, by two's complement
abbrev pub complement_of : IntKind → ℤ → ℤ
complement_of kind value = if is_signed kind then negsuc 0 -ℤ value else greatest_of kind -ℤ value

-- 6.5.3.3p2 to p4
unfoldable pub signed_by : Sign → IntKind → ℤ → Constant
signed_by Plus kind value = Value value
signed_by Minus kind value = constant_of (sub_of kind (pos 0) value)
signed_by Complement kind value = Value (complement_of kind value)

-- `+ - ~`: the operand is promoted
abbrev pub unary_of : Sign → Operand → Operand
unary_of operator operand =
    let kind = promoted_kind operand.kind in
    record { kind = kind; constant = one (λ x. signed_by operator kind (in_kind kind x)) operand.constant }

-- `!`: an int (6.5.3.3p5)
abbrev pub not_of : Constant → Operand
not_of operand =
    record { kind = Int; constant = one (λ x. truth_of (not (is_not_zero x))) operand }

-- a cast of an expression of integer type to an integer type (6.5.4, 6.6p6)
abbrev pub cast_of : IntKind → Constant → Operand
cast_of kind operand = record { kind = kind; constant = one (λ x. Value (in_kind kind x)) operand }

-- ---- what has no operands

-- `sizeof` of a type of so many bytes (6.5.3.4p5; that its type is unsigned long is this project's choice)
abbrev pub size_of : ℕ → Operand
size_of bytes = record { kind = ULong; constant = Value (pos bytes) }

-- the enumerator that a constant expression gives, which has to be in int (6.7.2.2p2)
abbrev pub enumerator_of : Constant → Option ℤ
enumerator_of (Value value) = if can_represent Int value then Some value else None
enumerator_of Undefined = None
enumerator_of NotConstant = None

-- the enumerator without an expression behind one of this value (6.7.2.2p3)
abbrev pub next_enumerator_of : ℤ → Option ℤ
next_enumerator_of value = enumerator_of (Value (value +ℤ pos 1))
