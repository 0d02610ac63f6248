-- What an expression of integer type is as an integer constant expression (C11 6.6p6), and what its operands make of it.
use Rattle.std.specs.Prelude.{ℤ, pos, ◌==◌, unsigned_abs, Bool, not, if◌then◌else◌}
use Rattle.cr_ints.specs.declared.kind.IntKind.{IntKind}
use Rattle.cr_ints.specs.declared.end.IntEnd.{IntEnd}
use Rattle.cr_ints.specs.declared.end.IntEnd.TheVariants.{Value as Ended, Undefined as Endless}
use Rattle.cr_ints.specs.Conversions.{convert_of, promote_of, common_of}
use Rattle.cr_check_constants.specs.declared.constant.Constant.{Constant}
use Rattle.cr_check_constants.specs.declared.constant.Constant.TheVariants.{NotConstant, Undefined, Value}

-- ---- values

-- the value converted to a kind (6.3.1.2, 6.3.1.3)
unfoldable pub in_kind : IntKind → ℤ → ℤ
in_kind kind value = convert_of value kind

-- the kind after the integer promotions (6.3.1.1p2)
unfoldable pub promoted_kind : IntKind → IntKind
promoted_kind kind = promote_of kind

-- the kind in which two operands are used (the usual arithmetic conversions, 6.3.1.8p1)
unfoldable pub common_kind : IntKind → IntKind → IntKind
common_kind left right = common_of left right

-- the value is not 0
abbrev pub is_not_zero : ℤ → Bool
is_not_zero value = not (unsigned_abs value == 0)

-- 1 where it is so, else 0 (6.5.8p6)
abbrev pub truth_of : Bool → Constant
truth_of so = if so then Value (pos 1) else Value (pos 0)

-- ---- operands together

-- how an operation on integers ends, as a constant
abbrev pub constant_of : IntEnd → Constant
constant_of (Ended value) = Value value
constant_of (Endless number) = Undefined

-- what a function of its value makes of an operand
abbrev pub one : (ℤ → Constant) → Constant → Constant
one f (Value value) = f value
one f Undefined = Undefined
one f NotConstant = NotConstant

-- what a function of two values makes of two operands that are both evaluated
abbrev pub both : (ℤ → ℤ → Constant) → Constant → Constant → Constant
both f (Value left) (Value right) = f left right
both f (Value left) Undefined = Undefined
both f (Value left) NotConstant = NotConstant
both f Undefined (Value right) = Undefined
both f Undefined Undefined = Undefined
both f Undefined NotConstant = NotConstant
both f NotConstant right = NotConstant

-- an operand that isn't evaluated still has to be made of constants (6.6p6): the answer, if the operand is
abbrev pub beside : Constant → Constant → Constant
beside (Value value) answer = answer
beside Undefined answer = answer
beside NotConstant answer = NotConstant
