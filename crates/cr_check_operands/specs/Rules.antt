-- What the operators of C11 6.5.3 to 6.5.17 make of the values of their operands. The cases that have a result are those
-- that the constraints allow; all others are `untyped`.
use Rattle.std.specs.Prelude.{ℕ, ◌==◌, Bool, true, false, not, ◌&&◌, ◌||◌, Option, Some, None, if◌then◌else◌}
use Rattle.cr_ints.specs.declared.kind.IntKind.{IntKind}
use Rattle.cr_ints.specs.declared.kind.IntKind.TheVariants.{Bool as BoolKind, Int, Long}
use Rattle.cr_check_constants.specs.declared.constant.Constant.{Constant}
use Rattle.cr_check_constants.specs.declared.constant.Constant.TheVariants.{NotConstant, Undefined, Value}
use Rattle.cr_check_constants.specs.declared.constant.Operand.{Operand}
use Rattle.cr_check_constants.specs.declared.operator.Arithmetic.{Arithmetic}
use Rattle.cr_check_constants.specs.declared.operator.Arithmetic.TheVariants.{Add, Subtract}
use Rattle.cr_check_constants.specs.declared.operator.Shift.{Shift}
use Rattle.cr_check_constants.specs.declared.operator.Relation.{Relation}
use Rattle.cr_check_constants.specs.declared.operator.Sign.{Sign}
use Rattle.cr_check_constants.specs.Constants.{is_not_zero, beside}
use Rattle.cr_check_constants.specs.Operators.{arithmetic_of, shift_of, relation_of, logical_and_of, logical_or_of, unary_of, not_of, conditional_of, comma_of, cast_of, size_of}
use Rattle.cr_syntax.specs.declared.ctype.CType.{CType}
use Rattle.cr_syntax.specs.declared.ctype.CType.TheVariants.{Void}
use Rattle.cr_check_types.specs.Types.{Qualified, plain, pointer, array}
use Rattle.cr_check_types.specs.Relations.{are_compatible, bare, qualified, composite_of}
use Rattle.cr_check_operands.specs.declared.logic.Junction.{Junction}
use Rattle.cr_check_operands.specs.declared.logic.Junction.TheVariants.{Conjunction, Disjunction}
use Rattle.cr_check_operands.specs.Values.{Valued, number, address, structure, valueless, untyped, value_in}

-- ---- what a pointer points to

-- `void`, qualified or not
abbrev pub is_void : Qualified → Bool
is_void (plain Void c v) = true
is_void type = false

-- the qualifiers of a type; an array is qualified as its elements are (6.7.3p9)
abbrev pub constant_in : Qualified → Bool
constant_in (plain of c v) = c
constant_in (pointer c v t) = c
constant_in (array n t) = constant_in t

abbrev pub volatile_in : Qualified → Bool
volatile_in (plain of c v) = v
volatile_in (pointer c v t) = v
volatile_in (array n t) = volatile_in t

-- the type with the qualifiers of another added
abbrev pub with_qualifiers_of : Qualified → Qualified → Qualified
with_qualifiers_of from t = qualified (constant_in from) (volatile_in from) t

-- compatible, qualifiers aside
abbrev pub are_alike : Qualified → Qualified → Bool
are_alike t u = are_compatible (bare t) (bare u)

-- the pointers to them may be compared for equality, and assigned to one another where the qualifiers allow it: they are alike,
-- or one is void (6.5.9p2, 6.5.16.1p1)
abbrev pub are_related : Qualified → Qualified → Bool
are_related t u = are_alike t u || (is_void t || is_void u)

-- the first has all qualifiers of the second
abbrev pub keeps_volatile : Qualified → Qualified → Bool
keeps_volatile t u = volatile_in t || not (volatile_in u)

abbrev pub keeps_qualifiers : Qualified → Qualified → Bool
keeps_qualifiers t u = (constant_in t || not (constant_in u)) && keeps_volatile t u

-- ---- constants

-- an integer constant expression of value 0 (6.3.2.3p3)
abbrev pub is_zero : Constant → Bool
is_zero (Value value) = not (is_not_zero value)
is_zero Undefined = false
is_zero NotConstant = false

-- an int that is so much of a constant
abbrev pub int_of : Constant → Valued
int_of constant = number (record { kind = Int; constant = constant })

-- an int that is no constant
abbrev pub an_int : Valued
an_int = int_of NotConstant

-- ---- multiplicative, bitwise and shift operators (6.5.5p2, 6.5.7p2, 6.5.10p2, 6.5.11p2, 6.5.12p2): integers

abbrev pub integers_value : Arithmetic → Valued → Valued → Valued
integers_value operator (number x) (number y) = number (arithmetic_of operator x y)
integers_value operator left right = untyped

abbrev pub shifted_value : Shift → Valued → Valued → Valued
shifted_value operator (number x) (number y) = number (shift_of operator x y)
shifted_value operator left right = untyped

-- ---- additive operators (6.5.6)

-- a pointer that an integer is added to or taken from points to a complete type (p2, p3)
abbrev pub moved : (Qualified → Bool) → Qualified → Valued
moved complete t = if complete t then address t else untyped

-- 6.5.6p2
abbrev pub sum_value : (Qualified → Bool) → Valued → Valued → Valued
sum_value complete (number x) (number y) = number (arithmetic_of Add x y)
sum_value complete (address t) (number y) = moved complete t
sum_value complete (number x) (address t) = moved complete t
sum_value complete left right = untyped

-- 6.5.6p3; that the difference of two pointers is a long is this project's choice
abbrev pub distance : (Qualified → Bool) → Qualified → Qualified → Valued
distance complete t u =
    if complete t && (complete u && are_alike t u) then number (record { kind = Long; constant = NotConstant }) else untyped

abbrev pub difference_value : (Qualified → Bool) → Valued → Valued → Valued
difference_value complete (number x) (number y) = number (arithmetic_of Subtract x y)
difference_value complete (address t) (number y) = moved complete t
difference_value complete (address t) (address u) = distance complete t u
difference_value complete left right = untyped

-- ---- comparisons

-- 6.5.8p2: integers, or pointers to compatible types
abbrev pub order_value : Relation → Valued → Valued → Valued
order_value operator (number x) (number y) = number (relation_of operator x y)
order_value operator (address t) (address u) = if are_alike t u then an_int else untyped
order_value operator left right = untyped

-- 6.5.9p2: also a pointer and a pointer to void, or a null pointer constant
abbrev pub equality_value : Relation → Valued → Valued → Valued
equality_value operator (number x) (number y) = number (relation_of operator x y)
equality_value operator (address t) (address u) = if are_related t u then an_int else untyped
equality_value operator (address t) (number y) = if is_zero y.constant then an_int else untyped
equality_value operator (number x) (address u) = if is_zero x.constant then an_int else untyped
equality_value operator left right = untyped

-- ---- logical operators

-- a scalar (6.2.5p21), as a constant: a pointer is none
abbrev pub scalar_constant : Valued → Option Constant
scalar_constant (number operand) = Some operand.constant
scalar_constant (address t) = Some NotConstant
scalar_constant other = None

-- 6.5.13p2, 6.5.14p2: scalars
abbrev pub logical_constant : Junction → Constant → Constant → Constant
logical_constant Conjunction left right = logical_and_of left right
logical_constant Disjunction left right = logical_or_of left right

abbrev pub logical_by : Junction → Option Constant → Option Constant → Valued
logical_by operator (Some x) (Some y) = int_of (logical_constant operator x y)
logical_by operator left right = untyped

abbrev pub logical_value : Junction → Valued → Valued → Valued
logical_value operator left right = logical_by operator (scalar_constant left) (scalar_constant right)

-- `!` has a scalar, and `+ - ~` have an integer (6.5.3.3p1)
abbrev pub negated_by : Option Constant → Valued
negated_by (Some x) = number (not_of x)
negated_by None = untyped

abbrev pub negated_value : Valued → Valued
negated_value operand = negated_by (scalar_constant operand)

abbrev pub signed_value : Sign → Valued → Valued
signed_value operator (number x) = number (unary_of operator x)
signed_value operator other = untyped

-- ---- `?:` (6.5.15)

-- two pointers, each with whether it is a null pointer constant: where one is, the type is the other's; where they are alike, it
-- points to their composite, and else one points to void; it has the qualifiers of both (p6)
abbrev pub merged : Bool → Bool → Qualified → Qualified → Valued
merged left right t u =
    if right then address t
    else (if left then address u
    else (if are_alike t u then address (with_qualifiers_of u (composite_of t u))
    else (if is_void t then address (with_qualifiers_of u t)
    else (if is_void u then address (with_qualifiers_of t u)
    else untyped))))

-- the second and third operand (p3), by what the first is as a constant
abbrev pub chosen_value : Constant → Bool → Bool → Valued → Valued → Valued
chosen_value condition l r (number x) (number y) = number (conditional_of condition x y)
chosen_value condition l r (structure n) (structure m) = if n == m then structure n else untyped
chosen_value condition l r valueless valueless = valueless
chosen_value condition l r (address t) (address u) = merged l r t u
chosen_value condition l r (address t) (number y) = if is_zero y.constant then address t else untyped
chosen_value condition l r (number x) (address u) = if is_zero x.constant then address u else untyped
chosen_value condition l r left right = untyped

-- the first operand is a scalar (p2)
abbrev pub conditional_by : Option Constant → Bool → Bool → Valued → Valued → Valued
conditional_by (Some condition) l r left right = chosen_value condition l r left right
conditional_by None l r left right = untyped

abbrev pub conditional_value : Valued → Bool → Bool → Valued → Valued → Valued
conditional_value condition l r left right = conditional_by (scalar_constant condition) l r left right

-- ---- comma (6.5.17): the right operand, whatever the left one is

abbrev pub constant_or_none : Option Constant → Constant
constant_or_none (Some constant) = constant
constant_or_none None = NotConstant

abbrev pub comma_value : Valued → Valued → Valued
comma_value left (number y) = number (comma_of (constant_or_none (scalar_constant left)) y)
comma_value left right = right

-- ---- casts (6.5.4) and `sizeof` (6.5.3.4)

abbrev pub is_bool : IntKind → Bool
is_bool BoolKind = true
is_bool kind = false

-- a cast to an array is none; else the type is the unqualified one of the name
abbrev pub target_of : Qualified → Valued
target_of (plain of c v) = value_in (plain of c v) NotConstant
target_of (pointer c v t) = value_in (pointer c v t) NotConstant
target_of (array n t) = untyped

-- from a value to a type: to void from all that has a type, and between scalars; this project leaves out integers from pointers but
-- for `_Bool`, pointers from integers but for the constant 0, and whatever takes a `volatile` off what is pointed to
abbrev pub cast_by : Valued → Valued → Valued
cast_by valueless untyped = untyped
cast_by valueless operand = valueless
cast_by (number x) (number y) = number (cast_of x.kind y.constant)
cast_by (number x) (address u) = if is_bool x.kind then number (record { kind = x.kind; constant = NotConstant }) else untyped
cast_by (address t) (number y) = if is_zero y.constant then address t else untyped
cast_by (address t) (address u) = if keeps_volatile t u then address t else untyped
cast_by target operand = untyped

abbrev pub cast_value : Qualified → Valued → Valued
cast_value type operand = cast_by (target_of type) operand

-- the cast makes a null pointer constant: of the constant 0 to `void *` (6.3.2.3p3)
abbrev pub is_plain_void : Qualified → Bool
is_plain_void (plain Void c v) = not c && not v
is_plain_void type = false

abbrev pub is_null_by : Valued → Valued → Bool
is_null_by (address t) (number y) = is_plain_void t && is_zero y.constant
is_null_by target operand = false

abbrev pub is_null_cast_of : Qualified → Valued → Bool
is_null_cast_of type operand = is_null_by (target_of type) operand

-- a complete type of so many bytes (6.5.3.4p1)
abbrev pub size_value : Bool → ℕ → Valued
size_value complete bytes = if complete then number (size_of bytes) else untyped

-- ---- assignment (6.5.16)

-- what may be assigned to a place of a value's type (6.5.16.1p1)
abbrev pub assignable : Valued → Valued → Bool
assignable (number x) (number y) = true
assignable (number x) (address u) = is_bool x.kind
assignable (address t) (address u) = are_related t u && keeps_qualifiers t u
assignable (address t) (number y) = is_zero y.constant
assignable (structure n) (structure m) = n == m
assignable target operand = false

abbrev pub assigned_value : Bool → Valued → Valued → Valued
assigned_value modifiable target operand = if modifiable && assignable target operand then target else untyped

-- compound assignment, by whether it is `+=` or `-=`: integers, or a pointer and an integer (6.5.16.2p1, p2)
abbrev pub updated_by : (Qualified → Bool) → Bool → Valued → Valued → Valued
updated_by complete moves (number x) (number y) = number x
updated_by complete moves (address t) (number y) = if moves then moved complete t else untyped
updated_by complete moves target operand = untyped

abbrev pub updated_value : (Qualified → Bool) → Bool → Bool → Valued → Valued → Valued
updated_value complete moves modifiable target operand = if modifiable then updated_by complete moves target operand else untyped

-- `++` and `--` (6.5.2.4p1, 6.5.3.1p1)
abbrev pub stepped_by : (Qualified → Bool) → Valued → Valued
stepped_by complete (number x) = number x
stepped_by complete (address t) = moved complete t
stepped_by complete other = untyped

abbrev pub stepped_value : (Qualified → Bool) → Bool → Valued → Valued
stepped_value complete modifiable target = if modifiable then stepped_by complete target else untyped

-- an argument may be passed (6.5.2.2p2): it is assignable to its parameter, and behind the parameters, where a `...` takes it, it is not
-- void
abbrev pub is_there : Valued → Bool
is_there valueless = false
is_there other = true

abbrev pub passable : Option Qualified → Valued → Bool
passable (Some parameter) argument = assignable (value_in parameter NotConstant) argument
passable None argument = is_there argument

-- ---- what statements ask of an expression (6.8.4.1p1, 6.8.4.2p1, 6.8.5p2)

abbrev pub is_scalar_value : Valued → Bool
is_scalar_value (number x) = true
is_scalar_value (address t) = true
is_scalar_value other = false

abbrev pub is_integer_value : Valued → Bool
is_integer_value (number x) = true
is_integer_value other = false
