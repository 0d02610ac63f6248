-- What an expression has, and its value after the conversions of C11 6.3.2.1.
use Rattle.std.specs.Prelude.{◌≡◌, ℕ, suc, ◌<◌, List, Bool, true, false, length, if◌then◌else◌}
use Rattle.cr_check_constants.specs.declared.constant.Constant.{Constant}
use Rattle.cr_check_constants.specs.declared.constant.Constant.TheVariants.{NotConstant}
use Rattle.cr_check_constants.specs.declared.constant.Operand.{Operand}
use Rattle.cr_syntax.specs.declared.ctype.CType.{CType}
use Rattle.cr_syntax.specs.declared.ctype.CType.TheVariants.{Void, Int, Struct, Unknown}
use Rattle.cr_check_types.specs.declared.shape.Shape.{Shape}
use Rattle.cr_check_types.specs.Types.{Qualified, plain, pointer, array, unknown, type_at}
use Rattle.cr_check_operands.specs.declared.value.Value.{Value}
use Rattle.cr_check_operands.specs.declared.value.Value.TheVariants as value
use Rattle.cr_check_operands.specs.declared.fact.Fact.{Fact}

-- ---- values

-- an integer with what it is as a constant, the address of what has a type, a structure by its node, an array that is no place, as a
-- whole, what a void expression has (6.3.2.2), or what an expression without a type has
pub data Valued : Type 0 where
  number : Operand → Valued
  address : Qualified → Valued
  structure : ℕ → Valued
  whole : Qualified → Valued
  valueless : Valued
  untyped : Valued

-- a value by the types of rows
abbrev pub valued_by : (ℕ → Qualified) → Value → Valued
valued_by look (value.Integer operand) = number operand
valued_by look (value.Pointer row) = address (look row)
valued_by look (value.Structure node) = structure node
valued_by look (value.Array row) = whole (look row)
valued_by look value.Void = valueless
valued_by look value.Unknown = untyped

abbrev pub valued_at : List Shape → Value → Valued
valued_at shapes v = valued_by (type_at shapes) v

-- a value names rows below this number
abbrev pub room_of : Value → ℕ
room_of (value.Pointer row) = suc row
room_of (value.Array row) = suc row
room_of (value.Integer operand) = 0
room_of (value.Structure node) = 0
room_of value.Void = 0
room_of value.Unknown = 0

-- the value of a place of a type: what is stored in it, without qualifiers (6.3.2.1p2), and of an array the address of its first
-- element (p3); a function is no value here
abbrev pub plain_value : CType → Constant → Valued
plain_value (Int kind) constant = number (record { kind = kind; constant = constant })
plain_value Void constant = valueless
plain_value (Struct node) constant = structure node
plain_value other constant = untyped

abbrev pub value_in : Qualified → Constant → Valued
value_in (plain of c v) constant = plain_value of constant
value_in (pointer c v t) constant = address t
value_in (array n t) constant = address t

-- the value of an expression of a type that is no place: an array stays one. 6.3.2.1p3 would make it an address too; that it isn't
-- one is this project's choice
abbrev pub value_beside_places : Qualified → Constant → Valued
value_beside_places (plain of c v) constant = plain_value of constant
value_beside_places (pointer c v t) constant = address t
value_beside_places (array n t) constant = whole (array n t)

-- the type of a value, and what it is as a constant
abbrev pub type_of_value : Valued → Qualified
type_of_value (number operand) = plain (Int operand.kind) false false
type_of_value (address t) = pointer false false t
type_of_value (structure node) = plain (Struct node) false false
type_of_value (whole t) = t
type_of_value valueless = plain Void false false
type_of_value untyped = unknown

abbrev pub constant_of_value : Valued → Constant
constant_of_value (number operand) = operand.constant
constant_of_value (address t) = NotConstant
constant_of_value (structure node) = NotConstant
constant_of_value (whole t) = NotConstant
constant_of_value valueless = NotConstant
constant_of_value untyped = NotConstant

-- ---- expressions

-- what an expression has: its type, whether it is a place (an lvalue, 6.3.2.1p1), whether that place is part of an object
-- declared `register`, what it is as a constant, and whether it is the constant 0 cast to `void *` (6.3.2.3p3)
pub record Seen : Type 0 where
  pub type : Qualified
  pub lvalue : Bool
  pub register : Bool
  pub constant : Constant
  pub null : Bool

abbrev pub seen_by : (ℕ → Qualified) → Fact → Seen
seen_by look fact =
    record { type = look fact.row; lvalue = fact.lvalue; register = fact.register; constant = fact.constant; null = fact.null }

abbrev pub seen_at : List Shape → Fact → Seen
seen_at shapes fact = seen_by (type_at shapes) fact

-- what has no type
abbrev pub no_type : Seen
no_type = record { type = unknown; lvalue = false; register = false; constant = NotConstant; null = false }

-- an expression that is no place
abbrev pub seen_of : Valued → Bool → Seen
seen_of v null =
    record { type = type_of_value v; lvalue = false; register = false; constant = constant_of_value v; null = null }

-- a place of a type
abbrev pub place_of : Qualified → Bool → Seen
place_of type register = record { type = type; lvalue = true; register = register; constant = NotConstant; null = false }

abbrev pub value_of_seen : Seen → Valued
value_of_seen seen = if seen.lvalue then value_in seen.type seen.constant else value_beside_places seen.type seen.constant

-- the fact is in the table, and stands for this
pub record IsSeen (shapes : List Shape) (fact : Fact) (seen : Seen) : Type 0 where
  pub within : fact.row < length shapes
  pub is : seen_at shapes fact ≡ seen
