-- Places: which may be assigned to, and what the operators of C11 6.5.1, 6.5.2 and 6.5.3.2 make of and to them.
use Rattle.std.specs.Prelude.{ℕ, Bool, true, false, not, ◌&&◌, Option, Some, None, List, slice_index_or, if◌then◌else◌}
use Rattle.cr_ints.specs.declared.kind.IntKind.TheVariants.{Char}
use Rattle.cr_check_constants.specs.declared.constant.Constant.TheVariants.{NotConstant}
use Rattle.cr_syntax.specs.declared.ctype.CType.{CType}
use Rattle.cr_syntax.specs.declared.ctype.CType.TheVariants.{Int, Struct}
use Rattle.cr_check_types.specs.Types.{Qualified, plain, pointer, array}
use Rattle.cr_check_operands.specs.Values.{Valued, number, address, structure, valueless, untyped, Seen, no_type, seen_of, place_of, value_in}
use Rattle.cr_check_operands.specs.Rules.{with_qualifiers_of, assigned_value, updated_value, stepped_value}

-- ---- modifiable places (6.3.2.1p1)

-- the structures that have a constant member, also in a member or an element of one
abbrev pub is_fixed : (ℕ → Bool) → CType → Bool
is_fixed fixed (Struct node) = fixed node
is_fixed fixed other = false

-- no array, not constant, and no structure with a constant member
abbrev pub is_changeable : (ℕ → Bool) → Qualified → Bool
is_changeable fixed (plain of c v) = not c && not (is_fixed fixed of)
is_changeable fixed (pointer c v t) = not c
is_changeable fixed (array n t) = false

abbrev pub is_modifiable_seen : (Qualified → Bool) → (ℕ → Bool) → Seen → Bool
is_modifiable_seen complete fixed seen = seen.lvalue && (is_changeable fixed seen.type && complete seen.type)

-- the value that an assignment to a place gives: of the place's type, and no constant (6.5.16p3)
abbrev pub stored_value : Seen → Valued
stored_value seen = value_in seen.type NotConstant

-- 6.5.16.1
abbrev pub assigned : (Qualified → Bool) → (ℕ → Bool) → Seen → Valued → Valued
assigned complete fixed left right = assigned_value (is_modifiable_seen complete fixed left) (stored_value left) right

-- 6.5.16.2
abbrev pub updated : (Qualified → Bool) → (ℕ → Bool) → Bool → Seen → Valued → Valued
updated complete fixed moves left right = updated_value complete moves (is_modifiable_seen complete fixed left) (stored_value left) right

-- 6.5.2.4, 6.5.3.1
abbrev pub stepped : (Qualified → Bool) → (ℕ → Bool) → Seen → Valued
stepped complete fixed operand = stepped_value complete (is_modifiable_seen complete fixed operand) (stored_value operand)

-- ---- addresses (6.5.3.2)

-- unary `&` has a place that isn't declared `register` (p1)
abbrev pub address_value : Seen → Valued
address_value seen = if seen.lvalue && not seen.register then address seen.type else untyped

-- unary `*` has a pointer to a complete type (p2; that the type is complete is this project's choice)
abbrev pub followed : (Qualified → Bool) → Qualified → Seen
followed complete t = if complete t then place_of t false else no_type

abbrev pub dereferenced : (Qualified → Bool) → Valued → Seen
dereferenced complete (address t) = followed complete t
dereferenced complete other = no_type

-- 6.5.2.1p1: a pointer to a complete type and an integer, in either order
abbrev pub subscripted : (Qualified → Bool) → Valued → Valued → Seen
subscripted complete (address t) (number y) = followed complete t
subscripted complete (number x) (address t) = followed complete t
subscripted complete left right = no_type

-- ---- members (6.5.2.3)

-- the structure of a type, in which a member is looked for
abbrev pub structure_by : CType → Option ℕ
structure_by (Struct node) = Some node
structure_by other = None

abbrev pub structure_in : Qualified → Option ℕ
structure_in (plain of c v) = structure_by of
structure_in (pointer c v t) = None
structure_in (array n t) = None

abbrev pub found_by : (ℕ → Qualified) → Option ℕ → Option Qualified
found_by look None = None
found_by look (Some row) = Some (look row)

-- the member has the qualifiers of the whole too (p3, p4)
abbrev pub member_in : Option Qualified → Qualified → Bool → Bool → Seen
member_in None whole lvalue register = no_type
member_in (Some type) whole lvalue register =
    record { type = with_qualifiers_of whole type; lvalue = lvalue; register = register; constant = NotConstant; null = false }

-- `.`: a place where the structure is one, and part of its object
abbrev pub member_of : Option Qualified → Seen → Seen
member_of found whole = member_in found whole.type whole.lvalue whole.register

-- `->`: a place in what the pointer points to
abbrev pub pointed_member_of : Option Qualified → Valued → Seen
pointed_member_of found (address t) = member_in found t true false
pointed_member_of found other = no_type

-- ---- what has no operands (6.5.1)

-- a string literal is an array of char (6.4.5p6)
abbrev pub text_of : ℕ → Seen
text_of count = place_of (array count (plain (Int Char) false false)) false
