-- Which expressions are address constants (C11 6.6p9). It is 6.6p9 alone: a sum of an address constant and an integer is none here.
use Rattle.std.specs.Prelude.{Bool, true, false, ◌&&◌, ◌||◌, if◌then◌else◌}
use Rattle.cr_check_constants.specs.declared.constant.Constant.{Constant}
use Rattle.cr_check_constants.specs.declared.constant.Constant.TheVariants.{NotConstant, Undefined, Value}
use Rattle.cr_check_types.specs.Types.{Qualified, plain, pointer, array}
use Rattle.cr_check_operands.specs.Rules.{is_zero}
use Rattle.cr_check_initialisers.specs.declared.anchor.Anchor.{Anchor}
use Rattle.cr_check_initialisers.specs.declared.anchor.Anchor.TheVariants.{Moving, Place, Address}

-- an integer constant expression (6.6p6)
abbrev pub is_value : Constant → Bool
is_value (Value value) = true
is_value Undefined = false
is_value NotConstant = false

-- the value is an address constant: the expression's own, or that of the first element of the array that it is (6.3.2.1p3). What any
-- other place holds would be accessed
abbrev pub is_address : Anchor → Qualified → Bool
is_address Address type = true
is_address Place (array n t) = true
is_address Place (plain of c v) = false
is_address Place (pointer c v t) = false
is_address Moving type = false

-- what is reached through an address, by `*`, `->` or `[]`: a place where that is constant
abbrev pub reached : Bool → Anchor
reached constant = if constant then Place else Moving

-- `&` of a place
abbrev pub address_of : Anchor → Anchor
address_of Place = Address
address_of Address = Moving
address_of Moving = Moving

-- `.`: part of a place
abbrev pub member_of : Anchor → Anchor
member_of Place = Place
member_of Address = Moving
member_of Moving = Moving

-- `[]`: an address constant and an integer constant expression, in either order
abbrev pub subscripted : Bool → Constant → Bool → Constant → Anchor
subscripted left x right y = reached ((left && is_value y) || (right && is_value x))

abbrev pub is_array : Qualified → Bool
is_array (plain of c v) = false
is_array (pointer c v t) = false
is_array (array n t) = true

abbrev pub is_pointer : Qualified → Bool
is_pointer (plain of c v) = false
is_pointer (pointer c v t) = true
is_pointer (array n t) = false

-- a cast to a pointer type: of an address constant, or of the constant 0, which gives a null pointer
abbrev pub cast_to : Qualified → Bool → Constant → Anchor
cast_to type address constant = if is_pointer type && (address || is_zero constant) then Address else Moving
