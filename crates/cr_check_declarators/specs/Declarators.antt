-- What declarators make of the type of their specifiers (C11 6.7.6), and what the constraints ask of arrays and functions.
use Rattle.std.specs.Prelude.{ℕ, ◌*◌, ◌-◌, ◌^◌, ◌==◌, ℤ, pos, negsuc, Bool, true, false, not, ◌&&◌, ◌||◌, Option, Some, None, nat_lt, if◌then◌else◌}
use Rattle.std.specs.Option.{is_some}
use Rattle.cr_check_constants.specs.declared.constant.Constant.{Constant}
use Rattle.cr_check_constants.specs.declared.constant.Constant.TheVariants.{NotConstant, Undefined, Value}
use Rattle.cr_check_enclosing.specs.declared.context.Place.{Place}
use Rattle.cr_check_enclosing.specs.declared.context.Place.TheVariants as place
use Rattle.cr_syntax.specs.declared.ctype.CType.{CType}
use Rattle.cr_syntax.specs.declared.ctype.CType.TheVariants as type
use Rattle.cr_check_types.specs.Types.{Qualified, plain, pointer, array, unknown}
use Rattle.cr_check_types.specs.Relations.{turned}
use Rattle.cr_check_types.specs.declared.layout.Layout.{Layout}
use Rattle.cr_check_types.specs.Layouts.{fitted}
use Rattle.cr_check_declarators.specs.declared.words.Class.{Class}
use Rattle.cr_check_declarators.specs.declared.words.Class.TheVariants as class
use Rattle.cr_check_declarators.specs.declared.declarator.Size.{Size}
use Rattle.cr_check_declarators.specs.declared.declarator.Size.TheVariants as size
use Rattle.cr_check_declarators.specs.declared.declarator.Arrays.{Arrays}
use Rattle.cr_check_declarators.specs.declared.declarator.Declarator.{Declarator}
use Rattle.cr_check_declarators.specs.Specifiers.{first_of}

-- the most cells that an array or a structure has (own)
abbrev pub most_cells : ℕ
most_cells = 1048576

-- ---- sizes of arrays

-- K7: an integer constant expression above 0 (6.7.6.2p1)
abbrev pub size_in : ℤ → Size
size_in (pos number) = if number == 0 then size.Wrong else (if nat_lt (2 ^ 64 - 1) number then size.Wrong else size.Known number)
size_in (negsuc number) = size.Wrong

abbrev pub constant_size : Constant → Size
constant_size (Value value) = size_in value
constant_size Undefined = size.Wrong
constant_size NotConstant = size.Wrong

-- what stands between brackets, by whether it has a type, and what it is as a constant
abbrev pub size_of : Bool → Constant → Size
size_of typed constant = if typed then constant_size constant else size.Untyped

-- ---- declarators, from the name outwards

abbrev pub no_arrays : Arrays
no_arrays = record { count = 1; bracket = None }

-- a name alone
abbrev pub name_alone : Declarator
name_alone = record {
  function = None;
  empty = false;
  misplaced = false;
  untyped = false;
  wrong = None;
  sizeless = None;
  volatile = None;
  arrays = no_arrays;
  overfull = None;
}

-- An array's cells are those of all its elements. Of arrays of arrays the outermost has the most; its bracket is the first. So that
-- is where one has too many, if any has (K7).
abbrev pub has_too_many : Arrays → ℕ → Bool
has_too_many arrays cells = nat_lt most_cells (fitted (arrays.count * cells))

abbrev pub overfull_of : Option ℕ → Arrays → ℕ → Option ℕ
overfull_of before arrays cells = if has_too_many arrays cells then first_of before arrays.bracket else before

-- 6.7.6.1: the arrays so far are arrays of pointers, of one cell each
abbrev pub pointer_of : Declarator → Option ℕ → Declarator
pointer_of inner volatile = record inner {
  arrays = no_arrays;
  overfull = overfull_of inner.overfull inner.arrays 1;
  volatile = first_of volatile inner.volatile;
}

-- 6.7.6.2: arrays of arrays
abbrev pub with_array : Arrays → ℕ → ℕ → Arrays
with_array arrays bracket count = record { count = fitted (arrays.count * count); bracket = first_of arrays.bracket (Some bracket) }

abbrev pub array_of : Declarator → ℕ → Size → Declarator
array_of inner bracket size.Open = record inner { sizeless = first_of inner.sizeless (Some bracket) }
array_of inner bracket size.Untyped = record inner { untyped = true }
array_of inner bracket size.Wrong = record inner { wrong = first_of inner.wrong (Some bracket) }
array_of inner bracket (size.Known count) = record inner { arrays = with_array inner.arrays bracket count }

-- 6.7.6.3: next to the name it makes the name a function, and what is derived further out is derived for the result; elsewhere no
-- function may be derived (K8)
abbrev pub function_by : Option ℕ → Bool → Declarator → ℕ → Bool → Declarator
function_by None true inner node empty = record inner { function = Some node; empty = empty }
function_by None false inner node empty = record inner { misplaced = true }
function_by (Some other) bare inner node empty = record inner { misplaced = true }

abbrev pub function_of : Declarator → Bool → ℕ → Bool → Declarator
function_of inner bare node empty = function_by inner.function bare inner node empty

-- ---- what is declared

-- the place of the name
abbrev pub hole : Qualified
hole = plain type.Void false false

abbrev pub is_hole_type : Qualified → Bool
is_hole_type (plain of c v) = true
is_hole_type (pointer c v t) = false
is_hole_type (array n t) = false

abbrev pub is_unknown_leaf : CType → Bool
is_unknown_leaf type.Unknown = true
is_unknown_leaf other = false

abbrev pub is_unknown : Qualified → Bool
is_unknown (plain of c v) = is_unknown_leaf of
is_unknown (pointer c v t) = false
is_unknown (array n t) = false

-- the declarator breaks a constraint by itself, or a size has no type
abbrev pub is_refused : Declarator → Bool
is_refused declarator = declarator.misplaced || (declarator.untyped || is_some declarator.wrong)

abbrev pub is_unjudged : Declarator → Qualified → Bool
is_unjudged declarator base = is_refused declarator || is_unknown base

-- the type of the name, or of its function's result, by the derivations and the type of the specifiers
abbrev pub declared_type : Declarator → Qualified → Qualified → Qualified
declared_type declarator derivations base = if is_unjudged declarator base then unknown else turned derivations base

-- ---- complete types (K6)

-- each array of the derivations has elements of a complete type (6.7.6.2p1), by whether the type so far is complete; whatever else the
-- declarator breaks by itself
abbrev pub are_whole : Bool → Qualified → Bool
are_whole complete (plain of c v) = true
are_whole complete (pointer c v t) = are_whole true t
are_whole complete (array n t) = complete && are_whole (not (n == 0)) t

abbrev pub whole_elements : (Qualified → Bool) → Qualified → Qualified → Bool
whole_elements complete derivations base = is_unknown base || are_whole (complete base) derivations

-- an object, a member or a defined parameter has a complete type (6.7p7, 6.7.2.1p3, 6.7.6.3p4); for an array of unknown size that is
-- asked by K14 alone
abbrev pub whole_leaf : (Qualified → Bool) → CType → Bool → Bool → Bool
whole_leaf complete type.Unknown c v = true
whole_leaf complete of c v = complete (plain of c v)

abbrev pub whole_object : (Qualified → Bool) → Qualified → Bool
whole_object complete (plain of c v) = whole_leaf complete of c v
whole_object complete (pointer c v t) = complete (pointer c v t)
whole_object complete (array n t) = n == 0 || complete (array n t)

-- which declarations are judged so: those of members, and those of objects, also with `extern` (own: 6.7p7 asks it of a name without
-- linkage alone); what is declared as a function is judged by K8
abbrev pub declares_type : Option Class → Bool
declares_type (Some class.Typedef) = true
declares_type other = false

abbrev pub is_object_of : Place → Option Class → Bool → Bool
is_object_of place.Member class function = not function
is_object_of place.File class function = not function && not (declares_type class)
is_object_of place.Block class function = not function && not (declares_type class)
is_object_of place.Clause class function = not function && not (declares_type class)
is_object_of other class function = false

-- ---- sizes (K7)

abbrev pub cells_fault_of : Declarator → Layout → Option ℕ
cells_fault_of declarator base = overfull_of declarator.overfull declarator.arrays base.cells

-- ---- functions (K8)

-- void or a scalar (own; 6.7.6.3p1 forbids functions and arrays alone)
abbrev pub may_return_leaf : CType → Bool
may_return_leaf type.Void = true
may_return_leaf (type.Int kind) = true
may_return_leaf type.Unknown = true
may_return_leaf other = false

abbrev pub may_return : Qualified → Bool
may_return (plain of c v) = may_return_leaf of
may_return (pointer c v t) = true
may_return (array n t) = false

-- a function is declared: not a type, a parameter or a member; and an empty list of parameters stands only in a definition
abbrev pub is_declared : Place → Bool → Bool → Bool
is_declared place.Definition typedef empty = true
is_declared place.File typedef empty = not typedef && not empty
is_declared place.Block typedef empty = not typedef && not empty
is_declared place.Clause typedef empty = not typedef && not empty
is_declared other typedef empty = false

abbrev pub function_fault_of : Declarator → Place → Bool → Qualified → Bool
function_fault_of declarator at typedef result =
    if is_some declarator.function
    then declarator.misplaced || (not (is_declared at typedef declarator.empty) || not (may_return result))
    else declarator.misplaced

-- ---- arrays of unknown size (K14)

abbrev pub is_extern : Option Class → Bool
is_extern (Some class.Extern) = true
is_extern other = false

-- in a parameter, or in a declaration with `extern`
abbrev pub may_be_open : Place → Option Class → Bool
may_be_open place.Parameter class = true
may_be_open at class = is_extern class

abbrev pub open_fault_of : Declarator → Place → Option Class → Bool → Option ℕ
open_fault_of declarator at class initialised = if initialised || may_be_open at class then None else declarator.sizeless
