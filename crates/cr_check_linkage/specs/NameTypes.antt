-- The type that a name is declared with, what two declarations of it agree in, and their composite (C11 6.2.7, 6.7.6.3p15).
use Rattle.std.specs.Prelude.{◌≡◌, ◌<◌, ◌&&◌, ℕ, List, [], ◌∷◌, Bool, true, false, not, Option, None, Some, length, map, if◌then◌else◌}
use Rattle.std.specs.List.{list_all}
use Rattle.cr_check_types.specs.declared.shape.Shape.{Shape}
use Rattle.cr_check_types.specs.Types.{Qualified, type_at}
use Rattle.cr_check_types.specs.Relations.{AreRows, are_compatible, bare, composite_of}
use Rattle.cr_check_expressions.specs.declared.known.Declared.{Declared}
use Rattle.cr_check_expressions.specs.declared.known.Declared.TheVariants.{Object, Enumerator, Function, TypeName, Unclear}
use Rattle.cr_check_expressions.specs.Ruled.{is_type}
use Rattle.cr_check_declarators.specs.declared.functions.Library.{Library}
use Rattle.cr_check_declarators.specs.Functions.{Prototype, functions_agree, library_type}
use Rattle.cr_check_linkage.specs.declared.name_type.NameRows.{NameRows}

-- that of an object, that of a function (6.2.5p1), or of a name that is neither
pub data NameType : Type 0 where
  of_object : Qualified → NameType
  of_function : Prototype → NameType
  of_none : NameType

-- by what a name is declared as: the type of the object, or of what the function gives, and those of its parameters
abbrev pub type_as : Declared → Qualified → List Qualified → NameType
type_as (Object row register) type parameters = of_object type
type_as (Function row more) type parameters = of_function (record { result = type; variadic = more; parameters = parameters })
type_as (Enumerator value) type parameters = of_none
type_as TypeName type parameters = of_none
type_as Unclear type parameters = of_none

-- the type of the object, or of what the function gives; of another name the given one
abbrev pub type_or : Qualified → NameType → Qualified
type_or other (of_object type) = type
type_or other (of_function function) = function.result
type_or other of_none = other

-- the types of the parameters of the function; of another name the given ones
abbrev pub parameters_or : List Qualified → NameType → List Qualified
parameters_or others (of_object type) = others
parameters_or others (of_function function) = function.parameters
parameters_or others of_none = others

-- ---- compatible types

abbrev pub types_agree : NameType → NameType → Bool
types_agree (of_object t) (of_object u) = are_compatible t u
types_agree (of_function f) (of_function g) = functions_agree f g
types_agree (of_object t) (of_function g) = false
types_agree (of_object t) of_none = false
types_agree (of_function f) (of_object u) = false
types_agree (of_function f) of_none = false
types_agree of_none other = false

-- ---- the composite of two compatible types (6.2.7p3)

-- parameters are taken without their own qualifiers (6.7.6.3p15)
abbrev pub composite_parameters : List Qualified → List Qualified → List Qualified
composite_parameters (t ∷ ts) (u ∷ us) = composite_of (bare t) (bare u) ∷ composite_parameters ts us
composite_parameters [] us = []
composite_parameters (t ∷ ts) [] = []

abbrev pub composite_function : Prototype → Prototype → Prototype
composite_function f g = record {
  result = composite_of f.result g.result;
  variadic = g.variadic;
  parameters = composite_parameters f.parameters g.parameters;
}

abbrev pub composite_type : NameType → NameType → NameType
composite_type (of_object t) (of_object u) = of_object (composite_of t u)
composite_type (of_function f) (of_function g) = of_function (composite_function f g)
composite_type (of_object t) (of_function g) = of_function g
composite_type (of_object t) of_none = of_none
composite_type (of_function f) (of_object u) = of_object u
composite_type (of_function f) of_none = of_none
composite_type of_none other = other

-- A later declaration has what the earlier ones tell of its type: their composite, if they are compatible. Else it has its own type.
abbrev pub joined_type : NameType → NameType → NameType
joined_type earlier own = if types_agree earlier own then composite_type earlier own else own

-- ---- known types

-- all types that it speaks of are there
abbrev pub is_known : NameType → Bool
is_known (of_object type) = is_type type
is_known (of_function function) = is_type function.result && list_all is_type function.parameters
is_known of_none = false

-- K9: of two declarations of one name (6.2.7p2, 6.7p4), the earlier one also as the composite of several
abbrev pub disagrees : NameType → NameType → Bool
disagrees earlier now = is_known earlier && (is_known now && not (types_agree earlier now))

-- ---- the library

abbrev pub has_library_type : Library → NameType → Bool
has_library_type library (of_function function) = library_type library function
has_library_type library (of_object type) = false
has_library_type library of_none = false

-- K9: of a name of the library
abbrev pub is_misdeclared : Option Library → NameType → Bool
is_misdeclared None now = false
is_misdeclared (Some library) now = is_known now && not (has_library_type library now)

-- ---- by rows

abbrev pub name_type : List Shape → NameRows → NameType
name_type shapes name = type_as name.declared (type_at shapes name.row) (map (type_at shapes) name.parameters.now)

-- the rows are there
pub record AreNameRows (shapes : List Shape) (name : NameRows) : Type 0 where
  pub within : name.row < length shapes
  pub parameters : AreRows shapes name.parameters.now
