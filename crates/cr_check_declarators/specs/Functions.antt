-- Parameters, the types of functions, and those of the library (C11 6.7.6.3, 7.21.6.3, 7.21.7.8, 7.22.4.1, 7.22.4.4).
use Rattle.std.specs.Prelude.{ℕ, Bool, true, false, not, ◌&&◌, Option, Some, None, List, [], ◌∷◌, codes, map, if◌then◌else◌}
use Rattle.std.specs.Str.{bytes_eq}
use Rattle.cr_ints.specs.declared.kind.IntKind.{IntKind}
use Rattle.cr_ints.specs.declared.kind.IntKind.TheVariants as kind
use Rattle.cr_syntax.specs.declared.ctype.CType.{CType}
use Rattle.cr_syntax.specs.declared.ctype.CType.TheVariants as type
use Rattle.cr_check_types.specs.declared.shape.Shape.{Shape}
use Rattle.cr_check_types.specs.Types.{Qualified, plain, pointer, array, type_at}
use Rattle.cr_check_types.specs.Relations.{are_compatible, bare, same}
use Rattle.cr_check_declarators.specs.declared.functions.Signature.{Signature}
use Rattle.cr_check_declarators.specs.declared.functions.Library.{Library}
use Rattle.cr_check_declarators.specs.declared.functions.Library.TheVariants.{Printf, Putchar, Abort, Exit}

-- a parameter that is declared as an array is a pointer to its elements (6.7.6.3p7); one that is declared as a function breaks K8
abbrev pub adjusted_type : Qualified → Qualified
adjusted_type (plain of c v) = plain of c v
adjusted_type (pointer c v t) = pointer c v t
adjusted_type (array n t) = pointer false false t

-- the parameters of two functions: as many, and compatible without their own qualifiers (6.7.6.3p15)
abbrev pub parameters_agree : List Qualified → List Qualified → Bool
parameters_agree [] [] = true
parameters_agree (t ∷ ts) (u ∷ us) = are_compatible (bare t) (bare u) && parameters_agree ts us
parameters_agree [] (u ∷ us) = false
parameters_agree (t ∷ ts) [] = false

-- the type of a function: its result, whether `...` stands behind its parameters, and these, adjusted. An empty list in a definition
-- has no parameters (own).
pub record Prototype : Type 0 where
  pub result : Qualified
  pub variadic : Bool
  pub parameters : List Qualified

abbrev pub prototype_at : List Shape → Signature → List ℕ → Prototype
prototype_at shapes signature parameters = record {
  result = type_at shapes signature.result;
  variadic = signature.variadic;
  parameters = map (type_at shapes) parameters;
}

-- K9: the types of two functions are compatible (6.7.6.3p15)
abbrev pub functions_agree : Prototype → Prototype → Bool
functions_agree one other =
    same one.variadic other.variadic && (are_compatible one.result other.result && parameters_agree one.parameters other.parameters)

-- ---- the library

abbrev pub library_of : List ℕ → Option Library
library_of name =
    if bytes_eq name (codes "printf") then Some Printf
    else (if bytes_eq name (codes "putchar") then Some Putchar
    else (if bytes_eq name (codes "abort") then Some Abort
    else (if bytes_eq name (codes "exit") then Some Exit
    else None)))

abbrev pub is_char : IntKind → Bool
is_char kind.Char = true
is_char other = false

abbrev pub is_int_kind : IntKind → Bool
is_int_kind kind.Int = true
is_int_kind other = false

abbrev pub is_int_leaf : CType → Bool
is_int_leaf (type.Int k) = is_int_kind k
is_int_leaf other = false

abbrev pub is_char_leaf : CType → Bool
is_char_leaf (type.Int k) = is_char k
is_char_leaf other = false

abbrev pub is_void_leaf : CType → Bool
is_void_leaf type.Void = true
is_void_leaf other = false

abbrev pub is_int : Qualified → Bool
is_int (plain of c v) = is_int_leaf of
is_int type = false

abbrev pub is_plain_int : Qualified → Bool
is_plain_int (plain of c v) = is_int_leaf of && (not c && not v)
is_plain_int type = false

abbrev pub is_plain_void : Qualified → Bool
is_plain_void (plain of c v) = is_void_leaf of && (not c && not v)
is_plain_void type = false

abbrev pub is_constant_char : Qualified → Bool
is_constant_char (plain of c v) = is_char_leaf of && (c && not v)
is_constant_char type = false

-- a parameter of type `const char *`, whatever its own qualifiers (6.7.6.3p15)
abbrev pub is_format : Qualified → Bool
is_format (pointer c v t) = is_constant_char t
is_format type = false

abbrev pub takes_one : Bool → List Qualified → Bool
takes_one format [] = false
takes_one format (t ∷ []) = if format then is_format t else is_int t
takes_one format (t ∷ u ∷ ts) = false

abbrev pub takes_none : List Qualified → Bool
takes_none [] = true
takes_none (t ∷ ts) = false

-- K9: `int printf(const char *, ...)`, `int putchar(int)`, `void abort(void)`, `void exit(int)`
abbrev pub library_type : Library → Prototype → Bool
library_type Printf t = is_plain_int t.result && (t.variadic && takes_one true t.parameters)
library_type Putchar t = is_plain_int t.result && (not t.variadic && takes_one false t.parameters)
library_type Abort t = is_plain_void t.result && (not t.variadic && takes_none t.parameters)
library_type Exit t = is_plain_void t.result && (not t.variadic && takes_one false t.parameters)
