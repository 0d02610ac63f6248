-- What compatible types have in common (C11 6.2.7p1), by which a call and a definition fit each other.
use Rattle.std.specs.Prelude.{false, map}
use Rattle.cr_syntax.specs.declared.ctype.CType.TheVariants.{Void}
use Rattle.cr_check_types.specs.Types.{Qualified, plain, pointer, array}
use Rattle.cr_check_linkage.specs.NameTypes.{NameType, of_object, of_function, of_none}

-- the word that a type is, or that it is a pointer or an array; its qualifiers aside
abbrev pub head : Qualified → Qualified
head (plain of c v) = plain of false false
head (pointer c v t) = pointer false false (plain Void false false)
head (array n t) = array 0 (plain Void false false)

-- of the type of a name: of a function, what it gives, and its parameters, one by one
abbrev pub outline : NameType → NameType
outline (of_object type) = of_object (head type)
outline (of_function f) = of_function (record { result = head f.result; variadic = f.variadic; parameters = map head f.parameters })
outline of_none = of_none
