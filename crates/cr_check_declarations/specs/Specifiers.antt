-- What specifiers say, and the type that they name (C11 6.7.1 to 6.7.4, 6.7.8).
use Rattle.std.specs.Prelude.{ℕ, ◌-◌, List, Bool, true, false, Option, None, Some, fold, length, slice_get, if◌then◌else◌}
use Rattle.cr_syntax.specs.declared.node.Kind.{Kind}
use Rattle.cr_syntax.specs.declared.node.Kind.TheVariants as kind
use Rattle.cr_syntax.specs.declared.node.Node.{Node}
use Rattle.cr_syntax.specs.declared.ctype.CType.TheVariants as type
use Rattle.cr_check_types.specs.Types.{Qualified, plain, unknown}
use Rattle.cr_check_declarators.specs.declared.words.Base.{Base}
use Rattle.cr_check_declarators.specs.declared.words.Base.TheVariants as base
use Rattle.cr_check_declarators.specs.declared.words.Specified.{Specified}
use Rattle.cr_check_declarators.specs.declared.enumerators.Enumerated.{Enumerated}
use Rattle.cr_check_declarators.specs.Specifiers.{nothing, specified_by, joined_of, named_type}
use Rattle.cr_check_declarators.specs.Structures.{enumeration_kind}
use Rattle.cr_check_declarations.specs.declared.tree.Tag.{Tag}
use Rattle.cr_check_declarations.specs.Before.{Before, type_in, enumerated_in}

-- ---- what they say

abbrev pub tag_declares : Option Tag → Bool
tag_declares None = false
tag_declares (Some tag) = tag.declares

-- a specifier declares enumerators or a tag
abbrev pub declares_by : Kind → Option Tag → Bool
declares_by kind.EnumContent tag = true
declares_by k tag = tag_declares tag

abbrev pub joined_in : (ℕ → Specified) → List ℕ → Specified
joined_in at parts = fold (λ said part. joined_of said (at part)) nothing parts

abbrev pub are_specifiers : Kind → Bool
are_specifiers kind.Specifiers = true
are_specifiers kind.PlainSpecifiers = true
are_specifiers k = false

-- several specifiers say what each of them says; what is no specifier says nothing
abbrev pub said_by : Kind → (ℕ → Specified) → Option Tag → Node → Specified
said_by k at tag n = if are_specifiers k then joined_in at n.parts else specified_by k n.first (declares_by k tag)

-- ---- the type that they name

-- a structure is named by the specifier with its content, or by the first that declares it
abbrev pub structure_by : ℕ → Option ℕ → Qualified
structure_by first None = plain (type.Struct first) false false
structure_by first (Some content) = plain (type.Struct content) false false

abbrev pub structure_of : Option Tag → Qualified
structure_of None = unknown
structure_of (Some tag) = structure_by tag.first tag.content

-- an enumeration has the type that it has where its list ended
abbrev pub content_of : Option Tag → Option ℕ
content_of None = None
content_of (Some tag) = tag.content

abbrev pub was_negative : Option Enumerated → Bool
was_negative None = false
was_negative (Some last) = last.negative

-- of the last of the parts
abbrev pub last_part : List ℕ → Option ℕ
last_part parts = slice_get parts (length parts - 1)

abbrev pub enumeration : Option Enumerated → Qualified
enumeration last = plain (type.Int (enumeration_kind (was_negative last))) false false

-- the type of a specifier of a structure, an enumeration or a typedef name
abbrev pub given_by : Kind → Option Tag → Option ℕ → Before → ℕ → Node → Qualified
given_by kind.StructContent tag visible b i n = plain (type.Struct i) false false
given_by kind.StructTag tag visible b i n = structure_of tag
given_by kind.EnumContent tag visible b i n = enumeration (enumerated_in b.enumerated (last_part n.parts))
given_by kind.EnumTag tag visible b i n = type_in b.named (content_of tag)
given_by kind.TypedefName tag visible b i n = type_in b.named visible
given_by k tag visible b i n = unknown

abbrev pub is_given : Base → Bool
is_given base.Given = true
is_given other = false

-- that of several is that of the one among them
abbrev pub given_in : Before → List ℕ → Qualified
given_in b parts = fold (λ given part. if is_given (b.specified part).base then b.named part else given) unknown parts

-- the type of specifiers that say `own`
abbrev pub given_of : Kind → Option Tag → Option ℕ → Before → ℕ → Node → Qualified
given_of kind.Specifiers tag visible b i n = given_in b n.parts
given_of kind.PlainSpecifiers tag visible b i n = given_in b n.parts
given_of k tag visible b i n = given_by k tag visible b i n

abbrev pub specified_type : Specified → Kind → Option Tag → Option ℕ → Before → ℕ → Node → Qualified
specified_type own k tag visible b i n = named_type own (given_of k tag visible b i n)
