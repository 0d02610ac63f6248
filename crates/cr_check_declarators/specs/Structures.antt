-- Structures, enumerations and their tags (C11 6.7.2.1 to 6.7.2.3).
use Rattle.std.specs.Prelude.{ℕ, ℤ, pos, int_lt, nat_lt, Bool, true, false, not, ◌&&◌, ◌||◌, Option, Some, None, List, fold, if◌then◌else◌}
use Rattle.std.specs.List.{list_any}
use Rattle.std.specs.Option.{is_some}
use Rattle.cr_check_constants.specs.Operators.{enumerator_of, next_enumerator_of}
use Rattle.cr_ints.specs.declared.kind.IntKind.{IntKind}
use Rattle.cr_ints.specs.declared.kind.IntKind.TheVariants.{Int, UInt}
use Rattle.cr_syntax.specs.declared.node.Kind.{Kind}
use Rattle.cr_syntax.specs.declared.node.Kind.TheVariants.{EnumContent, EnumTag}
use Rattle.cr_syntax.specs.declared.ctype.CType.{CType}
use Rattle.cr_syntax.specs.declared.ctype.CType.TheVariants as type
use Rattle.cr_check_types.specs.declared.layout.Layout.{Layout}
use Rattle.cr_check_types.specs.Types.{Qualified, plain, pointer, array}
use Rattle.cr_check_types.specs.Layouts.{layout_of, with_member, nothing, closed}
use Rattle.cr_check_declarators.specs.Declarators.{most_cells}
use Rattle.cr_check_declarators.specs.declared.enumerators.Enumerated.{Enumerated}
use Rattle.cr_check_declarators.specs.declared.enumerators.Given.{Given}
use Rattle.cr_check_declarators.specs.declared.enumerators.Given.TheVariants as given

-- ---- structures

-- members of these types one behind another (6.7.2.1p15), and the whole (p17)
abbrev pub members_of : List Layout → List Qualified → Layout
members_of layouts members = fold (λ before t. with_member before (layout_of layouts t)) nothing members

abbrev pub laid_out : List Layout → List Qualified → Layout
laid_out layouts members = closed (members_of layouts members)

-- a structure that isn't modifiable for a constant member, also in a member or an element of one (6.3.2.1p1)
abbrev pub is_constant_leaf : (ℕ → Bool) → CType → Bool
is_constant_leaf fixed (type.Struct node) = fixed node
is_constant_leaf fixed other = false

abbrev pub holds_constant : (ℕ → Bool) → Qualified → Bool
holds_constant fixed (plain of c v) = c || is_constant_leaf fixed of
holds_constant fixed (pointer c v t) = c
holds_constant fixed (array n t) = holds_constant fixed t

abbrev pub has_constant : (ℕ → Bool) → List Qualified → Bool
has_constant fixed members = list_any (holds_constant fixed) members

-- K7: no more cells than an array may have
abbrev pub is_too_large_of : Layout → Bool
is_too_large_of layout = nat_lt most_cells layout.cells

-- ---- enumerations (6.7.2.2)

-- what its expression gives, one more than the one before it, or 0 (p3)
abbrev pub next_of : Option ℤ → Option ℤ
next_of (Some value) = next_enumerator_of value
next_of None = None

abbrev pub value_by : Option Enumerated → Given → Option ℤ
value_by before (given.Expression constant) = enumerator_of constant
value_by before given.Untyped = None
value_by (Some last) given.Nothing = next_of last.value
value_by None given.Nothing = Some (pos 0)

-- K15: it is an integer constant expression in int (p2), judged where the expression has a type, and the one before a value
abbrev pub is_missing : Option Enumerated → Given → Option ℤ → Bool
is_missing before given.Untyped value = false
is_missing (Some last) given.Nothing value = is_some last.value && not (is_some value)
is_missing None given.Nothing value = not (is_some value)
is_missing before (given.Expression constant) value = not (is_some value)

abbrev pub is_negative : Option ℤ → Bool
is_negative (Some value) = int_lt value (pos 0)
is_negative None = false

abbrev pub was_negative : Option Enumerated → Bool
was_negative (Some last) = last.negative
was_negative None = false

abbrev pub enumerated_of : Option Enumerated → Given → Enumerated
enumerated_of before g = record {
  value = value_by before g;
  negative = was_negative before || is_negative (value_by before g);
  broken = is_missing before g (value_by before g);
}

-- the type that an enumerated type is: unsigned int where no enumerator is negative, else int (p4; own)
abbrev pub enumeration_kind : Bool → IntKind
enumeration_kind negative = if negative then Int else UInt

-- ---- tags (6.7.2.3)

abbrev pub is_enumeration : Kind → Bool
is_enumeration EnumContent = true
is_enumeration EnumTag = true
is_enumeration kind = false

-- K5: a tag is used as it is declared first (p2), and an enumeration without list behind its list (p3)
abbrev pub tag_agrees : Kind → Kind → Bool → Bool
tag_agrees EnumTag first listed = is_enumeration first && listed
tag_agrees EnumContent first listed = is_enumeration first
tag_agrees kind first listed = not (is_enumeration first)
