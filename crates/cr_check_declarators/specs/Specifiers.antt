-- What the specifiers of a declaration say (C11 6.7.1 to 6.7.4): the type that they name, which of them may stand where.
use Rattle.std.specs.Prelude.{ℕ, Bool, true, false, not, ◌&&◌, ◌||◌, Option, Some, None, if◌then◌else◌}
use Rattle.std.specs.Option.{is_some}
use Rattle.cr_ints.specs.declared.kind.IntKind.TheVariants as kind
use Rattle.cr_check_enclosing.specs.declared.context.Place.{Place}
use Rattle.cr_check_enclosing.specs.declared.context.Place.TheVariants as place
use Rattle.cr_syntax.specs.declared.node.Kind.{Kind}
use Rattle.cr_syntax.specs.declared.node.Kind.TheVariants as node
use Rattle.cr_syntax.specs.declared.ctype.CType.{CType}
use Rattle.cr_syntax.specs.declared.ctype.CType.TheVariants as type
use Rattle.cr_check_types.specs.Types.{Qualified, plain, pointer, array, unknown}
use Rattle.cr_check_types.specs.Relations.{qualified}
use Rattle.cr_check_declarators.specs.declared.words.Base.{Base}
use Rattle.cr_check_declarators.specs.declared.words.Base.TheVariants as base
use Rattle.cr_check_declarators.specs.declared.words.Length.{Length}
use Rattle.cr_check_declarators.specs.declared.words.Length.TheVariants as lengths
use Rattle.cr_check_declarators.specs.declared.words.Sign.{Sign}
use Rattle.cr_check_declarators.specs.declared.words.Sign.TheVariants as sign
use Rattle.cr_check_declarators.specs.declared.words.Class.{Class}
use Rattle.cr_check_declarators.specs.declared.words.Class.TheVariants as class
use Rattle.cr_check_declarators.specs.declared.words.Storage.{Storage}
use Rattle.cr_check_declarators.specs.declared.words.Specified.{Specified}
use Rattle.cr_check_declarators.specs.declared.named.Leaf.{Leaf}
use Rattle.cr_check_declarators.specs.declared.named.Leaf.TheVariants as leaf

-- ---- what single specifiers say

abbrev pub nothing : Specified
nothing = record {
  base = base.Unsaid;
  length = lengths.Unsaid;
  sign = sign.Unsaid;
  constant = false;
  volatile = None;
  storage = None;
  inline = None;
  declares = false;
}

abbrev pub is_typedef_word : Class → Bool
is_typedef_word class.Typedef = true
is_typedef_word other = false

abbrev pub stored : Class → ℕ → Specified
stored class token =
    record nothing { storage = Some (record { class = class; token = token; second = None; typedefs = is_typedef_word class }) }

-- structures and enumerations, with or without their content, and typedef names have a type that is given
abbrev pub base_of : Kind → Base
base_of node.Void = base.Void
base_of node.Char = base.Char
base_of node.Int = base.Int
base_of node.Bool = base.Bool
base_of node.StructContent = base.Given
base_of node.StructTag = base.Given
base_of node.EnumContent = base.Given
base_of node.EnumTag = base.Given
base_of node.TypedefName = base.Given
base_of kind = base.Unsaid

-- by its kind and token, and whether it declares a tag or enumerators
abbrev pub specified_by : Kind → ℕ → Bool → Specified
specified_by node.Typedef token declares = stored class.Typedef token
specified_by node.Extern token declares = stored class.Extern token
specified_by node.Static token declares = stored class.Static token
specified_by node.Auto token declares = stored class.Auto token
specified_by node.Register token declares = stored class.Register token
specified_by node.Inline token declares = record nothing { inline = Some token }
specified_by node.Const token declares = record nothing { constant = true }
specified_by node.Volatile token declares = record nothing { volatile = Some token }
specified_by node.Short token declares = record nothing { length = lengths.Short }
specified_by node.Long token declares = record nothing { length = lengths.Long }
specified_by node.Signed token declares = record nothing { sign = sign.Signed }
specified_by node.Unsigned token declares = record nothing { sign = sign.Unsigned }
specified_by kind token declares = record nothing { base = base_of kind; declares = declares }

-- ---- what several say together: they may stand in any order (6.7.2p2)

-- the first of two tokens that is there
abbrev pub first_of : Option ℕ → Option ℕ → Option ℕ
first_of (Some token) other = Some token
first_of None other = other

abbrev pub both_bases : Base → Base → Base
both_bases base.Unsaid other = other
both_bases one base.Unsaid = one
both_bases one other = base.Several

abbrev pub both_lengths : Length → Length → Length
both_lengths lengths.Unsaid other = other
both_lengths one lengths.Unsaid = one
both_lengths lengths.Long lengths.Long = lengths.LongLong
both_lengths one other = lengths.Several

abbrev pub both_signs : Sign → Sign → Sign
both_signs sign.Unsaid other = other
both_signs one sign.Unsaid = one
both_signs one other = sign.Several

abbrev pub both_storages : Option Storage → Option Storage → Option Storage
both_storages None other = other
both_storages (Some one) None = Some one
both_storages (Some one) (Some other) =
    Some (record one { second = first_of one.second (Some other.token); typedefs = one.typedefs || other.typedefs })

abbrev pub joined_of : Specified → Specified → Specified
joined_of one other = record {
  base = both_bases one.base other.base;
  length = both_lengths one.length other.length;
  sign = both_signs one.sign other.sign;
  constant = one.constant || other.constant;
  volatile = first_of one.volatile other.volatile;
  storage = both_storages one.storage other.storage;
  inline = first_of one.inline other.inline;
  declares = one.declares || other.declares;
}

-- ---- the type that they name

-- the integer types other than those of characters and `_Bool` (6.7.2p2)
abbrev pub integer_by : Length → Sign → Leaf
integer_by lengths.Short sign.Unsaid = leaf.Integer kind.Short
integer_by lengths.Short sign.Signed = leaf.Integer kind.Short
integer_by lengths.Short sign.Unsigned = leaf.Integer kind.UShort
integer_by lengths.Unsaid sign.Unsaid = leaf.Integer kind.Int
integer_by lengths.Unsaid sign.Signed = leaf.Integer kind.Int
integer_by lengths.Unsaid sign.Unsigned = leaf.Integer kind.UInt
integer_by lengths.Long sign.Unsaid = leaf.Integer kind.Long
integer_by lengths.Long sign.Signed = leaf.Integer kind.Long
integer_by lengths.Long sign.Unsigned = leaf.Integer kind.ULong
integer_by lengths.LongLong sign.Unsaid = leaf.Integer kind.LLong
integer_by lengths.LongLong sign.Signed = leaf.Integer kind.LLong
integer_by lengths.LongLong sign.Unsigned = leaf.Integer kind.ULLong
integer_by l s = leaf.Unknown

-- the row of 6.7.2p2 that the type specifiers are; `Unknown` where they are none (the constraint of that paragraph)
abbrev pub leaf_by : Base → Length → Sign → Leaf
leaf_by base.Void lengths.Unsaid sign.Unsaid = leaf.Void
leaf_by base.Char lengths.Unsaid sign.Unsaid = leaf.Integer kind.Char
leaf_by base.Char lengths.Unsaid sign.Signed = leaf.Integer kind.SChar
leaf_by base.Char lengths.Unsaid sign.Unsigned = leaf.Integer kind.UChar
leaf_by base.Bool lengths.Unsaid sign.Unsaid = leaf.Integer kind.Bool
leaf_by base.Given lengths.Unsaid sign.Unsaid = leaf.Given
leaf_by base.Int l s = integer_by l s
leaf_by base.Unsaid lengths.Unsaid sign.Unsaid = leaf.Unknown
leaf_by base.Unsaid l s = integer_by l s
leaf_by other l s = leaf.Unknown

abbrev pub leaf_of : Specified → Leaf
leaf_of said = leaf_by said.base said.length said.sign

-- K1: the type specifiers are one row of that list
abbrev pub is_leaf : Leaf → Bool
is_leaf leaf.Unknown = false
is_leaf other = true

abbrev pub is_one_type_of : Specified → Bool
is_one_type_of said = is_leaf (leaf_of said)

abbrev pub leaf_type : Leaf → Qualified → Qualified
leaf_type leaf.Given given = given
leaf_type leaf.Void given = plain type.Void false false
leaf_type (leaf.Integer kind) given = plain (type.Int kind) false false
leaf_type leaf.Unknown given = unknown

-- the type, by that of a structure, an enumeration or a typedef name, with the qualifiers (6.7.3)
abbrev pub named_type : Specified → Qualified → Qualified
named_type said given = qualified said.constant (is_some said.volatile) (leaf_type (leaf_of said) given)

-- ---- which may stand where

-- K2: the storage classes of each place (6.7.1p3, p7, 6.7.6.3p2, 6.8.5p3, 6.9p2, 6.9.1p4): by the place, and whether a function is
-- declared there
abbrev pub may_stand : Place → Bool → Class → Bool
may_stand place.File function class.Auto = false
may_stand place.File function class.Register = false
may_stand place.File function other = true
may_stand place.Definition function class.Extern = true
may_stand place.Definition function class.Static = true
may_stand place.Definition function other = false
may_stand place.Block true class.Extern = true
may_stand place.Block true class.Typedef = true
may_stand place.Block true other = false
may_stand place.Block false other = true
may_stand place.Clause false class.Auto = true
may_stand place.Clause false class.Register = true
may_stand place.Clause function other = false
may_stand place.Parameter function class.Register = true
may_stand place.Parameter function other = false
may_stand place.Member function other = false
may_stand place.Name function other = false

-- and one at most (6.7.1p2): the token of the first that may not stand there, else that of the second
abbrev pub storage_by : Place → Bool → Option Storage → Option ℕ
storage_by at function None = None
storage_by at function (Some storage) = if may_stand at function storage.class then storage.second else Some storage.token

abbrev pub storage_fault_of : Specified → Place → Bool → Option ℕ
storage_fault_of said at function = storage_by at function said.storage

-- K4: `inline` stands only with a function (6.7.4p2): where declarations are, and all that is declared there is functions
abbrev pub declares_names : Place → Bool
declares_names place.File = true
declares_names place.Definition = true
declares_names place.Block = true
declares_names place.Clause = true
declares_names other = false

abbrev pub inline_fault_of : Specified → Place → Bool → Option ℕ
inline_fault_of said at functions = if declares_names at && functions then None else said.inline

-- K41: `volatile` qualifies scalars, or arrays of them, and no member (own); where the type is unknown only the last is judged
abbrev pub is_scalar_leaf : CType → Bool
is_scalar_leaf (type.Int kind) = true
is_scalar_leaf type.Unknown = true
is_scalar_leaf other = false

abbrev pub has_scalars : Qualified → Bool
has_scalars (plain of c v) = is_scalar_leaf of
has_scalars (pointer c v t) = true
has_scalars (array n t) = has_scalars t

abbrev pub is_member : Place → Bool
is_member place.Member = true
is_member other = false

abbrev pub volatile_fault_of : Specified → Place → Qualified → Option ℕ
volatile_fault_of said at named = if has_scalars named && not (is_member at) then None else said.volatile
