-- What the tokens and parts before say of an identifier that comes, and the tests of a tree that the grammar makes.
use Rattle.std.specs.Prelude.{ℕ, Bool, true, false, not, ◌||◌, List}
use Rattle.cr_syntax.specs.declared.node.Kind.{Kind}
use Rattle.cr_syntax.specs.declared.node.Kind.TheVariants as kind
use Rattle.cr_syntax.specs.declared.part.Context.{Context}
use Rattle.cr_syntax.specs.declared.part.Part.{Part}
use Rattle.cr_syntax.specs.declared.part.Part.TheVariants as part
use Rattle.cr_syntax.specs.declared.shape.Base.{Base}
use Rattle.cr_syntax.specs.declared.shape.Base.TheVariants.{ItsName, InBrackets, Derived, NoDeclarator}
use Rattle.cr_syntax.specs.declared.shape.Ending.{Ending}
use Rattle.cr_syntax.specs.declared.shape.Ending.TheVariants.{InBranch, InBody, Closed}
use Rattle.cr_syntax.specs.Words.{Lexeme, spelling_at}
use Rattle.cr_syntax.specs.declared.scopes.TypeName.{TypeName}
use Rattle.cr_syntax.specs.Trees.{Trees, none, node}

-- nothing is said yet
abbrev pub fresh : Context
fresh = record { typed = false; type_name = false; bare = false; name = 0 }

-- a token stands before, so an identifier here is a name
abbrev pub past_token : Context → Context
past_token h = record h { typed = true }

-- the type specifiers of 6.7.2
abbrev pub is_type_specifier : Kind → Bool
is_type_specifier kind.Void = true
is_type_specifier kind.Char = true
is_type_specifier kind.Short = true
is_type_specifier kind.Int = true
is_type_specifier kind.Long = true
is_type_specifier kind.Signed = true
is_type_specifier kind.Unsigned = true
is_type_specifier kind.Bool = true
is_type_specifier kind.TypedefName = true
is_type_specifier kind.StructContent = true
is_type_specifier kind.StructTag = true
is_type_specifier kind.EnumContent = true
is_type_specifier kind.EnumTag = true
is_type_specifier _ = false

abbrev pub is_typedef : Kind → Bool
is_typedef kind.Typedef = true
is_typedef _ = false

-- whether one of a row's nodes has such a kind
abbrev pub any_kind : (Kind → Bool) → Trees → Bool
any_kind test none = false
any_kind test (node k i j a n) = test k || any_kind test n

-- whether a tree of specifiers has one of such a kind
abbrev pub specifies : (Kind → Bool) → Kind → Trees → Bool
specifies test kind.Specifiers a = any_kind test a
specifies test kind.PlainSpecifiers a = any_kind test a
specifies test k a = test k

-- what a declarator is built on
abbrev pub base_of : Kind → Base
base_of kind.NameDeclarator = ItsName
base_of kind.GroupDeclarator = InBrackets
base_of kind.PointerDeclarator = Derived
base_of kind.ArrayDeclarator = Derived
base_of kind.FunctionDeclarator = Derived
base_of _ = NoDeclarator

-- whether a declarator is an identifier, in brackets or not
abbrev pub is_bare : Trees → Bool
is_bare none = false
is_bare (node k i j a n) = elim (base_of k) [ ItsName ↦ true | InBrackets ↦ is_bare a | Derived ↦ false | NoDeclarator ↦ false ]

-- the number of the token that a declarator declares (6.7.6)
abbrev pub declared_in : Trees → ℕ
declared_in none = 0
declared_in (node k i j a n) = elim (base_of k) [ ItsName ↦ i | InBrackets ↦ declared_in a | Derived ↦ declared_in a | NoDeclarator ↦ 0 ]

-- what is said after a part
abbrev pub past_part : Context → Trees → Context
past_part h none = h
past_part h (node k i j a n) = record {
  typed = h.typed || specifies is_type_specifier k a;
  type_name = h.type_name || specifies is_typedef k a;
  bare = is_bare (node k i j a n);
  name = declared_in (node k i j a n);
}

-- whether the parts of a node hear what stands before the node: specifiers and declarators do
abbrev pub hears : Part → Bool
hears part.InitDeclarator = true
hears part.Specifiers = true
hears part.Specifier = true
hears part.PlainSpecifiers = true
hears part.Plain = true
hears part.MemberDeclarator = true
hears part.Declarator = true
hears part.DirectDeclarator = true
hears part.ParameterDeclarator = true
hears _ = false

-- what is said at the beginning of a part
abbrev pub at_start : Part → Context → Context
at_start p h = elim (hears p) [ true ↦ h | false ↦ fresh ]

-- the name that a declarator declares
abbrev pub declared_name : List Lexeme → Context → TypeName
declared_name ts h = record { name = spelling_at ts h.name; is_type = h.type_name }

-- how a statement ends: some end in their last part, a statement
abbrev pub ending_of : Kind → Ending
ending_of kind.If = InBranch
ending_of kind.While = InBody
ending_of kind.For = InBody
ending_of kind.Label = InBody
ending_of kind.Case = InBody
ending_of kind.Default = InBody
ending_of _ = Closed

-- whether an `if` has an `else`: then it has three parts
abbrev pub has_else : Trees → Bool
has_else (node k i j a (node k' i' j' a' (node k'' i'' j'' a'' n))) = true
has_else _ = false

-- whether the last tree of a row ends in an `if` without `else`, to which an `else` behind it would belong
abbrev pub ends_open : Trees → Bool
ends_open none = false
ends_open (node k i j a none) = elim (ending_of k) [ InBranch ↦ not (has_else a) || ends_open a | InBody ↦ ends_open a | Closed ↦ false ]
ends_open (node k i j a (node k' i' j' a' n')) = ends_open (node k' i' j' a' n')

-- 6.8.4.1p3: an `else` belongs to the nearest `if`, so the branch before it ends in none that could take it
abbrev pub else_is_nearest : Trees → Bool
else_is_nearest (node k i j a (node k' i' j' a' (node k'' i'' j'' a'' n))) = not (ends_open (node k' i' j' a' none))
else_is_nearest _ = true

-- the test that a node's parts meet besides its right side
abbrev pub fits_together : Kind → Trees → Bool
fits_together kind.If a = else_is_nearest a
fits_together _ a = true

-- the test that a part meets where it stands alone: the one token `void` is no parameter
abbrev pub may_stand : Part → Trees → Bool
may_stand part.Parameters (node kind.Void i j a n) = false
may_stand _ a = true
