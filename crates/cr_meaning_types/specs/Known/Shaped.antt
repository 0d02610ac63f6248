-- Which kinds of nodes stand where in declarations and type names (C11 6.7), as the grammar has it.
use Rattle.std.specs.Prelude.{◌≡◌, ℕ, zero, suc, ◌<◌, Bool, true, false, Option, None, Some, slice_get, slice_index_or}
use Rattle.cr_syntax.specs.declared.node.Kind.{Kind}
use Rattle.cr_syntax.specs.declared.node.Kind.TheVariants as kind
use Rattle.cr_syntax.specs.declared.node.Node.{Node}
use Rattle.cr_check_enclosing.specs.Around.{outermost, inside}
use Rattle.cr_check_expressions.specs.Forms.{form_of}
use Rattle.cr_check_declarations.specs.declared.tree.Tree.{Tree}
use Rattle.cr_check_declarations.specs.Named.{is_declarator, declares_name, declaration_of, specifiers_in}
use Rattle.cr_check_declarations.specs.Faults.{is_specifier}
use Rattle.cr_meaning_typing.specs.Typed.Typing.{is_asked, is_expression}
use Rattle.cr_meaning_typing.specs.Typed.Whole.{IsOperand}

-- ---- kinds

-- one specifier, and not several
abbrev pub is_single : Kind → Bool
is_single kind.Specifiers = false
is_single kind.PlainSpecifiers = false
is_single k = is_specifier k

abbrev pub is_member_declaration : Kind → Bool
is_member_declaration kind.MemberDeclaration = true
is_member_declaration k = false

-- a parameter may be specifiers alone
abbrev pub is_parameter_kind : Kind → Bool
is_parameter_kind kind.Parameter = true
is_parameter_kind k = is_specifier k

abbrev pub is_parameter_list : Kind → Bool
is_parameter_list kind.VoidParameters = true
is_parameter_list kind.Parameters = true
is_parameter_list kind.VariadicParameters = true
is_parameter_list k = is_parameter_kind k

-- so may a type name
abbrev pub is_type_name : Kind → Bool
is_type_name kind.TypeName = true
is_type_name k = is_specifier k

-- ---- where they stand

-- a node of the second kind may stand in this place of one of the first
abbrev pub fits : Kind → ℕ → Kind → Bool
fits kind.FunctionDefinition zero own = is_specifier own
fits kind.Declaration zero own = is_specifier own
fits kind.MemberDeclaration zero own = is_specifier own
fits kind.Parameter zero own = is_specifier own
fits kind.TypeName zero own = is_specifier own
fits kind.FunctionDefinition (suc zero) own = is_declarator own
fits kind.MemberDeclaration (suc k) own = is_declarator own
fits kind.Parameter (suc zero) own = is_declarator own
fits kind.TypeName (suc zero) own = is_declarator own
fits kind.InitDeclarator zero own = is_declarator own
fits kind.PointerDeclarator zero own = is_declarator own
fits kind.GroupDeclarator zero own = is_declarator own
fits kind.ArrayDeclarator zero own = is_declarator own
fits kind.FunctionDeclarator zero own = is_declarator own
fits kind.AbstractPointer zero own = is_declarator own
fits kind.AbstractGroup zero own = is_declarator own
fits kind.AbstractArrayOf zero own = is_declarator own
fits kind.ArrayDeclarator (suc zero) own = is_expression (form_of own)
fits kind.AbstractArrayOf (suc zero) own = is_expression (form_of own)
fits kind.AbstractArray zero own = is_expression (form_of own)
fits kind.Enumerator zero own = is_expression (form_of own)
fits kind.FunctionDeclarator (suc zero) own = is_parameter_list own
fits kind.Parameters k own = is_parameter_kind own
fits kind.VariadicParameters k own = is_parameter_kind own
fits kind.Specifiers k own = is_single own
fits kind.PlainSpecifiers k own = is_single own
fits kind.StructContent k own = is_member_declaration own
fits kind.Cast zero own = is_type_name own
fits kind.SizeofType zero own = is_type_name own
fits k place own = true

-- these places are never empty
abbrev pub is_filled : Kind → ℕ → Bool
is_filled kind.FunctionDefinition zero = true
is_filled kind.Declaration zero = true
is_filled kind.MemberDeclaration zero = true
is_filled kind.Parameter zero = true
is_filled kind.Parameter (suc zero) = true
is_filled kind.TypeName zero = true
is_filled kind.TypeName (suc zero) = true
is_filled kind.InitDeclarator zero = true
is_filled kind.Cast zero = true
is_filled kind.SizeofType zero = true
is_filled k place = false

-- ---- of a tree

-- a part: it stands below its node, which is above it, and fits there; and it has from above what its node gives its parts
pub record IsPart (u : Tree) (i : ℕ) (n : Node) (place part : ℕ) : Type 0 where
  pub own : Node
  pub at : slice_get u.nodes.now part ≡ Some own
  pub below : part < i
  pub above : slice_index_or u.above.now part None ≡ Some i
  pub around : slice_index_or u.around.now part outermost ≡ inside n.kind i (slice_index_or u.around.now i outermost)
  pub fits : fits n.kind place own.kind ≡ true

abbrev pub IsThere : Option ℕ → Type 0
IsThere None = ⊥
IsThere (Some part) = Unit {0}

-- The specifiers of a declaration stand before its declarators, and an initialised declarator in the declaration of its declarator.
pub record IsShaped (u : Tree) : Type 0 where
  pub parts : (i : ℕ) (n : Node) → slice_get u.nodes.now i ≡ Some n → (place part : ℕ) → slice_get n.parts place ≡ Some part → IsPart u i n place part
  pub filled : (i : ℕ) (n : Node) → slice_get u.nodes.now i ≡ Some n → (place : ℕ) → is_filled n.kind place ≡ true → IsThere (slice_get n.parts place)
  pub ordered : (i d s : ℕ) (n : Node) → slice_get u.nodes.now i ≡ Some n → declares_name n.kind ≡ true → declaration_of u.nodes.now u.above.now i ≡ Some d
      → specifiers_in u.nodes.now (Some d) ≡ Some s → s < i
  pub initialised : (i part : ℕ) (n : Node) → slice_get u.nodes.now i ≡ Some n → n.kind ≡ kind.InitDeclarator → slice_get n.parts 0 ≡ Some part
      → declaration_of u.nodes.now u.above.now part ≡ declaration_of u.nodes.now u.above.now i
  pub operands : (i : ℕ) (n : Node) → slice_get u.nodes.now i ≡ Some n → (place : ℕ) → is_asked (form_of n.kind) place ≡ true → IsOperand u.nodes.now i n.parts place
