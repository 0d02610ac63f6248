-- What is asked of names: that their declarations stand before them (C11 6.2.1p7), and that constants are spelled as such (6.4.4).
use Rattle.std.specs.Prelude.{◌≡◌, ℕ, ◌<◌, ◌⊎◌, Bool, true, false, None, Some, slice_get, slice_index_or}
use Rattle.cr_syntax.specs.declared.node.Kind.{Kind}
use Rattle.cr_syntax.specs.declared.node.Kind.TheVariants as kind
use Rattle.cr_syntax.specs.declared.node.Node.{Node}
use Rattle.cr_check_constants.specs.Literals.{integer_of, character_of}
use Rattle.cr_check_expressions.specs.declared.form.Form.{Form}
use Rattle.cr_check_expressions.specs.declared.form.Form.TheVariants as form
use Rattle.cr_check_expressions.specs.Forms.{form_of}
use Rattle.cr_check_expressions.specs.Known.{spelling_of}
use Rattle.cr_check_declarations.specs.declared.tree.Tag.{Tag}
use Rattle.cr_check_declarations.specs.declared.tree.Tree.{Tree}
use Rattle.cr_check_declarations.specs.Before.{kind_in}
use Rattle.cr_check_declarations.specs.Named.{declares_name, declaration_of, names_ordinary}
use Rattle.cr_meaning_typing.specs.Typed.Typing.{IsThere}

-- ---- ordinary identifiers

-- a name is used
abbrev pub is_use : Kind → Bool
is_use kind.Identifier = true
is_use kind.Call = true
is_use kind.TypedefName = true
is_use k = false

-- a declarator of a declaration or a parameter, maybe with its initialiser
pub record IsDeclaring (u : Tree) (p : ℕ) (m : Node) : Type 0 where
  pub declares : declares_name m.kind ≡ true
  pub declaration : ℕ
  pub is : declaration_of u.nodes.now u.above.now p ≡ Some declaration
  pub ordinary : names_ordinary (kind_in u.nodes.now (Some declaration)) ≡ true

-- or an enumerator, which is no type
abbrev pub IsDeclaredFor : Kind → Tree → ℕ → Node → Type 0
IsDeclaredFor kind.TypedefName u p m = IsDeclaring u p m
IsDeclaredFor k u p m = IsDeclaring u p m ⊎ (m.kind ≡ kind.Enumerator)

-- the declaration that a name sees stands before it
pub record IsSeen (u : Tree) (i : ℕ) (k : Kind) : Type 0 where
  pub declared : ℕ
  pub is : slice_index_or u.visible.now i None ≡ Some declared
  pub below : declared < i
  pub node : Node
  pub at : slice_get u.nodes.now declared ≡ Some node
  pub declares : IsDeclaredFor k u declared node

-- ---- tags

abbrev pub is_tagged : Kind → Bool
is_tagged kind.StructTag = true
is_tagged kind.EnumTag = true
is_tagged k = false

-- its content is a specifier
pub record IsContent (u : Tree) (content : ℕ) : Type 0 where
  pub node : Node
  pub at : slice_get u.nodes.now content ≡ Some node
  pub given : (node.kind ≡ kind.StructContent) ⊎ (node.kind ≡ kind.EnumContent)

-- a tag stands for one that is declared
pub record IsTagged (u : Tree) (i : ℕ) : Type 0 where
  pub tag : Tag
  pub is : slice_index_or u.tags.now i None ≡ Some tag
  pub first : Kind
  pub declares : kind_in u.nodes.now (Some tag.first) ≡ Some first
  pub content : (c : ℕ) → tag.content ≡ Some c → IsContent u c

-- ---- constants

abbrev pub IsSpelled : Tree → Form → ℕ → Type 0
IsSpelled u form.Integer token = IsThere (integer_of (spelling_of u.file.now u.tokens.now token))
IsSpelled u form.Character token = IsThere (character_of (spelling_of u.file.now u.tokens.now token))
IsSpelled u f token = Unit {0}

pub record AreSighted (u : Tree) : Type 0 where
  pub names : (i : ℕ) (n : Node) → slice_get u.nodes.now i ≡ Some n → is_use n.kind ≡ true → IsSeen u i n.kind
  pub tags : (i : ℕ) (n : Node) → slice_get u.nodes.now i ≡ Some n → is_tagged n.kind ≡ true → IsTagged u i
  pub constants : (i : ℕ) (n : Node) → slice_get u.nodes.now i ≡ Some n → IsSpelled u (form_of n.kind) n.first
