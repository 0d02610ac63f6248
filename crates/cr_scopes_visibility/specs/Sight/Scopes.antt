-- A block or a `for`, and what stands under it.
use Rattle.std.specs.Prelude.{◌≡◌, ℕ, ◌+◌, ◌<◌, ◌≤◌, Bool, true, false, List, Some, length, slice_get}
use Rattle.cr_syntax.specs.declared.node.Kind.{Kind}
use Rattle.cr_syntax.specs.declared.node.Kind.TheVariants as kind
use Rattle.cr_syntax.specs.declared.node.Node.{Node}

-- a block, or a `for`, which is one (6.8.2, 6.8.5p5)
abbrev pub is_blocklike : Kind → Bool
is_blocklike kind.Compound = true
is_blocklike kind.For = true
is_blocklike k = false

-- an identifier is used
abbrev pub is_using : Kind → Bool
is_using kind.Identifier = true
is_using kind.Call = true
is_using kind.TypedefName = true
is_using k = false

-- a tag or a content, whose tag is its second token
abbrev pub is_tagging : Kind → Bool
is_tagging kind.StructTag = true
is_tagging kind.EnumTag = true
is_tagging kind.StructContent = true
is_tagging kind.EnumContent = true
is_tagging k = false

-- of the nodes of a unit, those under a holder: its parts, and the parts of what stands there
pub record AreUnder (nodes : List Node) (items : List ℕ) (holder : ℕ) (under : ℕ → Bool) : Type 0 where
  pub parts : (i k p : ℕ) (m : Node) → slice_get nodes i ≡ Some m → slice_get m.parts k ≡ Some p → (i ≡ holder → ⊥) → under p ≡ under i
  pub own : (k p : ℕ) (m : Node) → slice_get nodes holder ≡ Some m → slice_get m.parts k ≡ Some p → under p ≡ true
  pub top : (k p : ℕ) → slice_get items k ≡ Some p → under p ≡ false
  pub above : (a : ℕ) → holder ≤ a → under a ≡ false

-- what the grammar gives of nodes
pub record AreOrderly (nodes : List Node) : Type 0 where
  pub below : (i k p : ℕ) (m : Node) → slice_get nodes i ≡ Some m → slice_get m.parts k ≡ Some p → p < i
  pub definitions : (i : ℕ) (m : Node) → slice_get nodes i ≡ Some m → m.kind ≡ kind.FunctionDefinition → length m.parts ≤ 3
  pub members : (i k p : ℕ) (m x : Node) → slice_get nodes i ≡ Some m → m.kind ≡ kind.StructContent → slice_get m.parts k ≡ Some p → slice_get nodes p ≡ Some x → is_blocklike x.kind ≡ false

-- a token that is declared under the holder alone, and another one that isn't used there
pub record IsApart (nodes : List Node) (under : ℕ → Bool) (token site : ℕ) : Type 0 where
  pub declared : (i : ℕ) (m : Node) → slice_get nodes i ≡ Some m → m.kind ≡ kind.NameDeclarator → m.first ≡ token → under i ≡ true
  pub enumerators : (i : ℕ) (m : Node) → slice_get nodes i ≡ Some m → m.kind ≡ kind.Enumerator → m.first ≡ token → ⊥
  pub tags : (i : ℕ) (m : Node) → slice_get nodes i ≡ Some m → is_tagging m.kind ≡ true → m.first + 1 ≡ token → ⊥
  pub used : (i : ℕ) (m : Node) → slice_get nodes i ≡ Some m → is_using m.kind ≡ true → m.first ≡ token → ⊥
  pub uses : (i : ℕ) (m : Node) → slice_get nodes i ≡ Some m → is_using m.kind ≡ true → m.first ≡ site → under i ≡ false
