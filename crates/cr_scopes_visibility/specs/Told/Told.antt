-- Where the declarations stand that names may see, by the numbers of nodes, which are numbered as they end (C11 6.2.1p7).
use Rattle.std.specs.Prelude.{◌≡◌, ℕ, ◌+◌, ◌<◌, ◌⊎◌, suc, Bool, true, false, List, [], Some, slice_get}
use Rattle.cr_syntax.specs.declared.node.Kind.{Kind}
use Rattle.cr_syntax.specs.declared.node.Kind.TheVariants as kind
use Rattle.cr_syntax.specs.declared.node.Node.{Node}
use Rattle.cr_scopes_events.specs.declared.event.Event.{Event}
use Rattle.cr_scopes_bindings.specs.Nodes.{name_at}
use Rattle.cr_scopes_visibility.specs.Sight.Scopes.{is_using, is_tagging}
use Rattle.cr_scopes_visibility.specs.Uses.Uses.{is_use, is_before}

-- ---- declarators

-- what declares ordinary identifiers by its declarators; members are none (6.2.3)
abbrev pub is_declaration : Kind → Bool
is_declaration kind.Declaration = true
is_declaration kind.FunctionDefinition = true
is_declaration kind.Parameter = true
is_declaration k = false

-- a part of a declaration or a parameter
pub record IsHeld (nodes : List Node) (p : ℕ) : Type 0 where
  pub declaration : ℕ
  pub node : Node
  pub at : slice_get nodes declaration ≡ Some node
  pub declares : is_declaration node.kind ≡ true
  pub place : ℕ
  pub is : slice_get node.parts place ≡ Some p

-- what an initialised declarator of one declares
pub record IsHeldInside (nodes : List Node) (p : ℕ) : Type 0 where
  pub outer : ℕ
  pub node : Node
  pub at : slice_get nodes outer ≡ Some node
  pub initialises : node.kind ≡ kind.InitDeclarator
  pub is : slice_get node.parts 0 ≡ Some p
  pub held : IsHeld nodes outer

-- a declarator of a declaration or a parameter, maybe with its initialiser
abbrev pub IsDeclarator : List Node → ℕ → Type 0
IsDeclarator nodes p = IsHeld nodes p ⊎ IsHeldInside nodes p

pub record IsEnumerator (nodes : List Node) (p : ℕ) : Type 0 where
  pub node : Node
  pub at : slice_get nodes p ≡ Some node
  pub is : node.kind ≡ kind.Enumerator

-- a token's own declarator or enumerator is numbered below a node: the whole one, which is the last that declares it
pub record IsDeclaredBelow (nodes : List Node) (token bound : ℕ) : Type 0 where
  pub declarer : ℕ
  pub names : name_at nodes declarer ≡ Some token
  pub below : declarer < bound
  pub last : (p : ℕ) → declarer < p → name_at nodes p ≡ Some token → ⊥
  pub stands : IsDeclarator nodes declarer ⊎ IsEnumerator nodes declarer

-- ---- uses

-- of events, the latest first: a node uses the name at its token, and what is declared before it stands below it
pub record IsTold (nodes : List Node) (token node : ℕ) (past : List Event) : Type 0 where
  pub used : is_use token past ≡ true
  pub behind : (declared : ℕ) → is_before declared token past ≡ true → IsDeclaredBelow nodes declared node

-- ---- what is asked of nodes

-- these name a token of theirs, and have no parts
abbrev pub is_leaf : Kind → Bool
is_leaf kind.Identifier = true
is_leaf kind.TypedefName = true
is_leaf kind.StructTag = true
is_leaf kind.EnumTag = true
is_leaf k = false

-- What the grammar gives of nodes: the token of a use is that of no other node, the declarator of a declaration is the whole one and an
-- enumerator its own; parts stand before their nodes, and neither a member's declaration nor a body is a name.
pub record AreApart (nodes : List Node) : Type 0 where
  pub uses : (i j : ℕ) (m n : Node) → slice_get nodes i ≡ Some m → slice_get nodes j ≡ Some n → is_using m.kind ≡ true → is_using n.kind ≡ true → m.first ≡ n.first → i ≡ j
  pub declared : (p j : ℕ) (n : Node) → name_at nodes p ≡ Some n.first → slice_get nodes j ≡ Some n → is_using n.kind ≡ true → ⊥
  pub tags : (i j : ℕ) (m n : Node) → slice_get nodes i ≡ Some m → slice_get nodes j ≡ Some n → is_tagging m.kind ≡ true → is_using n.kind ≡ true → m.first + 1 ≡ n.first → ⊥
  pub wholes : (p q token : ℕ) → IsDeclarator nodes p → name_at nodes p ≡ Some token → p < q → name_at nodes q ≡ Some token → ⊥
  pub enumerators : (p q token : ℕ) → IsEnumerator nodes p → name_at nodes p ≡ Some token → p < q → name_at nodes q ≡ Some token → ⊥
  pub below : (i k p : ℕ) (m : Node) → slice_get nodes i ≡ Some m → slice_get m.parts k ≡ Some p → p < i
  pub leaves : (i : ℕ) (m : Node) → slice_get nodes i ≡ Some m → is_leaf m.kind ≡ true → m.parts ≡ []
  pub members : (i k p : ℕ) (m x : Node) → slice_get nodes i ≡ Some m → m.kind ≡ kind.StructContent → slice_get m.parts k ≡ Some p → slice_get nodes p ≡ Some x → is_using x.kind ≡ false
  pub bodies : (i k p : ℕ) (m x : Node) → slice_get nodes i ≡ Some m → m.kind ≡ kind.FunctionDefinition → slice_get m.parts (suc (suc k)) ≡ Some p → slice_get nodes p ≡ Some x
      → is_using x.kind ≡ false
