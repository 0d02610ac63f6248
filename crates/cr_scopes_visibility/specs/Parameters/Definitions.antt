-- The list of parameters and the body of a definition, and what stands under them.
use Rattle.std.specs.Prelude.{◌≡◌, ℕ, suc, ◌<◌, ◌≤◌, Bool, true, false, List, Some, length, slice_get}
use Rattle.cr_syntax.specs.declared.node.Kind.{Kind}
use Rattle.cr_syntax.specs.declared.node.Kind.TheVariants as kind
use Rattle.cr_syntax.specs.declared.node.Node.{Node}
use Rattle.cr_scopes_events.specs.declared.declarator.Derivation.TheVariants as derivation
use Rattle.cr_scopes_events.specs.Declarators.{declarator_of}

-- a body, or a declarator with a list of parameters
abbrev pub is_holding : Kind → Bool
is_holding kind.Compound = true
is_holding kind.FunctionDeclarator = true
is_holding k = false

-- the list stands behind the name of no other definition, and the body is that of this one; where there is no such definition, the list is
-- told once
pub record AreOwn (nodes : List Node) (definition list body : ℕ) : Type 0 where
  pub bodied : (q : ℕ) (m : Node) → slice_get nodes definition ≡ Some m → slice_get m.parts 2 ≡ Some q → q ≡ body
  pub block : (m : Node) → slice_get nodes body ≡ Some m → m.kind ≡ kind.Compound
  pub function : (m : Node) → slice_get nodes list ≡ Some m → m.kind ≡ kind.FunctionDeclarator
  pub no_other_list : (i q : ℕ) (m : Node) → slice_get nodes i ≡ Some m → m.kind ≡ kind.FunctionDefinition → slice_get m.parts 1 ≡ Some q → (declarator_of nodes q).next ≡ derivation.Function list → i ≡ definition
  -- no body is a list
  pub bodied_apart : (i q : ℕ) (m : Node) → slice_get nodes i ≡ Some m → m.kind ≡ kind.FunctionDefinition → slice_get m.parts 2 ≡ Some q → q ≡ list → ⊥
  pub no_other_body : (i k : ℕ) (m : Node) → slice_get nodes i ≡ Some m → slice_get m.parts k ≡ Some body → i ≡ definition

-- what stands under the parameters of the list and under the body
pub record AreInside (nodes : List Node) (items : List ℕ) (definition list body : ℕ) (under : ℕ → Bool) : Type 0 where
  pub parts : (i k p : ℕ) (m : Node) → slice_get nodes i ≡ Some m → slice_get m.parts k ≡ Some p → (i ≡ body → ⊥) → (i ≡ list → k ≡ 0) → under p ≡ under i
  pub parameters : (k p : ℕ) (m : Node) → slice_get nodes list ≡ Some m → slice_get m.parts (suc k) ≡ Some p → under p ≡ true
  pub items_of : (k p : ℕ) (m : Node) → slice_get nodes body ≡ Some m → slice_get m.parts k ≡ Some p → under p ≡ true
  pub top : (k p : ℕ) → slice_get items k ≡ Some p → under p ≡ false
  pub definition_out : under definition ≡ false
  pub list_out : under list ≡ false
  pub body_out : under body ≡ false

-- what the grammar gives of nodes
pub record AreOrdered (nodes : List Node) : Type 0 where
  pub below : (i k p : ℕ) (m : Node) → slice_get nodes i ≡ Some m → slice_get m.parts k ≡ Some p → p < i
  pub definitions : (i : ℕ) (m : Node) → slice_get nodes i ≡ Some m → m.kind ≡ kind.FunctionDefinition → length m.parts ≤ 3
  pub members : (i k p : ℕ) (m x : Node) → slice_get nodes i ≡ Some m → m.kind ≡ kind.StructContent → slice_get m.parts k ≡ Some p → slice_get nodes p ≡ Some x → is_holding x.kind ≡ false

-- ---- the list of a declarator that defines no function

-- the list stands behind the name of no definition, so that it is told once
pub record IsLone (nodes : List Node) (list : ℕ) : Type 0 where
  pub own : Node
  pub at : slice_get nodes list ≡ Some own
  pub declares : own.kind ≡ kind.FunctionDeclarator
  pub no_definition : (i q : ℕ) (m : Node) → slice_get nodes i ≡ Some m → m.kind ≡ kind.FunctionDefinition → slice_get m.parts 1 ≡ Some q
      → (declarator_of nodes q).next ≡ derivation.Function list → ⊥
  -- and is no body
  pub no_body : (i q : ℕ) (m : Node) → slice_get nodes i ≡ Some m → m.kind ≡ kind.FunctionDefinition → slice_get m.parts 2 ≡ Some q → q ≡ list → ⊥

-- what stands under its parameters
pub record AreWithin (nodes : List Node) (items : List ℕ) (list : ℕ) (under : ℕ → Bool) : Type 0 where
  pub parts : (i k p : ℕ) (m : Node) → slice_get nodes i ≡ Some m → slice_get m.parts k ≡ Some p → (i ≡ list → k ≡ 0) → under p ≡ under i
  pub listed : (k p : ℕ) (m : Node) → slice_get nodes list ≡ Some m → slice_get m.parts (suc k) ≡ Some p → under p ≡ true
  pub top : (k p : ℕ) → slice_get items k ≡ Some p → under p ≡ false
  pub above : (a : ℕ) → list ≤ a → under a ≡ false
