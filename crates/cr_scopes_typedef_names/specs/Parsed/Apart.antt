-- What is asked of a unit's nodes besides the grammar.
use Rattle.std.specs.Prelude.{◌≡◌, ◌≢◌, ◌+◌, ℕ, Bool, true, false, List, Some, slice_get}
use Rattle.cr_syntax.specs.declared.node.Kind.{Kind}
use Rattle.cr_syntax.specs.declared.node.Kind.TheVariants as kind
use Rattle.cr_syntax.specs.declared.node.Node.{Node}
use Rattle.cr_scopes_events.specs.declared.naming.Storage.TheVariants.{TypedefWord}
use Rattle.cr_scopes_events.specs.Declarators.{declarator_of}
use Rattle.cr_scopes_events.specs.Scripts.{storage_of}
use Rattle.cr_scopes_typedef_names.specs.Tellings.Tellings.{is_tagged}

-- an identifier in an expression
abbrev pub is_expression : Kind → Bool
is_expression kind.Identifier = true
is_expression kind.Call = true
is_expression k = false

-- some tokens of typedef names, which nothing declares and no other node uses
pub record AreApart (nodes : List Node) (typed : ℕ → Bool) : Type 0 where
  pub declared : (i token : ℕ) → (declarator_of nodes i).name ≡ Some token → typed token ≡ false
  pub enumerators : (i : ℕ) (n : Node) → slice_get nodes i ≡ Some n → n.kind ≡ kind.Enumerator → typed n.first ≡ false
  pub uses : (i : ℕ) (n : Node) → slice_get nodes i ≡ Some n → is_expression n.kind ≡ true → typed n.first ≡ false
  pub tags : (i : ℕ) (n : Node) → slice_get nodes i ≡ Some n → is_tagged n.kind ≡ true → typed (n.first + 1) ≡ false

-- no parameter says `typedef` (6.7.6.3p2)
abbrev pub ParametersAreNone : List Node → Type 0
ParametersAreNone nodes = (i : ℕ) (n : Node) → slice_get nodes i ≡ Some n → n.kind ≡ kind.Parameter → storage_of nodes n.parts ≢ TypedefWord
