-- The tokens that are tags, and what they stand for (C11 6.7.2.3).
use Rattle.std.specs.Prelude.{◌≡◌, ℕ, suc, true, false, List, [], ◌∷◌, Some, slice_get}
use Rattle.cr_tokens.specs.declared.token.Token.{Token}
use Rattle.cr_syntax.specs.declared.node.Kind.TheVariants as kind
use Rattle.cr_syntax.specs.declared.node.Node.{Node}
use Rattle.cr_scopes_events.specs.declared.event.Role.{Role}
use Rattle.cr_scopes_events.specs.declared.event.Event.{Event}
use Rattle.cr_scopes_events.specs.declared.event.Event.TheVariants as event
use Rattle.cr_scopes.specs.declared.told.Told.{Told}
use Rattle.cr_scopes.specs.declared.scope.Space.TheVariants.{Tag}
use Rattle.cr_scopes.specs.Looking.{stands_in}
use Rattle.cr_scopes.specs.Resolved.{told}
use Rattle.cr_scopes_bindings.specs.Nodes.{name_at, tag_at}
use Rattle.cr_scopes_visibility.specs.Sight.Scopes.{is_using, is_tagging}
use Rattle.cr_scopes_visibility.specs.Told.Told.{is_leaf}

-- What the grammar gives of nodes: a tag is the token of one node, and no identifier that is used or declared; a tag alone has no parts, and
-- neither a member's declaration nor a body has a tag.
pub record AreTagsApart (tokens : List Token) (nodes : List Node) : Type 0 where
  pub tags : (i j token : ℕ) → tag_at nodes tokens i ≡ Some token → tag_at nodes tokens j ≡ Some token → i ≡ j
  pub uses : (j i token : ℕ) (n : Node) → tag_at nodes tokens j ≡ Some token → slice_get nodes i ≡ Some n → is_using n.kind ≡ true → n.first ≡ token → ⊥
  pub declared : (p j token : ℕ) → name_at nodes p ≡ Some token → tag_at nodes tokens j ≡ Some token → ⊥
  pub leaves : (i : ℕ) (m : Node) → slice_get nodes i ≡ Some m → is_leaf m.kind ≡ true → m.parts ≡ []
  pub members : (i k p : ℕ) (m x : Node) → slice_get nodes i ≡ Some m → m.kind ≡ kind.StructContent → slice_get m.parts k ≡ Some p → slice_get nodes p ≡ Some x → is_tagging x.kind ≡ false
  pub bodies : (i k p : ℕ) (m x : Node) → slice_get nodes i ≡ Some m → m.kind ≡ kind.FunctionDefinition → slice_get m.parts (suc (suc k)) ≡ Some p → slice_get nodes p ≡ Some x
      → is_tagging x.kind ≡ false

-- what a token stands for begins with the tag of a node, which declares itself
pub record StandsForTag (tokens : List Token) (nodes : List Node) (name : ℕ → ℕ) (token : ℕ) (past : List Event) : Type 0 where
  pub what : Told
  pub is : told name token past ≡ Some what
  pub node : ℕ
  pub tag : tag_at nodes tokens node ≡ Some what.first
  pub own : Told
  pub begins : told name what.first past ≡ Some own
  pub declares : own.declares ≡ true
  pub first : own.first ≡ what.first

-- the token is the tag of a node
pub record IsTagOfNode (tokens : List Token) (nodes : List Node) (token : ℕ) : Type 0 where
  pub node : ℕ
  pub tag : tag_at nodes tokens node ≡ Some token

-- what is told as a tag is the tag of a node, and what is told as anything else is none
pub record IsMarked (tokens : List Token) (nodes : List Node) (token : ℕ) (r : Role) : Type 0 where
  pub tag : stands_in Tag r ≡ true → IsTagOfNode tokens nodes token
  pub other : stands_in Tag r ≡ false → IsTagOfNode tokens nodes token → ⊥

-- so are all of some events
abbrev pub AreMarked : List Token → List Node → List Event → Type 0
AreMarked tokens nodes [] = Unit {0}
AreMarked tokens nodes (event.Name t r ∷ past) = IsMarked tokens nodes t r × AreMarked tokens nodes past
AreMarked tokens nodes (event.Opens ∷ past) = AreMarked tokens nodes past
AreMarked tokens nodes (event.Closes ∷ past) = AreMarked tokens nodes past
AreMarked tokens nodes (event.Member t k ∷ past) = AreMarked tokens nodes past
AreMarked tokens nodes (event.Node i ∷ past) = AreMarked tokens nodes past
