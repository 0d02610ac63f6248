-- Which nodes tell a name, and as what.
use Rattle.std.specs.Prelude.{◌≡◌, ℕ, suc, ◌+◌, true, false, List, [], ◌∷◌, Some, slice_get}
use Rattle.cr_syntax.specs.declared.node.Kind.TheVariants as kind
use Rattle.cr_syntax.specs.declared.node.Node.{Node as SyntaxNode}
use Rattle.cr_scopes_events.specs.declared.event.Role.{Role}
use Rattle.cr_scopes_events.specs.declared.event.Event.{Event}
use Rattle.cr_scopes_events.specs.declared.event.Event.TheVariants.{Node, Opens, Closes, Name, Member}
use Rattle.cr_scopes_events.specs.Declarators.{declarator_of}
use Rattle.cr_scopes_events.specs.Scripts.{storage_of, role_by}
use Rattle.cr_scopes.specs.Faults.{is_typedef}
pub use Rattle.cr_scopes_typedef_names.specs.Tellings.Tellings.{is_external, is_tagged, IsDeclaring}
use Rattle.cr_scopes_linkage.specs.Shared.Sorts.{is_value, is_tag}

-- a node that declares the name, among its declarators; of a definition it is the one
pub record IsDeclarer (nodes : List SyntaxNode) (token i q : ℕ) (m : SyntaxNode) : Type 0 where
  pub at : slice_get nodes i ≡ Some m
  pub external : is_external m.kind ≡ true
  pub place : ℕ
  pub first : m.kind ≡ kind.FunctionDefinition → place ≡ 0
  pub part : ℕ
  pub is : slice_get m.parts (suc place) ≡ Some part
  pub declares : IsDeclaring nodes part q
  pub name : (declarator_of nodes q).name ≡ Some token

-- a declaration tells a name as its words and its declarator have it, and a specifier its tag; all else is no object, function, type or tag
pub data IsTold (nodes : List SyntaxNode) (token : ℕ) (r : Role) : Type 0 where
  declared : (i q : ℕ) (m : SyntaxNode) → IsDeclarer nodes token i q m → role_by (storage_of nodes m.parts) (declarator_of nodes q).next ≡ r → IsTold nodes token r
  tagged : (i : ℕ) (m : SyntaxNode) → slice_get nodes i ≡ Some m → is_tagged m.kind ≡ true → m.first + 1 ≡ token → is_tag r ≡ true → IsTold nodes token r
  otherwise : is_value r ≡ false → is_typedef r ≡ false → is_tag r ≡ false → IsTold nodes token r

-- all names of some events are told so
abbrev pub AreTold : List SyntaxNode → List Event → Type 0
AreTold nodes [] = Unit {0}
AreTold nodes (Name t r ∷ past) = IsTold nodes t r × AreTold nodes past
AreTold nodes (Opens ∷ past) = AreTold nodes past
AreTold nodes (Closes ∷ past) = AreTold nodes past
AreTold nodes (Member t k ∷ past) = AreTold nodes past
AreTold nodes (Node i ∷ past) = AreTold nodes past
