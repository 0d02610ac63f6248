-- How often a token is told by events, and by how many parts a node leads to it.
use Rattle.std.specs.Prelude.{◌≡◌, ◌==◌, ◌≤◌, ℕ, ◌+◌, Bool, true, false, List, [], ◌∷◌, Option, None, Some, slice_get, take, drop, if◌then◌else◌}
use Rattle.cr_syntax.specs.declared.node.Kind.{Kind}
use Rattle.cr_syntax.specs.declared.node.Kind.TheVariants as kind
use Rattle.cr_syntax.specs.declared.node.Node.{Node}
use Rattle.cr_scopes_events.specs.declared.event.Event.{Event}
use Rattle.cr_scopes_events.specs.declared.event.Event.TheVariants.{Node as Passes, Opens, Closes, Name, Member}
use Rattle.cr_scopes_events.specs.Declarators.{declarator_of}
use Rattle.cr_scopes_events.specs.Scripts.{list_of}
use Rattle.cr_scopes_visibility.specs.Sight.Scopes.{is_using, is_tagging}

abbrev pub tells : ℕ → Event → ℕ
tells token (Name t r) = if token == t then 1 else 0
tells token Opens = 0
tells token Closes = 0
tells token (Member t k) = 0
tells token (Passes i) = 0

abbrev pub count_of : ℕ → List Event → ℕ
count_of token [] = 0
count_of token (event ∷ past) = tells token event + count_of token past

-- of several nodes together
abbrev pub weight_of : (ℕ → ℕ) → List ℕ → ℕ
weight_of weight [] = 0
weight_of weight (p ∷ ps) = weight p + weight_of weight ps

-- A node leads to a token as often as its parts do, and once more where it uses a name there. The parameters of a definition, which are told
-- twice, don't lead to it (6.9.1), and nothing declares it.
pub record AreWeights (nodes : List Node) (weight : ℕ → ℕ) (token : ℕ) : Type 0 where
  pub parts : (i : ℕ) (m : Node) → slice_get nodes i ≡ Some m → weight_of weight m.parts ≤ weight i
  pub uses : (i : ℕ) (m : Node) → slice_get nodes i ≡ Some m → is_using m.kind ≡ true → m.first ≡ token → weight_of weight m.parts + 1 ≤ weight i
  pub declared : (q : ℕ) → (declarator_of nodes q).name ≡ Some token → ⊥
  pub enumerators : (i : ℕ) (m : Node) → slice_get nodes i ≡ Some m → m.kind ≡ kind.Enumerator → m.first ≡ token → ⊥
  pub tags : (i : ℕ) (m : Node) → slice_get nodes i ≡ Some m → is_tagging m.kind ≡ true → m.first + 1 ≡ token → ⊥
  pub lists : (i q : ℕ) (m : Node) → slice_get nodes i ≡ Some m → m.kind ≡ kind.FunctionDefinition → slice_get m.parts 1 ≡ Some q
      → weight_of weight (list_of nodes (declarator_of nodes q).next) ≡ 0

-- ---- of a token that is declared

-- a declarator's own name, where it is the token
abbrev pub named_by : ℕ → Option ℕ → ℕ
named_by token None = 0
named_by token (Some name) = if token == name then 1 else 0

-- has declarators behind its specifiers, and no body
abbrev pub is_declaring : Kind → Bool
is_declaring kind.Declaration = true
is_declaring kind.Parameter = true
is_declaring other = false

-- Numbers that are no less than how often nodes tell a token, each within itself, and as a part that declares, with its name.
pub record AreBounds (nodes : List Node) (within declaring : ℕ → ℕ) (token : ℕ) : Type 0 where
  pub parts : (i : ℕ) (m : Node) → slice_get nodes i ≡ Some m → weight_of within m.parts ≤ within i
  pub uses : (i : ℕ) (m : Node) → slice_get nodes i ≡ Some m → is_using m.kind ≡ true → m.first ≡ token → weight_of within m.parts + 1 ≤ within i
  pub declared : (q : ℕ) → within q + named_by token (declarator_of nodes q).name ≤ declaring q
  pub initialised : (p q : ℕ) (m : Node) → slice_get nodes p ≡ Some m → m.kind ≡ kind.InitDeclarator → slice_get m.parts 0 ≡ Some q
      → within q + named_by token (declarator_of nodes q).name + weight_of within (drop 1 m.parts) ≤ declaring p
  pub declarations : (i : ℕ) (m : Node) → slice_get nodes i ≡ Some m → is_declaring m.kind ≡ true
      → weight_of within (take 1 m.parts) + weight_of declaring (drop 1 m.parts) ≤ within i
  pub definitions : (i : ℕ) (m : Node) → slice_get nodes i ≡ Some m → m.kind ≡ kind.FunctionDefinition
      → weight_of within (take 1 m.parts) + (weight_of declaring (take 1 (drop 1 m.parts)) + weight_of within (drop 2 m.parts)) ≤ within i
  pub enumerators : (i : ℕ) (m : Node) → slice_get nodes i ≡ Some m → m.kind ≡ kind.Enumerator → m.first ≡ token → ⊥
  pub tags : (i : ℕ) (m : Node) → slice_get nodes i ≡ Some m → is_tagging m.kind ≡ true → m.first + 1 ≡ token → ⊥
  pub lists : (i q : ℕ) (m : Node) → slice_get nodes i ≡ Some m → m.kind ≡ kind.FunctionDefinition → slice_get m.parts 1 ≡ Some q
      → weight_of within (list_of nodes (declarator_of nodes q).next) ≡ 0
