-- The nodes that tell a name, and how (C11 6.2.1, 6.7).
use Rattle.std.specs.Prelude.{◌≡◌, ℕ, suc, ◌+◌, Bool, true, false, Some, List, [], ◌∷◌, ◌⊎◌, slice_get}
use Rattle.cr_syntax.specs.declared.node.Kind.{Kind}
use Rattle.cr_syntax.specs.declared.node.Kind.TheVariants as kind
use Rattle.cr_syntax.specs.declared.node.Node.{Node}
use Rattle.cr_scopes_events.specs.declared.event.Role.{Role}
use Rattle.cr_scopes_events.specs.declared.event.Role.TheVariants as role
use Rattle.cr_scopes_events.specs.declared.event.Event.{Event}
use Rattle.cr_scopes_events.specs.declared.event.Event.TheVariants as event
use Rattle.cr_scopes_events.specs.Declarators.{declarator_of}
use Rattle.cr_scopes_events.specs.Scripts.{kind_at, parts_at, storage_of, role_by}

-- a declaration, or the definition of a function (6.9)
abbrev pub is_external : Kind → Bool
is_external kind.Declaration = true
is_external kind.FunctionDefinition = true
is_external other = false

-- an identifier is used
abbrev pub is_use : Kind → Bool
is_use kind.Identifier = true
is_use kind.Call = true
is_use kind.TypedefName = true
is_use k = false

-- what may have a tag, behind its first word
abbrev pub is_tagged : Kind → Bool
is_tagged kind.StructTag = true
is_tagged kind.EnumTag = true
is_tagged kind.StructContent = true
is_tagged kind.EnumContent = true
is_tagged k = false

abbrev pub is_tag : Role → Bool
is_tag role.Content = true
is_tag role.Alone = true
is_tag role.Mentioned = true
is_tag r = false

-- a part is a declarator, or one with its initialiser
abbrev pub IsDeclaring : List Node → ℕ → ℕ → Type 0
IsDeclaring nodes part declarator = (part ≡ declarator) ⊎ ((kind_at nodes part ≡ Some kind.InitDeclarator) × (slice_get (parts_at nodes part) 0 ≡ Some declarator))

-- a node has a declarator of the name, behind its specifiers; of a definition it is the second part
pub record IsDeclarer (nodes : List Node) (token : ℕ) (test : Kind → Bool) : Type 0 where
  pub node : ℕ
  pub own : Node
  pub at : slice_get nodes node ≡ Some own
  pub is : test own.kind ≡ true
  pub place : ℕ
  pub first : own.kind ≡ kind.FunctionDefinition → place ≡ 0
  pub part : ℕ
  pub has : slice_get own.parts (suc place) ≡ Some part
  pub declarator : ℕ
  pub declares : IsDeclaring nodes part declarator
  pub names : (declarator_of nodes declarator).name ≡ Some token

-- a node of such a kind whose own token is the name
pub record IsBearer (nodes : List Node) (token : ℕ) (test : Kind → Bool) : Type 0 where
  pub node : ℕ
  pub own : Node
  pub at : slice_get nodes node ≡ Some own
  pub is : test own.kind ≡ true
  pub first : own.first ≡ token

-- the tag is the second token
pub record IsTagger (nodes : List Node) (token : ℕ) : Type 0 where
  pub node : ℕ
  pub own : Node
  pub at : slice_get nodes node ≡ Some own
  pub is : is_tagged own.kind ≡ true
  pub second : own.first + 1 ≡ token

abbrev pub is_parameter : Kind → Bool
is_parameter kind.Parameter = true
is_parameter k = false

abbrev pub is_enumerator : Kind → Bool
is_enumerator kind.Enumerator = true
is_enumerator k = false

-- a name is told in a role: by a declaration or a definition, by a parameter, as an enumerator, as a tag, or where it is used
pub data Telling (nodes : List Node) (token : ℕ) (r : Role) : Type 0 where
  by_declaration : (d : IsDeclarer nodes token is_external) → r ≡ role_by (storage_of nodes d.own.parts) (declarator_of nodes d.declarator).next → Telling nodes token r
  by_parameter : IsDeclarer nodes token is_parameter → r ≡ role.Parameter → Telling nodes token r
  by_enumerator : IsBearer nodes token is_enumerator → r ≡ role.Enumerator → Telling nodes token r
  by_tag : IsTagger nodes token → is_tag r ≡ true → Telling nodes token r
  by_use : IsBearer nodes token is_use → r ≡ role.Used → Telling nodes token r

-- of each event of a name in a list this holds
abbrev pub AllNames : (ℕ → Role → Type 0) → List Event → Type 0
AllNames P [] = Unit {0}
AllNames P (event.Name token r ∷ es) = P token r × AllNames P es
AllNames P (event.Opens ∷ es) = AllNames P es
AllNames P (event.Closes ∷ es) = AllNames P es
AllNames P (event.Member token structure ∷ es) = AllNames P es
AllNames P (event.Node i ∷ es) = AllNames P es
