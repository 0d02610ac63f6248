-- What is done at a node of each kind as far as names go, in the order of the text.
use Rattle.std.specs.Prelude.{ℕ, ◌+◌, ◌-◌, Bool, true, false, List, [], ◌∷◌, ◌++◌, Option, None, Some, slice_get, take, drop, length, fold}
use Rattle.std.specs.List.{flat_map}
use Rattle.cr_tokens.specs.declared.token.Token.{Token}
use Rattle.cr_tokens.specs.declared.token.TokenKind.TheVariants.{Identifier}
use Rattle.cr_syntax.specs.declared.node.Kind.{Kind}
use Rattle.cr_syntax.specs.declared.node.Kind.TheVariants as kind
use Rattle.cr_syntax.specs.declared.node.Node.{Node}
pub use Rattle.cr_syntax.specs.Numbered.{kind_if, kind_at, parts_if, parts_at}
use Rattle.cr_scopes_events.specs.declared.event.Role.{Role}
use Rattle.cr_scopes_events.specs.declared.event.Role.TheVariants as role
use Rattle.cr_scopes_events.specs.declared.event.Event.{Event}
use Rattle.cr_scopes_events.specs.declared.event.Event.TheVariants.{Opens, Closes, Name, Member}
use Rattle.cr_scopes_events.specs.declared.event.Step.{Step}
use Rattle.cr_scopes_events.specs.declared.event.Step.TheVariants.{Happens, Inside}
use Rattle.cr_scopes_events.specs.declared.naming.Storage.{Storage}
use Rattle.cr_scopes_events.specs.declared.naming.Storage.TheVariants.{TypedefWord, ExternWord, NoWord}
use Rattle.cr_scopes_events.specs.declared.naming.Naming.{Naming}
use Rattle.cr_scopes_events.specs.declared.naming.Naming.TheVariants.{Parameters, Members, Declared}
use Rattle.cr_scopes_events.specs.declared.declarator.Derivation.{Derivation}
use Rattle.cr_scopes_events.specs.declared.declarator.Derivation.TheVariants.{Function}
use Rattle.cr_scopes_events.specs.declared.declarator.Declarator.{Declarator}
use Rattle.cr_scopes_events.specs.Declarators.{declarator_of}

-- Nodes by number.

abbrev pub first_if : Option Node → Option ℕ
first_if None = None
first_if (Some node) = Some node.first

abbrev pub first_at : List Node → ℕ → Option ℕ
first_at nodes i = first_if (slice_get nodes i)

-- Steps.

abbrev pub inside : List ℕ → List Step
inside parts = flat_map (λ part. Inside part ∷ []) parts

-- in a scope of its own
abbrev pub in_scope : List Step → List Step
in_scope steps = Happens Opens ∷ steps ++ Happens Closes ∷ []

abbrev pub in_scopes : List ℕ → List Step
in_scopes parts = flat_map (λ part. in_scope (Inside part ∷ [])) parts

-- a block: parts that stand in it alone, parts that are blocks in it, and parts behind those
abbrev pub block : List ℕ → List ℕ → List ℕ → List Step
block first blocks rest = in_scope (inside first ++ in_scopes blocks ++ inside rest)

-- What names are declared as.

-- what the specifiers say, word by word; `typedef` says the most
abbrev pub with_word : Storage → Option Kind → Storage
with_word TypedefWord word = TypedefWord
with_word storage (Some kind.Typedef) = TypedefWord
with_word storage (Some kind.Extern) = ExternWord
with_word storage word = storage

abbrev pub words_of : List Node → ℕ → Option Kind → List ℕ
words_of nodes i (Some kind.Specifiers) = parts_at nodes i
words_of nodes i other = i ∷ []

-- the specifiers are the first part of a declaration
abbrev pub storage_of : List Node → List ℕ → Storage
storage_of nodes [] = NoWord
storage_of nodes (specifiers ∷ rest) =
    fold (λ storage word. with_word storage (kind_at nodes word)) NoWord (words_of nodes specifiers (kind_at nodes specifiers))

abbrev pub role_by : Storage → Derivation → Role
role_by TypedefWord next = role.Typedef
role_by storage (Function node) = role.Function
role_by ExternWord next = role.ExternObject
role_by NoWord next = role.Object

abbrev pub event_by : Naming → Derivation → ℕ → Event
event_by Parameters next name = Name name role.Parameter
event_by (Members structure) next name = Member name structure
event_by (Declared storage) next name = Name name (role_by storage next)

abbrev pub named : Naming → Declarator → List Step
named way d = elim d.name [ None ↦ [] | Some name ↦ Happens (event_by way d.next name) ∷ [] ]

-- a name enters its scope behind its declarator (6.2.1p7)
abbrev pub declarator_in : Naming → List Node → ℕ → List Step
declarator_in way nodes part = Inside part ∷ named way (declarator_of nodes part)

-- a declarator, or one with its initialiser
abbrev pub initialised : Naming → List Node → List ℕ → List Step
initialised way nodes parts = flat_map (declarator_in way nodes) (take 1 parts) ++ inside (drop 1 parts)

abbrev pub declares : Naming → List Node → ℕ → Option Kind → List Step
declares way nodes part (Some kind.InitDeclarator) = initialised way nodes (parts_at nodes part)
declares way nodes part other = declarator_in way nodes part

-- specifiers and declarators
abbrev pub declaration_in : Naming → List Node → List ℕ → List Step
declaration_in way nodes parts =
    inside (take 1 parts) ++ flat_map (λ part. declares way nodes part (kind_at nodes part)) (drop 1 parts)

-- Tags.

abbrev pub is_identifier : Option Token → Bool
is_identifier None = false
is_identifier (Some token) = elim token.kind [ Identifier ↦ true | _ ↦ false ]

abbrev pub tag_event : Role → ℕ → Bool → List Step
tag_event written tag false = []
tag_event written tag true = Happens (Name tag written) ∷ []

-- the tag of a content, where it has one; it stands behind `struct` or `enum`
abbrev pub content_tag : List Token → ℕ → List Step
content_tag tokens first = tag_event role.Content (first + 1) (is_identifier (slice_get tokens (first + 1)))

abbrev pub lone_tag : Option ℕ → List Step
lone_tag None = []
lone_tag (Some word) = tag_event role.Alone (word + 1) true

-- a declaration of specifiers alone: `struct T;` declares its tag (6.7.2.3p7)
abbrev pub lone_specifiers : List Node → ℕ → Option Kind → List Step
lone_specifiers nodes part (Some kind.StructTag) = lone_tag (first_at nodes part)
lone_specifiers nodes part other = inside (part ∷ [])

-- Kinds.

abbrev pub declaration : List Node → List ℕ → List Step
declaration nodes [] = []
declaration nodes (part ∷ []) = lone_specifiers nodes part (kind_at nodes part)
declaration nodes parts = declaration_in (Declared (storage_of nodes parts)) nodes parts

abbrev pub list_of : List Node → Derivation → List ℕ
list_of nodes (Function list) = drop 1 (parts_at nodes list)
list_of nodes next = []

-- the parameters of a definition's own list
abbrev pub own_parameters : List Node → ℕ → List Step
own_parameters nodes part = inside (list_of nodes (declarator_of nodes part).next)

abbrev pub items_of : List Node → ℕ → List Step
items_of nodes part = inside (parts_at nodes part)

-- the members of a declaration in the content of a structure
abbrev pub members_of : List Node → ℕ → ℕ → List Step
members_of nodes structure part = declaration_in (Members structure) nodes (parts_at nodes part)

-- A definition's parameters stand in the block of its body (6.2.1p4). So behind its declarator they are told once more, in
-- the scope of that block.
abbrev pub definition : List Node → List ℕ → List Step
definition nodes parts =
    declaration_in (Declared (storage_of nodes parts)) nodes (take 2 parts)
    ++ in_scope (flat_map (own_parameters nodes) (take 1 (drop 1 parts)) ++ flat_map (items_of nodes) (drop 2 parts))

-- A selection or iteration statement is a block, and so is each statement in it (6.8.4p3, 6.8.5p5).
abbrev pub script_by : Kind → List Token → List Node → ℕ → Node → List Step
script_by kind.FunctionDefinition tokens nodes i node = definition nodes node.parts
script_by kind.Declaration tokens nodes i node = declaration nodes node.parts
script_by kind.Parameter tokens nodes i node = declaration_in Parameters nodes node.parts
script_by kind.FunctionDeclarator tokens nodes i node = inside (take 1 node.parts) ++ block (drop 1 node.parts) [] []
script_by kind.StructContent tokens nodes i node =
    content_tag tokens node.first ++ flat_map (members_of nodes i) node.parts
script_by kind.EnumContent tokens nodes i node = content_tag tokens node.first ++ inside node.parts
script_by kind.Enumerator tokens nodes i node = inside node.parts ++ Happens (Name node.first role.Enumerator) ∷ []
script_by kind.StructTag tokens nodes i node = tag_event role.Mentioned (node.first + 1) true
script_by kind.EnumTag tokens nodes i node = tag_event role.Mentioned (node.first + 1) true
script_by kind.TypedefName tokens nodes i node = Happens (Name node.first role.Used) ∷ []
script_by kind.Identifier tokens nodes i node = Happens (Name node.first role.Used) ∷ []
script_by kind.Call tokens nodes i node = Happens (Name node.first role.Used) ∷ inside node.parts
script_by kind.Compound tokens nodes i node = block node.parts [] []
script_by kind.If tokens nodes i node = block (take 1 node.parts) (drop 1 node.parts) []
script_by kind.Switch tokens nodes i node = block (take 1 node.parts) (drop 1 node.parts) []
script_by kind.While tokens nodes i node = block (take 1 node.parts) (drop 1 node.parts) []
script_by kind.Do tokens nodes i node = block [] (take 1 node.parts) (drop 1 node.parts)
script_by kind.For tokens nodes i node = block (take (length node.parts - 1) node.parts) (drop (length node.parts - 1) node.parts) []
script_by kind tokens nodes i node = inside node.parts

abbrev pub script_if : Option Node → List Token → List Node → ℕ → List Step
script_if None tokens nodes i = []
script_if (Some node) tokens nodes i = script_by node.kind tokens nodes i node

-- what is done at the node of a number
abbrev pub script_of : List Token → List Node → ℕ → List Step
script_of tokens nodes i = script_if (slice_get nodes i) tokens nodes i
