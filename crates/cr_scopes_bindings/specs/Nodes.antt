-- What nodes declare: ordinary identifiers and tags, each by the token of its name.
use Rattle.std.specs.Prelude.{◌+◌, ℕ, List, Option, None, Some, slice_get, if◌then◌else◌}
use Rattle.cr_tokens.specs.declared.token.Token.{Token}
use Rattle.cr_syntax.specs.declared.node.Kind.{Kind}
use Rattle.cr_syntax.specs.declared.node.Kind.TheVariants as kind
use Rattle.cr_syntax.specs.declared.node.Node.{Node}
use Rattle.cr_scopes_events.specs.Declarators.{declarator_of}
use Rattle.cr_scopes_events.specs.Scripts.{is_identifier}

-- an enumerator declares its own token, and another node the one that its declarator names (6.7.2.2p3, 6.7.6p4)
abbrev pub named_by : Kind → ℕ → Option ℕ → Option ℕ
named_by kind.Enumerator first name = Some first
named_by kind first name = name

abbrev pub named_if : Option Node → Option ℕ → Option ℕ
named_if None name = None
named_if (Some node) name = named_by node.kind node.first name

-- The token of the ordinary identifier that a node declares. A declarator and those inside it name one token; the whole one is the last of them.
abbrev pub name_at : List Node → ℕ → Option ℕ
name_at nodes i = named_if (slice_get nodes i) (declarator_of nodes i).name

-- a structure or an enumeration may have no tag where it has a content (6.7.2.1, 6.7.2.2)
abbrev pub tag_if_there : List Token → ℕ → Option ℕ
tag_if_there tokens token = if is_identifier (slice_get tokens token) then Some token else None

abbrev pub tag_by : Kind → List Token → ℕ → Option ℕ
tag_by kind.StructTag tokens word = Some (word + 1)
tag_by kind.EnumTag tokens word = Some (word + 1)
tag_by kind.StructContent tokens word = tag_if_there tokens (word + 1)
tag_by kind.EnumContent tokens word = tag_if_there tokens (word + 1)
tag_by kind tokens word = None

abbrev pub tag_if : Option Node → List Token → Option ℕ
tag_if None tokens = None
tag_if (Some node) tokens = tag_by node.kind tokens node.first

-- the token of the tag in a specifier of a structure or an enumeration
abbrev pub tag_at : List Node → List Token → ℕ → Option ℕ
tag_at nodes tokens i = tag_if (slice_get nodes i) tokens

abbrev pub with_content : Kind → Option ℕ → Option ℕ
with_content kind.StructContent tag = tag
with_content kind.EnumContent tag = tag
with_content kind tag = None

abbrev pub content_if : Option Node → List Token → Option ℕ
content_if None tokens = None
content_if (Some node) tokens = with_content node.kind (tag_by node.kind tokens node.first)

-- the same, of a specifier with its content alone
abbrev pub content_at : List Node → List Token → ℕ → Option ℕ
content_at nodes tokens i = content_if (slice_get nodes i) tokens
