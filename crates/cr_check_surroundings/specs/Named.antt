-- Names and tags by nodes.
use Rattle.std.specs.Prelude.{ℕ, List, Option, None, Some, slice_get}
use Rattle.cr_tokens.specs.declared.token.Token.{Token}
use Rattle.cr_syntax.specs.declared.node.Kind.{Kind}
use Rattle.cr_syntax.specs.declared.node.Kind.TheVariants as kind
use Rattle.cr_syntax.specs.declared.node.Node.{Node}
use Rattle.cr_scopes.specs.declared.names.Names.{Names}
use Rattle.cr_scopes_bindings.specs.declared.bindings.Bindings.{Bindings}
use Rattle.cr_scopes_bindings.specs.declared.bindings.TagBinding.{TagBinding}
use Rattle.cr_scopes_bindings.specs.Bindings.{declared_name, earlier_node, visible_node, tag_for}
use Rattle.cr_scopes_bindings.specs.Nodes.{tag_at}
use Rattle.cr_check_declarations.specs.declared.tree.Tag.{Tag}
use Rattle.cr_check_surroundings.specs.Raised.{raised_of}

-- the token of the name that a node uses: an identifier, a called name and a typedef name is its node's first token (6.5.1, 6.5.2.2, 6.7.8)
abbrev pub used_by : Kind → ℕ → Option ℕ
used_by kind.Identifier first = Some first
used_by kind.Call first = Some first
used_by kind.TypedefName first = Some first
used_by k first = None

abbrev pub used_name : Option Node → Option ℕ
used_name None = None
used_name (Some n) = used_by n.kind n.first

-- the node whose declaration is visible directly before a name (6.2.1p4)
abbrev pub visible_if : Bindings → Option ℕ → Option ℕ
visible_if b None = None
visible_if b (Some token) = visible_node b token

-- the last node before a name that declares the same, in whatever scope (6.2.7p2)
abbrev pub same_if : Bindings → Option ℕ → Option ℕ
same_if b None = None
same_if b (Some token) = earlier_node b token

-- what says which type the name has that a node uses
abbrev pub visible_for : Bindings → List Node → List (Option ℕ) → ℕ → Option ℕ
visible_for b nodes above i = raised_of nodes above (visible_if b (used_name (slice_get nodes i))) i

-- what says which type a name has directly before the node that declares it (6.2.2p4, 6.7p4)
abbrev pub earlier_for : Bindings → List Node → List (Option ℕ) → ℕ → Option ℕ
earlier_for b nodes above i = raised_of nodes above (visible_if b (declared_name b nodes i)) i

-- the last declaration of the same before a node that declares a name
abbrev pub same_for : Bindings → List Node → List (Option ℕ) → ℕ → Option ℕ
same_for b nodes above i = raised_of nodes above (same_if b (declared_name b nodes i)) i

abbrev pub tag_with : ℕ → TagBinding → Option ℕ → Option Tag
tag_with token tag None = None
tag_with token tag (Some first) = Some (record { token = token; first = first; content = tag.content; declares = tag.declares })

abbrev pub tag_if : Bindings → Names → Option ℕ → Option Tag
tag_if b names None = None
tag_if b names (Some token) = tag_with token (tag_for b names token) (tag_for b names token).first

-- the tag in a specifier, where it is declared
abbrev pub tag_of : Bindings → Names → List Node → List Token → ℕ → Option Tag
tag_of b names nodes tokens i = tag_if b names (tag_at nodes tokens i)
