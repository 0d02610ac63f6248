-- All columns of a unit, and what they say of a token or a node.
use Rattle.std.specs.Prelude.{ℕ, Bool, false, List, Option, None, Some, length, slice_index_or, if◌then◌else◌}
use Rattle.cr_tokens.specs.declared.token.Token.{Token}
use Rattle.cr_syntax.specs.declared.node.Node.{Node}
use Rattle.cr_syntax.specs.declared.unit.Unit as tree
use Rattle.cr_scopes.specs.declared.names.Names.{Names}
use Rattle.cr_scopes.specs.Resolved.{is_number}
use Rattle.cr_scopes.specs.States.{name_in}
use Rattle.cr_scopes.specs.Units.{unit_events}
use Rattle.cr_scopes_bindings.specs.Spellings.{AreSpellings}
use Rattle.cr_scopes_bindings.specs.Last.{AreLast}
use Rattle.cr_scopes_bindings.specs.Nodes.{name_at, tag_at}
use Rattle.cr_scopes_bindings.specs.Entities.{entity_at, content_entity, first_of, previous_of, AreDeclaring}
use Rattle.cr_rows.specs.Columns.{AreOf}
use Rattle.cr_scopes_bindings.specs.Visible.{AreVisible}
use Rattle.cr_scopes_bindings.specs.declared.bindings.Bindings.{Bindings}
use Rattle.cr_scopes_bindings.specs.declared.bindings.TagBinding.{TagBinding}

pub record AreBindings (file : List ℕ) (unit : tree.Unit) (names : Names) (b : Bindings) : Type 0 where
  pub spellings : AreSpellings file unit.tokens.list.items b.spellings
  pub declarers : AreLast (name_at unit.nodes) (length unit.nodes) (length unit.tokens.list.items) b.declarers
  pub visible : AreVisible (name_in b.spellings) (unit_events unit) (length unit.tokens.list.items) b.visible
  pub declaring : AreDeclaring names (length names.of_token) b.declaring
  pub previous : AreOf (previous_of names) None (length names.of_token) b.previous
  pub specifiers : AreLast (tag_at unit.nodes unit.tokens.list.items) (length unit.nodes) (length unit.tokens.list.items) b.specifiers
  pub contents : AreLast (content_entity names unit.nodes unit.tokens.list.items) (length unit.nodes) (length names.entities) b.contents

-- the entry of a number, where there is one
abbrev pub entry_if : List (Option ℕ) → Option ℕ → Option ℕ
entry_if column None = None
entry_if column (Some k) = slice_index_or column k None

-- the node is the whole declarator, or the enumerator, of a token
abbrev pub is_declarer : Bindings → ℕ → ℕ → Bool
is_declarer b token i = is_number (slice_index_or b.declarers token None) i

abbrev pub own_name : Bindings → Option ℕ → ℕ → Option ℕ
own_name b None i = None
own_name b (Some token) i = if is_declarer b token i then Some token else None

-- The token of the ordinary identifier that a node declares. Of a declarator and those inside it, which name one token, that is the whole one.
abbrev pub declared_name : Bindings → List Node → ℕ → Option ℕ
declared_name b nodes i = own_name b (name_at nodes i) i

-- the node of the declaration that is visible at a token
abbrev pub visible_node : Bindings → ℕ → Option ℕ
visible_node b token = entry_if b.declarers (slice_index_or b.visible token None)

-- the node that declares the same before the token
abbrev pub earlier_node : Bindings → ℕ → Option ℕ
earlier_node b token = entry_if b.declarers (slice_index_or b.previous token None)

-- the node that declares first what the token stands for
abbrev pub first_node : Bindings → Names → ℕ → Option ℕ
first_node b names token = entry_if b.declarers (first_of names (entity_at names token))

abbrev pub tag_for : Bindings → Names → ℕ → TagBinding
tag_for b names token = record {
  first = entry_if b.specifiers (first_of names (entity_at names token));
  content = entry_if b.contents (entity_at names token);
  declares = slice_index_or b.declaring token false;
}

abbrev pub tag_if : Bindings → Names → Option ℕ → Option TagBinding
tag_if b names None = None
tag_if b names (Some token) = Some (tag_for b names token)

-- what is known of the tag in a specifier
abbrev pub tag_of : Bindings → Names → List Node → List Token → ℕ → Option TagBinding
tag_of b names nodes tokens i = tag_if b names (tag_at nodes tokens i)
