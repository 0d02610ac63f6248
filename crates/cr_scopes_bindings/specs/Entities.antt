-- The entities of names, by the tokens that declare them.
use Rattle.std.specs.Prelude.{◌≡◌, ◌<◌, ◌==◌, ℕ, Bool, false, nat_lt, List, [], ◌∷◌, Option, None, Some, length, slice_get, slice_index_or, if◌then◌else◌}
use Rattle.std.specs.List.{list_any}
use Rattle.cr_tokens.specs.declared.token.Token.{Token}
use Rattle.cr_syntax.specs.declared.node.Node.{Node}
use Rattle.cr_scopes.specs.declared.names.Entity.{Entity}
use Rattle.cr_scopes.specs.declared.names.Names.{Names}
use Rattle.cr_scopes_bindings.specs.Last.{last_with}
use Rattle.cr_scopes_bindings.specs.Nodes.{content_at}

-- a number of an entity that is there
abbrev pub entity_within : ℕ → Option ℕ → Option ℕ
entity_within count None = None
entity_within count (Some entity) = if nat_lt entity count then Some entity else None

-- the entity that a token stands for
abbrev pub entity_at : Names → ℕ → Option ℕ
entity_at names token = entity_within (length names.entities) (slice_index_or names.of_token token None)

-- the token is one that declares
abbrev pub is_declared_by : ℕ → Entity → Bool
is_declared_by token entity = list_any (λ declared. declared == token) entity.declared

abbrev pub declares : Names → ℕ → Bool
declares names token = list_any (is_declared_by token) names.entities

pub record AreDeclaring (names : Names) (tokens : ℕ) (column : List Bool) : Type 0 where
  pub count : length column ≡ tokens
  pub each : (token : ℕ) → token < tokens → slice_index_or column token false ≡ declares names token

-- the entity that a token declares
abbrev pub declared_entity : Names → ℕ → Option ℕ
declared_entity names token = if declares names token then entity_at names token else None

-- the last token before this one that declares the entity
abbrev pub before_of : Names → ℕ → Option ℕ → Option ℕ
before_of names token None = None
before_of names token (Some entity) = last_with (declared_entity names) token entity

abbrev pub previous_of : Names → ℕ → Option ℕ
previous_of names token = before_of names token (entity_at names token)

-- the first token that declares the entity
abbrev pub first_in : List ℕ → Option ℕ
first_in [] = None
first_in (token ∷ rest) = Some token

abbrev pub first_if : Option Entity → Option ℕ
first_if None = None
first_if (Some entity) = first_in entity.declared

abbrev pub first_of : Names → Option ℕ → Option ℕ
first_of names None = None
first_of names (Some entity) = first_if (slice_get names.entities entity)

-- the entity of the token, where there is one
abbrev pub entity_if : Names → Option ℕ → Option ℕ
entity_if names None = None
entity_if names (Some token) = entity_at names token

-- the entity of the tag whose content a node is
abbrev pub content_entity : Names → List Node → List Token → ℕ → Option ℕ
content_entity names nodes tokens i = entity_if names (content_at nodes tokens i)
