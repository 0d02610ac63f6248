-- Pass r: new names.
use Rattle.std.specs.Prelude.{ℕ, Bool, true, List, [], ◌∷◌, ◌++◌, ◌==◌, Option, None, Some, length, map, if◌then◌else◌}
use Rattle.std.specs.Ordering.{nat_cmp}
use Rattle.std.specs.List.{list_any}
use Rattle.cr_tokens.specs.declared.token.Token.{Token}
use Rattle.cr_syntax.specs.declared.node.Node.{Node}
use Rattle.cr_scopes_events.specs.Events.{events_of}
use Rattle.cr_scopes.specs.declared.names.Entity.{Entity}
use Rattle.cr_scopes.specs.declared.names.Names.{Names}
use Rattle.pass_edit.specs.declared.change.Change.{Change}
use Rattle.pass_edit.specs.declared.change.Text.TheVariants as change_to
use Rattle.pass_edit.specs.declared.form.Kept.{Kept}
use Rattle.pass_edit.specs.Forms.{nothing_kept}
use Rattle.pass_edit.specs.Menu.{Offering}
use Rattle.pass_levels.specs.Gathered.{gathered}
use Rattle.pass_levels.specs.Order.{in_order}
use Rattle.pass_levels.specs.Places.{replaced}
use Rattle.pass_names.specs.Reach.{entity_at}
use Rattle.pass_names.specs.Reserved.{reserved_tokens}
use Rattle.pass_names.specs.Short.{first_free, short_name}

-- one of the reserved tokens declares it
abbrev pub is_reserved : List ℕ → Entity → Bool
is_reserved reserved entity = list_any (λ token. list_any (λ other. other == token) reserved) entity.declared

-- all its tokens, in order
abbrev pub tokens_of : Entity → List ℕ
tokens_of entity = in_order nat_cmp (entity.declared ++ entity.uses)

-- each of its tokens becomes the kept name, of so many bytes
abbrev pub renamed : List Token → ℕ → Entity → List Change
renamed tokens bytes entity = map (λ token. replaced tokens token token (change_to.Kept 0 bytes)) (tokens_of entity)

abbrev pub entity_gives : List Token → ℕ → List ℕ → Entity → List (List Change)
entity_gives tokens bytes reserved entity = if is_reserved reserved entity then [] else renamed tokens bytes entity ∷ []

abbrev pub entities_give : List Token → ℕ → List ℕ → Names → ℕ → List (List Change)
entities_give tokens bytes reserved names at = entity_gives tokens bytes reserved (entity_at names at)

abbrev pub only_kept : List ℕ → Kept
only_kept name = record { bytes = name; tokens = []; forms = []; runs = [] }

-- What is offered with a new name, where these tokens are reserved.
abbrev pub renaming : List Token → Names → List ℕ → List ℕ → Offering
renaming tokens names reserved name = record { levels = gathered (entities_give tokens (length name) reserved names) (length names.entities) ∷ []; kept = only_kept name }

abbrev pub renaming_by : Option ℕ → List Token → Names → List ℕ → Offering
renaming_by None tokens names reserved = record { levels = [] ∷ []; kept = nothing_kept }
renaming_by (Some number) tokens names reserved = renaming tokens names reserved (short_name number)

-- What pass r offers: all tokens of an entity, other than main and the library's functions, become the first short name that is free.
abbrev pub r_offering : List ℕ → List Token → List Node → List ℕ → Names → Offering
r_offering file tokens nodes items names = renaming_by (first_free file tokens) tokens names (reserved_tokens file tokens true (events_of tokens nodes items))
