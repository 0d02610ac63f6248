-- Items by the entities that they are of.
use Rattle.std.specs.Prelude.{◌≡◌, ◌<◌, ℕ, List, [], ◌∷◌, ◌++◌, Option, None, Some, length, slice_index_or, if◌then◌else◌}
use Rattle.std.specs.List.{filter}
use Rattle.cr_syntax.specs.declared.node.Node.{Node}
use Rattle.cr_scopes.specs.declared.names.Names.{Names}
use Rattle.cr_scopes_events.specs.declared.declarator.Declarator.{Declarator}
use Rattle.cr_scopes_events.specs.Declarators.{declarator_of}
use Rattle.pass_levels.specs.Nodes.{node_at}
use Rattle.pass_params.specs.Functions.{is_next, number_of, same_number}

-- the items of an entity among these, by the entity that each is of
abbrev pub items_of : (ℕ → Option ℕ) → Option ℕ → List ℕ → List ℕ
items_of number_by number items = filter (λ item. same_number number (number_by item)) items

-- a row for each entity: its items, in their order
abbrev pub AreGrouped : (ℕ → Option ℕ) → List ℕ → List (List ℕ) → Type 0
AreGrouped number_by items rows = (entity : ℕ) → entity < length rows → slice_index_or rows entity [] ≡ items_of number_by (Some entity) items

-- the rows once an item was put behind those of its entity
pub record IsPut (number : Option ℕ) (item : ℕ) (old new : List (List ℕ)) : Type 0 where
  pub whole : length new ≡ length old
  pub each : (entity : ℕ) → entity < length old → slice_index_or new entity [] ≡ slice_index_or old entity [] ++ (if same_number (Some entity) number then item ∷ [] else [])

-- the entity that a function's declarator declares, where it stands next to its name
abbrev pub number_where : Names → Option ℕ → Option ℕ
number_where names None = None
number_where names (Some token) = number_of names token

abbrev pub function_by : Names → ℕ → Declarator → Option ℕ
function_by names function declared = if is_next function declared.next then number_where names declared.name else None

abbrev pub function_number : List Node → Names → ℕ → Option ℕ
function_number nodes names function = function_by names function (declarator_of nodes function)

-- the entity that a call's first token names
abbrev pub call_number : List Node → Names → ℕ → Option ℕ
call_number nodes names call = number_of names (node_at nodes call).first
