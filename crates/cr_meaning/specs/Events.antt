-- Events and their order (C11 5.1.2.3, 6.5p2, p3): what the evaluation of an expression reads and writes, and which of these
-- events are sequenced.
use Rattle.std.specs.Prelude.{ℕ, suc, ◌==◌, Bool, true, false, not, ◌&&◌, ◌||◌, List, [], ◌∷◌, ◌++◌, map, if◌then◌else◌}
use Rattle.std.specs.List.{list_any}
use Rattle.cr_footprint.specs.Cell.{Cell, same_cell}

-- ---- events

-- the order of a node's operands among themselves. `Sequence`: the first is sequenced before the others, as that of a comma, of
-- `&&` and `||` where the right one is evaluated, and of `?:` (6.5.13p4, 6.5.14p4, 6.5.15p4, 6.5.17p2). `Arguments`: each is
-- sequenced before the call, and no one before another (6.5.2.2p10). `Beside`: none is sequenced (6.5p3)
pub data Order : Type 0 where
  Beside : Order
  Sequence : Order
  Arguments : Order

-- a step down from a node to an operand: the order of the node's operands, and the operand's number
pub record Step : Type 0 where
  pub order : Order
  pub operand : ℕ

-- what an event does with its cell. A touch is the read of an object through an lvalue of a volatile type, a side effect
-- (5.1.2.3p2)
pub data Deed : Type 0 where
  Reads : Deed
  Touches : Deed
  Writes : Deed

-- an event: the path down to the node of which it is the own event, the cell, and what is done with it
pub record Event : Type 0 where
  pub path : List Step
  pub deed : Deed
  pub cell : Cell

-- ---- sequencing

abbrev pub is_write : Deed → Bool
is_write Reads = false
is_write Touches = false
is_write Writes = true

abbrev pub is_side_effect : Deed → Bool
is_side_effect Reads = false
is_side_effect Touches = true
is_side_effect Writes = true

-- the operand is sequenced before what its node does next
abbrev pub is_sequenced : Step → Bool
is_sequenced step = elim step.order as (λ o. Bool) [ Beside ↦ false | Sequence ↦ step.operand == 0 | Arguments ↦ true ]

-- an event below a node, by its path from the node's operand on, is settled for the node: it is no write, or stands in a
-- sequenced operand of some node between. So a value computation of an operand comes before the node's own event, and a side
-- effect only where a sequence point lies between (6.5p1, 6.5.16p3). That a touch is settled is this project's choice
abbrev pub is_settled : List Step → Deed → Bool
is_settled path deed = not (is_write deed) || list_any is_sequenced path

-- events in two operands of one node are ordered where one of them is the sequenced one of a `Sequence`
abbrev pub are_apart : Step → Step → Bool
are_apart left right = elim left.order as (λ o. Bool) [ Beside ↦ false | Sequence ↦ (left.operand == 0) || (right.operand == 0) | Arguments ↦ false ]

-- two events are ordered: own events of one node, its read coming before its write (6.5.2.4p2, 6.5.16p3); a node's own event and
-- a settled one below it; events in two operands of a node that orders them
abbrev pub are_ordered : List Step → Deed → List Step → Deed → Bool
are_ordered [] deed [] other = true
are_ordered [] deed (step ∷ path) other = is_settled path other
are_ordered (step ∷ path) deed [] other = is_settled path deed
are_ordered (step ∷ path) deed (step' ∷ path') other =
    if step.operand == step'.operand then are_ordered path deed path' other else are_apart step step'

-- two events conflict: they are unordered, on one cell, and one of them at least is a side effect (6.5p2)
abbrev pub conflicts : Event → Event → Bool
conflicts left right =
    (same_cell left.cell right.cell && (is_side_effect left.deed || is_side_effect right.deed))
    && not (are_ordered left.path left.deed right.path right.deed)

-- some event of the one list conflicts with some event of the other
abbrev pub clash : List Event → List Event → Bool
clash events others = list_any (λ event. list_any (conflicts event) others) events

-- ---- the events of a node

-- an operand's events, seen from its node
abbrev pub moved_below : Step → Event → Event
moved_below step event = record { path = step ∷ event.path; deed = event.deed; cell = event.cell }

abbrev pub below : Step → List Event → List Event
below step events = map (moved_below step) events

-- an event of the node itself
abbrev pub own : Deed → Cell → Event
own deed cell = record { path = []; deed = deed; cell = cell }

-- the events of the operands from a number on, all together
abbrev pub gathered : Order → ℕ → List (List Event) → List Event
gathered order number [] = []
gathered order number (events ∷ rest) = below (record { order = order; operand = number }) events ++ gathered order (suc number) rest

-- an event of one operand conflicts with an event of another
abbrev pub operands_clash : Order → ℕ → List (List Event) → Bool
operands_clash order number [] = false
operands_clash order number (events ∷ rest) =
    clash (below (record { order = order; operand = number }) events) (gathered order (suc number) rest) || operands_clash order (suc number) rest
