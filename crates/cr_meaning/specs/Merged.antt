-- Events as sets of cells: what is read, what is written or touched, and which writes are still open. See the laws.
use Rattle.std.specs.Prelude.{Bool, not, ◌&&◌, List}
use Rattle.std.specs.List.{list_any}
use Rattle.cr_footprint.specs.Cell.{Cell, same_cell}
use Rattle.cr_footprint.specs.Foot.{Sets}
use Rattle.cr_meaning.specs.Events.{Event, is_write, is_side_effect, is_sequenced, conflicts}

-- a write with no sequence point behind it
abbrev pub is_open : Event → Bool
is_open event = is_write event.deed && not (list_any is_sequenced event.path)

abbrev pub reads_at : Cell → Event → Bool
reads_at c event = not (is_side_effect event.deed) && same_cell c event.cell

abbrev pub writes_at : Cell → Event → Bool
writes_at c event = is_side_effect event.deed && same_cell c event.cell

abbrev pub opens_at : Cell → Event → Bool
opens_at c event = is_open event && same_cell c event.cell

-- the events of an expression, as the sets of a footprint
abbrev pub sets_of : List Event → Sets
sets_of events = record {
  reads = λ c. list_any (reads_at c) events;
  writes = λ c. list_any (writes_at c) events;
  opens = λ c. list_any (opens_at c) events;
}

-- some event of the one list conflicts with some event of the other on this cell
abbrev pub conflicts_at : Cell → Event → Event → Bool
conflicts_at c left right = same_cell c left.cell && conflicts left right

abbrev pub clash_at : List Event → List Event → Cell → Bool
clash_at events others c = list_any (λ event. list_any (conflicts_at c event) others) events
