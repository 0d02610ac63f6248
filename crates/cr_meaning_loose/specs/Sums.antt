-- What a forest comes to in all: whether an assignment, `++`, `--`, a call or a touch is in it, and which cells are read in it and which written or
-- touched, those of called functions' bodies included.
use Rattle.std.specs.Prelude.{ℕ, Bool, false, not, ◌&&◌, ◌||◌, Option, Some, None, List, slice_get}
use Rattle.std.specs.List.{list_any}
use Rattle.cr_footprint.specs.Cell.{Cell as Place}
use Rattle.cr_meaning.specs.Events.{Event}
use Rattle.cr_meaning.specs.Merged.{reads_at, writes_at}
use Rattle.cr_meaning.specs.Quiet.{is_quiet_work, is_noisy}
use Rattle.cr_meaning.specs.World.{Program}
use Rattle.cr_meaning.specs.declared.op.Op.{Op}
use Rattle.cr_meaning_seen.specs.Seen.{Forest, bare, node}

-- some event of an evaluation that came to its answer
abbrev pub among : (Event → Bool) → Option (List Event) → Bool
among test None = false
among test (Some events) = list_any test events

-- some evaluation in a forest, by its node and its events
abbrev pub some_in : (ℕ → Option (List Event) → Bool) → Forest → Bool
some_in test bare = false
some_in test (node number inner end next) = test number end || (some_in test inner || some_in test next)

abbrev pub is_noisy_op : Option Op → Bool
is_noisy_op None = false
is_noisy_op (Some op) = not (is_quiet_work op.work)

abbrev pub is_loud_at : Program → ℕ → Option (List Event) → Bool
is_loud_at p number end = is_noisy_op (slice_get p.ops number) || among is_noisy end

abbrev pub reads_cell : Place → ℕ → Option (List Event) → Bool
reads_cell cell number end = among (reads_at cell) end

abbrev pub writes_cell : Place → ℕ → Option (List Event) → Bool
writes_cell cell number end = among (writes_at cell) end

abbrev pub is_loud : Program → Forest → Bool
is_loud p forest = some_in (is_loud_at p) forest

abbrev pub is_read : Place → Forest → Bool
is_read cell forest = some_in (reads_cell cell) forest

abbrev pub is_written : Place → Forest → Bool
is_written cell forest = some_in (writes_cell cell) forest

-- one of two writes or touches the cell, and the other reads, writes or touches it
abbrev pub do_meet : Forest → Forest → Place → Bool
do_meet one other cell = (is_written cell one && (is_read cell other || is_written cell other)) || (is_written cell other && (is_read cell one || is_written cell one))
