-- What a reader expects of the meaning, as facts about the definitions.
use Rattle.std.specs.Prelude.{◌≡◌, ◌≢◌, ℕ, ◌==◌, Bool, true, false, Some, MatchOption, List, [], ◌∷◌}
use Rattle.std.specs.List.{list_any}
use Rattle.cr_footprint.specs.Cell.{Cell}
use Rattle.cr_footprint.specs.Foot.{no_events, with_read, with_touch, with_write, union_of, then_of, meets}
use Rattle.cr_library.specs.Format.{ArePiecesOf, LeavesProfile}
use Rattle.cr_meaning.specs.Library.{pieces_of}
use Rattle.cr_meaning.specs.Language.{Reply, gave, Runs}
use Rattle.cr_meaning.specs.Playing.{played}
use Rattle.cr_meaning.specs.Events.{Event, Step, Deed, Reads, Touches, Writes, Order, Beside, Sequence, Arguments, is_side_effect, below, own, gathered, clash}
use Rattle.cr_meaning.specs.Merged.{sets_of, clash_at}
use Rattle.cr_meaning.specs.Quiet.{AreQuiet, AreReads}
use Rattle.cr_meaning.specs.World.{Program, World, Answer, part, Halt}
use Rattle.cr_meaning.specs.Meaning.{Means, body, reach, operands, root_of, start_of, run_of}
use Rattle.cr_meaning.specs.declared.run.Run.{Run}
use Rattle.cr_meaning.specs.declared.value.Value.{Value}

-- ---- runs

-- a program has one meaning at most
abbrev pub OneMeaning : Type 0
OneMeaning = (p : Program) (one other : Run) → Means p one → Means p other → one ≡ other

-- a run that was followed to its end is the meaning
abbrev pub FollowedIsMeant : Type 0
FollowedIsMeant = (p : Program) (most : ℕ) (reply : Reply Answer World Halt) (outcome : Run)
    → played (body p) most (body p (operands (root_of p) [])) (start_of p.limits) ≡ Some reply → run_of p.limits reply ≡ Some outcome → Means p outcome

-- the pieces of a format are those of the library's definition, and there are none where the format leaves the profile
abbrev pub FormatsAreRead : Type 0
FormatsAreRead = (format : List ℕ) → MatchOption (pieces_of format) (LeavesProfile format) (ArePiecesOf format)

-- ---- events as sets of cells

-- two lists of events, one of an operand of no `Sequence` and one of another operand: they conflict exactly on the cells on which
-- their sets meet
abbrev pub ConflictsAreMeetings : Type 0
ConflictsAreMeetings = (order : Order) (i j : ℕ) (events others : List Event) (c : Cell) → order ≢ Sequence → (i == j) ≡ false
    → clash_at (below (record { order = order; operand = i }) events) (below (record { order = order; operand = j }) others) c ≡ meets (sets_of events) (sets_of others) c

-- events in the sequenced operand of a `Sequence` conflict with none of another operand
abbrev pub SequencedNeverConflict : Type 0
SequencedNeverConflict = (j : ℕ) (events others : List Event) → (0 == j) ≡ false
    → clash (below (record { order = Sequence; operand = 0 }) events) (below (record { order = Sequence; operand = j }) others) ≡ false

-- a node's own event conflicts with events below it exactly where a write on its cell is open
abbrev pub OwnConflictsAreOpen : Type 0
OwnConflictsAreOpen = (deed : Deed) (c : Cell) (step : Step) (events : List Event)
    → clash (own deed c ∷ []) (below step events) ≡ (sets_of events).opens c

-- some event conflicts exactly where one does on some cell
abbrev pub ConflictHasCell : Type 0
ConflictHasCell = (events others : List Event) → clash events others ≡ true → (c : Cell) × (clash_at events others c ≡ true)

-- where no event is a side effect there is no conflict
abbrev pub ReadsNeverConflict : Type 0
ReadsNeverConflict = (events others : List Event) → list_any (λ e. is_side_effect e.deed) events ≡ false → list_any (λ e. is_side_effect e.deed) others ≡ false
    → clash events others ≡ false

-- a node without a side effect in it gives reads alone, so it conflicts with no other such node
abbrev pub QuietNodesRead : Type 0
QuietNodesRead = (p : Program) (q : ℕ → Bool) → AreQuiet p q → (node : ℕ) → q node ≡ true
    → (s t : World) (value : Value) (events : List Event) → Runs (body p) (body p (reach node)) s (gave (part value events) t) → AreReads events

-- the sets of no event, of an own event beside others, of two operands, and of arguments before their call
abbrev pub NothingHasNoSets : Type 0
NothingHasNoSets = sets_of [] ≡ no_events

abbrev pub OwnReadIsAdded : Type 0
OwnReadIsAdded = (c : Cell) (events : List Event) → sets_of (own Reads c ∷ events) ≡ with_read (sets_of events) c

abbrev pub OwnTouchIsAdded : Type 0
OwnTouchIsAdded = (c : Cell) (events : List Event) → sets_of (own Touches c ∷ events) ≡ with_touch (sets_of events) c

abbrev pub OwnWriteIsAdded : Type 0
OwnWriteIsAdded = (c : Cell) (events : List Event) → sets_of (own Writes c ∷ events) ≡ with_write (sets_of events) c

abbrev pub OperandsBesideAreUnited : Type 0
OperandsBesideAreUnited = (events others : List Event) → sets_of (gathered Beside 0 (events ∷ others ∷ [])) ≡ union_of (sets_of events) (sets_of others)

abbrev pub SequencedOperandIsSettled : Type 0
SequencedOperandIsSettled = (events others : List Event) → sets_of (gathered Sequence 0 (events ∷ others ∷ [])) ≡ then_of (sets_of events) (sets_of others)

abbrev pub ArgumentIsSettled : Type 0
ArgumentIsSettled = (i : ℕ) (events : List Event) → sets_of (below (record { order = Arguments; operand = i }) events) ≡ then_of (sets_of events) no_events
