-- What soundness comes to.
use Rattle.std.specs.Prelude.{◌≡◌, ◌≢◌, ℕ, ◌+◌, ◌<◌, ◌≤◌, ◌↔◌, List, [], ◌∷◌, ◌++◌, Some, slice_get, slice_index_or}
use Rattle.cr_core.specs.declared.marks.Mark.{Mark}
use Rattle.cr_core.specs.declared.marks.Mark.TheVariants.{Open}
use Rattle.cr_core.specs.declared.events.Event.{Event}
use Rattle.cr_core.specs.declared.marks.Entry.{Entry}
use Rattle.cr_core.specs.Row.{Row, IsLast, below, last_position, placed, marked, with_any_mark, with_last, under, early, past}
use Rattle.cr_core.specs.Sound.{total, IsSound}
use Rattle.cr_core.specs.State.{State, start, in_lists, IsSoundState, IsFinished, IsFirst, first_of}
use Rattle.cr_core.specs.Machine.{Runs}

-- positions rise from `low` on, and each entry but the last is settled and below the length
abbrev pub IsInOrder : ℕ → ℕ → Row → Type 0
IsInOrder len low [] = Unit {0}
IsInOrder len low (e ∷ []) = low ≤ e.position
IsInOrder len low (e ∷ f ∷ es) = (low ≤ e.position) × (e.mark ≢ Open) × (e.position < len) × IsInOrder len (e.position + 1) (f ∷ es)

-- in a sound state each worker's list is in order
abbrev pub EachListIsInOrder : Type 0
EachListIsInOrder = (s : State) → IsSoundState s → (i : ℕ) → IsInOrder s.len 0 (slice_index_or s.lists i [])

-- ordered commit: after every list of events the state is sound, and where it is finished, the least hit is the first position in
-- order that wasn't rejected
abbrev pub OrderedCommit : Type 0
OrderedCommit = (len workers : ℕ) (events : List Event) (s : State) → Runs (start len workers) events s
    → IsSoundState s × (IsFinished s → IsFirst s.len (in_lists s) (first_of s.len s.least))

-- an entry of some worker's list
abbrev pub IsMarked : State → ℕ → Mark → Type 0
IsMarked s p m = (i : ℕ) × (j : ℕ) × (slice_get (slice_index_or s.lists i []) j ≡ Some (record { position = p; mark = m }))

-- where a count is above 0 there is an entry
abbrev pub CountsAreEntries : Type 0
CountsAreEntries = (s : State) (p : ℕ) (m : Mark) → (0 < in_lists s (marked p m)) ↔ IsMarked s p m

-- an entry has one mark: a position stands in lists as often as it stands there with any mark
abbrev pub EachEntryHasOneMark : Type 0
EachEntryHasOneMark = (p : ℕ) (lists : List Row) → total (placed p) lists ≡ with_any_mark (λ f. total f lists) p

-- in a finished sound state, however it came about, the least hit is the first position in order that wasn't rejected
abbrev pub TheLeastHitIsFirst : Type 0
TheLeastHitIsFirst = (s : State) → IsSoundState s → IsFinished s → IsFirst s.len (in_lists s) (first_of s.len s.least)

-- the events of a list, from a state on, end in one state
abbrev pub ARunHasOneEnd : Type 0
ARunHasOneEnd = (s : State) (events : List Event) (t u : State) → Runs s events t → Runs s events u → t ≡ u

-- in a sound state at most `len` entries are below the length: no position is tried twice
abbrev pub FewAreTried : Type 0
FewAreTried = (len next least : ℕ) (lists : List Row) → IsSound len next least (λ f. total f lists) → total (under len) lists ≤ len

-- the bound on `next` follows from the facts before it: of each list, only the last entry is at or past the length
abbrev pub TheBoundFollows : Type 0
TheBoundFollows = (len next : ℕ) (lists : List Row) → ((p : ℕ) → total (placed p) lists ≡ below p next) → total (early len) lists ≡ 0
    → next ≤ len + total (past len) lists

-- a new entry is the last one of its list
abbrev pub ANewEntryIsLast : Type 0
ANewEntryIsLast = (l : Row) (e : Entry) → IsLast (l ++ e ∷ []) e

-- where the last entry gets a mark, it keeps its position
abbrev pub MarksMoveNothing : Type 0
MarksMoveNothing = (m : Mark) (l : Row) → last_position (with_last m l) ≡ last_position l
