-- The walk of a reduction, as its loop has it.
use Rattle.std.specs.Prelude.{◌≡◌, ◌≢◌, ℕ, ◌+◌, ◌*◌, ◌-◌, ◌<◌, ◌≤◌, Bool, true, false, List, ◌++◌, length, Option, Some, None}
use Rattle.std.specs.List.{slice_get}
use Rattle.cr_outside.specs.Judge.{Call}
use Rattle.cr_cursor.specs.declared.passes.Cursor.{Cursor}
use Rattle.cr_reduce.specs.declared.end.Accepted.{Accepted}
use Rattle.cr_reduce.specs.declared.end.Why.{Why}
use Rattle.cr_reduce.specs.declared.end.Why.TheVariants.{Fixed, Limit, Fault, NoMemory}
use Rattle.cr_reduce.specs.declared.walk.Walk.{Walk}
use Rattle.cr_pool.specs.declared.job.EpochEnd.{EpochEnd}
use Rattle.cr_pool.specs.declared.job.EpochEnd.TheVariants as ending
use Rattle.cr_cursor.specs.Variants.{Offer}
use Rattle.cr_reduce.specs.Sizes.{HasSize, IsSmaller}
use Rattle.cr_reduce.specs.Bench.{AllGained, GoesOn, Judging}
use Rattle.cr_reduce.specs.Reduction.{AllRejected, IsFirstAccepted, Proposals, State, Outcome, Within, cursors_of, moved, next_round, taken}
use Rattle.cr_reduce.specs.Ends.{calls_beside}
use Rattle.cr_reduce.specs.Search.{Search, AcceptsInRun, AsksOnlyCandidates, FailsInRun, RejectsInRun, ReducesInRun, ChainsTo}

-- The state of a walk, where an index and a file's bytes make this offer.
abbrev pub state_of : {T : Type 0} → (T → List ℕ → Offer) → Walk T → State
state_of offer w = record { file = w.file.items; offer = offer w.prep w.file.items; position = w.position; changed = w.changed; accepted = w.accepted.items; turns = w.turns }

-- A bound on the turns that are left: a rejected position takes one, and an acceptance makes the size fall.
abbrev pub left_of : Bool → ℕ → ℕ → ℕ → ℕ
left_of false size count position = size * 1073741824 + (count - position)
left_of true size count position = size * 1073741824 + 536870912 + (count - position)

abbrev pub work_of : {T : Type 0} → Walk T → ℕ
work_of w = left_of w.changed w.size w.count w.position

-- The walk's numbers are those of its file, and its turns are few.
pub record IsSound {T : Type 0} (p : Proposals) (offer : T → List ℕ → Offer) (w : Walk T) : Type 0 where
  pub sized : HasSize w.file.items w.size
  pub small : w.size ≤ 12582912
  pub offered : p w.file.items (offer w.prep w.file.items)
  pub counted : w.count ≡ length (cursors_of (offer w.prep w.file.items))
  pub few : w.count ≤ 201326592
  pub placed : w.position ≤ w.count
  pub bounded : w.turns + work_of w ≤ 9259400833873739776

-- From one state to another over rejected positions, none or more.
pub record GoesOver (s : Search) (before now : Judging) (from to : State) : Type 0 where
  pub position : ℕ
  pub turns : ℕ
  pub low : from.position ≤ position
  pub high : position ≤ length (cursors_of from.offer)
  pub all : AllRejected from.offer (RejectsInRun s before now) from.file from.position position
  pub count : turns + from.position ≡ from.turns + position
  pub is : to ≡ moved from position turns

-- further on, over rejected positions, or to the first accepted one
pub data MovesOn (s : Search) (before now : Judging) (from to : State) : Type 0 where
  passed : GoesOver s before now from to → MovesOn s before now from to
  accepted : (position : ℕ) (at : Cursor) (size turns : ℕ) (next : Offer)
      → IsFirstAccepted from.offer (AcceptsInRun s before now) (RejectsInRun s before now) from.file from.position position at
      → HasSize (from.offer.bytes at) size → turns + from.position ≡ from.turns + position + 1 → s.Offers (from.offer.bytes at) next
      → to ≡ taken from at size turns next → MovesOn s before now from to

-- A smaller, lawful variant of the state's file.
pub record IsTried (s : Search) (from : State) (variant : List ℕ) : Type 0 where
  pub position : ℕ
  pub at : Cursor
  pub there : slice_get (cursors_of from.offer) position ≡ Some at
  pub is : variant ≡ from.offer.bytes at
  pub smaller : IsSmaller variant from.file
  pub lawful : s.Lawful variant

-- a call about such a variant, under the file's own name
abbrev pub AboutTried : Search → State → Call → Type 0
AboutTried s from call = (call.name ≡ s.name) × IsTried s from call.file

-- The calls made from one time to another are about such variants.
abbrev pub AsksOnlyTried : Search → Judging → Judging → State → Type 0
AsksOnlyTried s before now from = AllGained (AboutTried s from) before.calls now.calls

-- What completes the walk from one state on completes it from the other on, whatever is answered later.
pub record Leads (s : Search) (before now : Judging) (from to : State) : Type 0 where
  pub later : from.turns ≤ to.turns
  pub leads : (after : Judging) (limit : Option ℕ) (out : Outcome) → GoesOn now after → Within limit to.turns → ReducesInRun s before after limit to out → ReducesInRun s before after limit from out

-- The trial of the variant at the state's position failed with this worker.
pub record FailsHere (s : Search) (before now : Judging) (st : State) (worker : ℕ) : Type 0 where
  pub at : Cursor
  pub there : slice_get (cursors_of st.offer) st.position ≡ Some at
  pub failed : FailsInRun s before now worker st.file (st.offer.bytes at)

-- What an epoch says of so many positions of the state's file, from the state's own on.
abbrev pub EpochSays : Search → Judging → Judging → State → ℕ → EpochEnd → Type 0
EpochSays s before now st len (ending.NoneOf n) = (n ≡ len) × AllRejected st.offer (RejectsInRun s before now) st.file st.position (st.position + len)
EpochSays s before now st len (ending.Found position variant) = (position < st.position + len)
    × ((at : Cursor) × (variant.items ≡ st.offer.bytes at) × IsFirstAccepted st.offer (AcceptsInRun s before now) (RejectsInRun s before now) st.file st.position position at)
EpochSays s before now st len (ending.Fault position worker) = (st.position ≤ position) × (position < st.position + len)
    × AllRejected st.offer (RejectsInRun s before now) st.file st.position position
    × ((at : Cursor) × (slice_get (cursors_of st.offer) position ≡ Some at) × FailsInRun s before now worker st.file (st.offer.bytes at))
EpochSays s before now st len ending.NoMemory = Unit {0}

-- the bytes are those of the variant at this position
abbrev pub IsVariantAt : Offer → ℕ → List ℕ → Type 0
IsVariantAt offer position variant = (at : Cursor) → slice_get (cursors_of offer) position ≡ Some at → variant ≡ offer.bytes at

-- The variant of a position has become the file.
pub record IsTaken (p : Proposals) (from : State) (position : ℕ) (to : State) : Type 0 where
  pub at : Cursor
  pub size : ℕ
  pub turns : ℕ
  pub next : Offer
  pub there : slice_get (cursors_of from.offer) position ≡ Some at
  pub has : HasSize (from.offer.bytes at) size
  pub count : turns + from.position ≡ from.turns + position + 1
  pub offered : p (from.offer.bytes at) next
  pub is : to ≡ taken from at size turns next

-- So many positions are tried at once: some, no more than the window allows, than are left in the round, and than the limit leaves.
pub record IsLength (limit : Option ℕ) (window left turns len : ℕ) : Type 0 where
  pub some : 0 < len
  pub few : len ≤ window
  pub placed : len ≤ left
  pub within : Within limit (turns + len)

-- how many calls the turns and the acceptances up to a state account for
abbrev pub calls_for : ℕ → State → ℕ
calls_for window st = st.turns + length st.accepted * (window - 1)

-- No more calls were asked from one state to another than those that they account for, and so many beside.
abbrev pub AsksFew : ℕ → Judging → Judging → State → State → ℕ → Type 0
AsksFew window before now from to beside = now.asked + calls_for window from ≤ before.asked + calls_for window to + beside

-- how many beside, where a step may have ended the walk
abbrev pub calls_beside_step : ℕ → Option Why → ℕ
calls_beside_step window None = 0
calls_beside_step window (Some why) = calls_beside window why

-- one step: some positions, or a new round
pub data Advances (s : Search) (before now : Judging) (from to : State) : Type 0 where
  moves : MovesOn s before now from to → Advances s before now from to
  round : from.position ≡ length (cursors_of from.offer) → from.changed ≡ true → to ≡ next_round from → Advances s before now from to

-- why the walk ends in a state
abbrev pub EndsHere : Search → Judging → Judging → Option ℕ → State → Why → Type 0
EndsHere s before now limit st Fixed = (st.position ≡ length (cursors_of st.offer)) × (st.changed ≡ false)
EndsHere s before now limit st Limit = (st.position < length (cursors_of st.offer)) × (limit ≡ Some st.turns)
EndsHere s before now limit st (Fault turn worker) = (turn ≡ st.turns + 1) × (limit ≢ Some st.turns) × FailsHere s before now st worker
EndsHere s before now limit st NoMemory = Unit {0}

-- What was accepted on the way from one state to another, and that the test was asked about nothing but candidates.
pub record Traces (s : Search) (before now : Judging) (from to : State) : Type 0 where
  pub more : List Accepted
  pub accepted_is : to.accepted ≡ from.accepted ++ more
  pub last : ChainsTo s.Offers from.file more to.file
  pub offered : s.Offers to.file to.offer
  pub asks : AsksOnlyCandidates s from.file more before now

-- The walk went from one state to another, with the calls made from one time to another.
pub record Walked (s : Search) (before now : Judging) (from to : State) : Type 0 where
  pub goes_on : GoesOn before now
  pub leads : Leads s before now from to
  pub traces : Traces s before now from to
