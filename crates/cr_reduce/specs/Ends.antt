-- What a reduction's end says.
use Rattle.std.specs.Prelude.{◌≡◌, ◌⊎◌, ℕ, ◌+◌, ◌*◌, ◌-◌, true, List, [], length, Option, Some}
use Rattle.cr_reduce.specs.Bench.{Judging, RoseAt}
use Rattle.cr_reduce.specs.declared.end.End.{End}
use Rattle.cr_reduce.specs.declared.walk.Walk.{Walk}
use Rattle.cr_reduce.specs.declared.end.Why.{Why}
use Rattle.cr_reduce.specs.declared.end.Why.TheVariants.{Fixed, Limit, Fault, NoMemory}
use Rattle.cr_cursor.specs.Variants.{Offer}
use Rattle.cr_reduce.specs.Reduction.{AllRejected, Outcome, Within, cursors_of}
use Rattle.cr_reduce.specs.Search.{Search, ReducesFileInRun, ReducesFileAsTold, RejectsInRun, RejectsAsTold}

abbrev pub outcome_of : End → Why → Outcome
outcome_of e why = record { file = e.file.items; accepted = e.accepted.items; turns = e.turns; why = why }

abbrev pub end_of_walk : {T : Type 0} → Walk T → Why → End
end_of_walk w why = record { file = w.file; accepted = w.accepted; turns = w.turns; why = why }

-- Where a reduction ended, how many calls were asked beside those that its turns and acceptances account for: where it ended by
-- itself none, else those of its last epoch at most.
abbrev pub calls_beside : ℕ → Why → ℕ
calls_beside window Fixed = 0
calls_beside window Limit = 0
calls_beside window (Fault turn worker) = window
calls_beside window NoMemory = window

-- How many calls are asked at most in a reduction with such a window: one for each turn, for each acceptance the positions of its
-- epoch behind it, and those beside.
abbrev pub most_calls : ℕ → End → ℕ
most_calls window e = e.turns + length e.accepted.items * (window - 1) + calls_beside window e.why

-- With as many turns as were made, the reduction comes to this file and this accepted list.
abbrev pub StopsAt : (Option ℕ → Outcome → Type 0) → End → Type 0
StopsAt reduction e = (why : Why) × reduction (Some e.turns) (outcome_of e why)

-- The file is as it was, and nothing was looked at.
pub record IsUntouched (file : List ℕ) (e : End) : Type 0 where
  pub same : e.file.items ≡ file
  pub none : e.accepted.items ≡ []
  pub unturned : e.turns ≡ 0

-- By the answers of the run the end is the reduction's, whole, at a fault too. Want of memory leaves what the reduction
-- comes to after the turns that were made; without memory for what is offered nothing was done.
abbrev pub EndsAt : (Option ℕ → Outcome → Type 0) → Type 0 → Option ℕ → End → Why → Type 0
EndsAt reduction untouched limit e Fixed = reduction limit (outcome_of e Fixed)
EndsAt reduction untouched limit e Limit = reduction limit (outcome_of e Limit)
EndsAt reduction untouched limit e (Fault turn worker) = reduction limit (outcome_of e (Fault turn worker))
EndsAt reduction untouched limit e NoMemory = Within limit e.turns × (untouched ⊎ StopsAt reduction e)

abbrev pub EndsBy : (Option ℕ → Outcome → Type 0) → List ℕ → Option ℕ → End → Why → Type 0
EndsBy reduction file limit e why = EndsAt reduction (IsUntouched file e) limit e why

-- No fault is told: it is one of the turn after the last, and leaves what the reduction comes to after the turns made.
abbrev pub EndsToldAt : (Option ℕ → Outcome → Type 0) → Type 0 → Option ℕ → End → Why → Type 0
EndsToldAt reduction untouched limit e (Fault turn worker) = (turn ≡ e.turns + 1) × Within limit e.turns × StopsAt reduction e
EndsToldAt reduction untouched limit e why = EndsAt reduction untouched limit e why

abbrev pub EndsToldBy : (Option ℕ → Outcome → Type 0) → List ℕ → Option ℕ → End → Why → Type 0
EndsToldBy reduction file limit e why = EndsToldAt reduction (IsUntouched file e) limit e why

-- by the answers given in the run
abbrev pub EndsInRun : Search → Judging → Judging → Option ℕ → List ℕ → End → Type 0
EndsInRun s before now limit file e = EndsBy (ReducesFileInRun s before now file) file limit e e.why

-- by the told answers: the one-thread first-accepted reduction
abbrev pub EndsAsTold : Search → Option ℕ → List ℕ → End → Type 0
EndsAsTold s limit file e = EndsToldBy (ReducesFileAsTold s file) file limit e e.why

-- No pass has an acceptable variant of the result left: in the run each was rejected.
abbrev pub IsFixedInRun : Search → Judging → Judging → List ℕ → Type 0
IsFixedInRun s before now file = (offer : Offer) × s.Offers file offer × AllRejected offer (RejectsInRun s before now) file 0 (length (cursors_of offer))

-- and by the told answers
abbrev pub IsFixedAsTold : Search → List ℕ → Type 0
IsFixedAsTold s file = (offer : Offer) × s.Offers file offer × AllRejected offer (RejectsAsTold s) file 0 (length (cursors_of offer))

-- A fault comes only where the question asks, and the count of faults of that worker's judge rose.
abbrev pub FaultsWithCause : Search → Judging → Judging → Why → Type 0
FaultsWithCause s before now (Fault turn worker) = (s.asks ≡ true) × RoseAt worker before.faults now.faults
FaultsWithCause s before now _ = Unit {0}
