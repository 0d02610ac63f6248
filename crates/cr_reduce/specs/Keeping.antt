-- Rows that are kept one after another, and a reduction that goes on behind them.
use Rattle.std.specs.Prelude.{◌≡◌, ◌⊎◌, ℕ, ◌+◌, ◌*◌, ◌-◌, ◌≤◌, Bool, true, false, List, [], ◌∷◌, ◌++◌, length, Option}
use Rattle.cr_cursor.specs.declared.passes.Cursor.{Cursor}
use Rattle.cr_cursor.specs.Variants.{Offer, cursor, place_of}
use Rattle.cr_reduce.specs.Bench.{Judging}
use Rattle.cr_reduce.specs.Ends.{EndsAt, EndsToldAt, most_calls}
use Rattle.cr_reduce.specs.Reduction.{Outcome, Proposals, State}
use Rattle.cr_reduce.specs.Search.{AsksOnlyCandidates, ChainsTo, ReducesAsTold, ReducesInRun, Search}
use Rattle.cr_reduce.specs.declared.end.Accepted.{Accepted}
use Rattle.cr_reduce.specs.declared.end.End.{End}
use Rattle.cr_reduce.specs.declared.end.Kept.{Kept}
use Rattle.cr_reduce.specs.declared.end.Why.TheVariants.{NoMemory}

-- These come first in the list.
abbrev pub Front : List Accepted → List Accepted → Type 0
Front some all = (more : List Accepted) × (all ≡ some ++ more)

-- the same rows, or one more
abbrev pub Grows : List Accepted → List Accepted → Type 0
Grows old new = (new ≡ old) ⊎ ((row : Accepted) × (new ≡ old ++ row ∷ []))

-- some row is there
abbrev pub has_some : List Accepted → Bool
has_some [] = false
has_some (row ∷ more) = true

-- Where a reduction goes on that has accepted these rows: behind the last of them, in a round that accepted something.
abbrev pub kept_state : List ℕ → Offer → Cursor → List Accepted → ℕ → State
kept_state file offer at rows turns = record { file = file; offer = offer; position = place_of offer.widths at; changed = has_some rows; accepted = rows; turns = turns }

abbrev pub goes_on_at : Kept → Offer → State
goes_on_at kept offer = kept_state kept.file.items offer kept.at kept.accepted.items kept.turns

-- Without rows it begins at the first position.
abbrev pub BeginsFirst : Kept → Type 0
BeginsFirst kept = kept.accepted.items ≡ [] → kept.at ≡ cursor 0 0 0

-- The cursor and the turns are those of the last row, or without rows the first cursor and none.
abbrev pub IsBehind : List Accepted → Cursor → ℕ → Type 0
IsBehind [] at turns = (at ≡ cursor 0 0 0) × (turns ≡ 0)
IsBehind (row ∷ []) at turns = (at ≡ row.at) × (turns ≡ row.turn)
IsBehind (row ∷ second ∷ more) at turns = IsBehind (second ∷ more) at turns

-- The rows lead from a file to where this stands.
pub record IsKeptOf (p : Proposals) (file : List ℕ) (kept : Kept) : Type 0 where
  pub chain : ChainsTo p file kept.accepted.items kept.file.items
  pub behind : IsBehind kept.accepted.items kept.at kept.turns

-- the reduction from there on, by the answers given in the run
abbrev pub ReducesOnInRun : Search → Judging → Judging → Kept → Option ℕ → Outcome → Type 0
ReducesOnInRun s before now kept limit out = (offer : Offer) × s.Offers kept.file.items offer × ReducesInRun s before now limit (goes_on_at kept offer) out

-- and by the told answers
abbrev pub ReducesOnAsTold : Search → Kept → Option ℕ → Outcome → Type 0
ReducesOnAsTold s kept limit out = (offer : Offer) × s.Offers kept.file.items offer × ReducesAsTold s limit (goes_on_at kept offer) out

-- Nothing was added to what was kept.
pub record IsAsKept (kept : Kept) (e : End) : Type 0 where
  pub same : e.file.items ≡ kept.file.items
  pub accepted : e.accepted.items ≡ kept.accepted.items
  pub unturned : e.turns ≡ kept.turns

-- the end where no memory was left to go on
abbrev pub end_as_kept : Kept → End
end_as_kept kept = record { file = kept.file; accepted = kept.accepted; turns = kept.turns; why = NoMemory }

-- what an end of a reduction that went on says
abbrev pub EndsOnInRun : Search → Judging → Judging → Option ℕ → Kept → End → Type 0
EndsOnInRun s before now limit kept e = EndsAt (ReducesOnInRun s before now kept) (IsAsKept kept e) limit e e.why

abbrev pub EndsOnAsTold : Search → Option ℕ → Kept → End → Type 0
EndsOnAsTold s limit kept e = EndsToldAt (ReducesOnAsTold s kept) (IsAsKept kept e) limit e e.why

-- The test was asked about nothing but smaller, lawful variants of the kept file and of those accepted behind it.
abbrev pub AsksOnlyBehind : Search → Kept → End → Judging → Judging → Type 0
AsksOnlyBehind s kept e before now = (more : List Accepted) × (e.accepted.items ≡ kept.accepted.items ++ more) × AsksOnlyCandidates s kept.file.items more before now

-- It was asked no more often than the turns and acceptances since account for.
abbrev pub AsksFewOn : ℕ → Judging → Judging → Kept → End → Type 0
AsksFewOn window before now kept e =
    now.asked + (kept.turns + length kept.accepted.items * (window - 1)) ≤ before.asked + most_calls window e

-- What was accepted, also where the reduction was cut short, comes first in what the whole reduction accepts.
abbrev pub IsFrontOfAll : Search → Option ℕ → Kept → End → Type 0
IsFrontOfAll s limit kept e = (out : Outcome) → ReducesOnAsTold s kept limit out → Front e.accepted.items out.accepted
