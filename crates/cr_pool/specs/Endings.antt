-- How an epoch ends, by its first hit and the worker that hit it, and what is kept of the workers' notes.
use Rattle.std.specs.Prelude.{◌≡◌, ◌<◌, ◌+◌, ℕ, List, Option, None, Some, length, slice_index_or}
use Prim.Native.Nat.{zero, suc}
use Rattle.cr_core.specs.declared.events.First.{First}
use Rattle.cr_core.specs.declared.events.First.TheVariants as first
use Rattle.cr_core.specs.declared.marks.HitKind.{HitKind}
use Rattle.cr_core.specs.declared.marks.HitKind.TheVariants.{Yes, Failed, Starved}
use Rattle.cr_cursor.specs.Variants.{Offer}
use Rattle.cr_pool.specs.declared.crew.Worker.{Worker}
use Rattle.cr_pool.specs.declared.job.EpochEnd.{EpochEnd}
use Rattle.cr_pool.specs.declared.job.EpochEnd.TheVariants as ending
use Rattle.cr_pool.specs.declared.verdict.Verdict.{Verdict}
use Rattle.cr_pool.specs.Epoch.{variant_at}
use Rattle.cr_pool.specs.Kept.{IsPutOrLost, Kept}

-- the worker of this number has this hit
abbrev pub IsHitter : {J : Type 0} → List (Worker J) → ℕ → HitKind → ℕ → Type 0
IsHitter {J} workers at kind worker = (worker < length workers) × ((d : Worker J) → (slice_index_or workers worker d).hit ≡ Some (at, kind))

-- the end by a hit at a position
abbrev pub IsEndAt : {J : Type 0} → ℕ → List (Worker J) → ℕ → HitKind → EpochEnd → Type 0
IsEndAt {J} start workers at Yes (ending.Found position bytes) =
    (position ≡ start + at) × ((worker : ℕ) × IsHitter workers at Yes worker × ((d : Worker J) → (slice_index_or workers worker d).variant.items ≡ bytes.items))
IsEndAt start workers at Failed (ending.Fault position worker) = (position ≡ start + at) × IsHitter workers at Failed worker
IsEndAt start workers at Starved ending.NoMemory = Unit {0}
IsEndAt start workers at kind end = ⊥

abbrev pub IsEnd : {J : Type 0} → ℕ → ℕ → List (Worker J) → First → EpochEnd → Type 0
IsEnd start len workers first.None (ending.NoneOf n) = n ≡ len
IsEnd start len workers first.None end = ⊥
IsEnd start len workers (first.At at kind) end = IsEndAt start workers at kind end

-- how many positions of an epoch of this length its first hit decides, without the hit where its trial failed
abbrev pub decided_at : ℕ → First → ℕ
decided_at len first.None = len
decided_at len (first.At at Yes) = at + 1
decided_at len (first.At at Failed) = at
decided_at len (first.At at Starved) = at

-- the worker of this number has noted this verdict of a position
abbrev pub HasNoted : {J : Type 0} → List (Worker J) → ℕ → ℕ → Verdict → Type 0
HasNoted {J} workers worker at said = (worker < length workers) × ((d : Worker J) → slice_index_or (slice_index_or workers worker d).notes.items at None ≡ Some said)

-- some worker has
abbrev pub IsNoted : {J : Type 0} → List (Worker J) → ℕ → Verdict → Type 0
IsNoted workers at said = (worker : ℕ) × HasNoted workers worker at said

-- the first so many workers have noted nothing of a position
abbrev pub NoneNoted : {J : Type 0} → List (Worker J) → ℕ → ℕ → Type 0
NoneNoted {J} workers count at = (worker : ℕ) (d : Worker J) → worker < count → slice_index_or (slice_index_or workers worker d).notes.items at None ≡ None

-- what the workers noted of a position: a verdict that one of them noted, or none where none of them did
abbrev pub IsNote : {J : Type 0} → List (Worker J) → ℕ → Option Verdict → Type 0
IsNote workers at None = NoneNoted workers (length workers) at
IsNote workers at (Some said) = IsNoted workers at said

-- what is noted of one position from `start` on was put on that position's variant, or was lost
abbrev pub TakesNote : {J : Type 0} → Offer → ℕ → ℕ → List (Worker J) → List Kept → ℕ → List Kept → ℕ → Type 0
TakesNote offer start at workers old gone new lost = (note : Option Verdict) × IsNote workers at note × IsPutOrLost (variant_at offer (start + at)) note old gone new lost

-- what is noted of the first n positions from `start` on was put in order, each on its position's variant, but for so many that were lost
abbrev pub TakesNotes : {J : Type 0} → Offer → ℕ → ℕ → List (Worker J) → List Kept → List Kept → ℕ → Type 0
TakesNotes offer start zero workers old new lost = (new ≡ old) × (lost ≡ 0)
TakesNotes offer start (suc n) workers old new lost = (middle : List Kept) × (gone : ℕ) × TakesNotes offer start n workers old middle gone × TakesNote offer start n workers middle gone new lost
