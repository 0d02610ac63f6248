-- Rows that are kept in a journal on a disk, and a reduction that goes on with it.
use Rattle.std.specs.Prelude.{◌≡◌, ℕ, ◌+◌, ◌*◌, ◌≤◌, Bool, true, false, List, [], ◌∷◌, map, length, Option}
use Rattle.cr_outside.specs.Faults.{Rose}
use Rattle.cr_outside.specs.Story.{Story}
use Rattle.cr_outside_disk.specs.Moments.{AlwaysTold, EveryTold, LastsTold}
use Rattle.cr_journal_records.specs.Records.{AtRest, Body, IsKept, Stands}
use Rattle.cr_journal_rows.specs.Forms.{row_body}
use Rattle.cr_reduce.specs.Bench.{Judging}
use Rattle.cr_reduce.specs.Ends.{FaultsWithCause, IsFixedAsTold, IsFixedInRun}
use Rattle.cr_reduce.specs.Keeping.{AsksFewOn, AsksOnlyBehind, BeginsFirst, EndsOnAsTold, EndsOnInRun}
use Rattle.cr_reduce.specs.Search.{IsAllTold, Search}
use Rattle.cr_reduce.specs.declared.end.Accepted.{Accepted}
use Rattle.cr_reduce.specs.declared.end.End.{End}
use Rattle.cr_reduce.specs.declared.end.Kept.{Kept}
use Rattle.cr_reduce.specs.declared.end.Why.TheVariants.{Fixed, NoMemory}
use Rattle.cr_journal.specs.declared.reduction.KeptEnd.{KeptEnd}
use Rattle.cr_journal.specs.declared.reduction.KeptEnd.TheVariants as end

-- the bodies of a journal whose header has this body
abbrev pub journal_of : Body → List Accepted → List Body
journal_of header rows = header ∷ map row_body rows

-- In every image a header and these rows stand, and nothing else, and the gate behind them is there and closed.
abbrev pub Rests : List Accepted → Option Story → Type 0
Rests rows told = (header : Body) × EveryTold (AtRest (journal_of header rows)) told

-- A journal has these rows, and can take another.
pub record HasKept (told : Option Story) (is_ready : Bool) (size : ℕ) (has_failed : Bool) (rows : List Accepted) : Type 0 where
  pub ready : is_ready ≡ true
  pub fine : has_failed ≡ false
  pub long : 32 * length rows + 33 ≤ size
  pub rests : Rests rows told

-- From one time to another what stood in the journal was, at every moment, its header and a front of these rows; what stood kept
-- standing; and where a call on the disk failed, it was the last.
pub record KeptOn (old new : Option Story) (rows : List Accepted) (faults_before faults_now : ℕ) (disk_failed has_failed : Bool) : Type 0 where
  pub any_moment : (header : Body) → EveryTold (Stands (header ∷ [])) old → AlwaysTold (IsKept (journal_of header rows)) old new
  pub lasts : (some : List Body) → LastsTold (Stands some) old new
  pub later : faults_before ≤ faults_now
  pub failed : has_failed ≡ true → Rose faults_before faults_now × (disk_failed ≡ true)

-- What a reduction that goes on says of its end.
pub record IsReductionOn (s : Search) (before now : Judging) (window : ℕ) (limit : Option ℕ) (kept : Kept) (e : End) : Type 0 where
  -- the reduction from there on, by the answers that were given in this run or kept before it, whatever the judge is
  pub chain : EndsOnInRun s before now limit kept e
  pub all_rejected : BeginsFirst kept → e.why ≡ Fixed → IsFixedInRun s before now e.file.items
  -- where the answers are told, the one-thread first-accepted reduction from there on
  pub reduction : IsAllTold s → EndsOnAsTold s limit kept e
  pub fixed_point : BeginsFirst kept → IsAllTold s → e.why ≡ Fixed → IsFixedAsTold s e.file.items
  -- what the test is asked
  pub asks_only : AsksOnlyBehind s kept e before now
  pub few : AsksFewOn window before now kept e
  pub cause : FaultsWithCause s before now e.why

-- This holds of the reduction's end. Where the disk failed, the reduction was cut short as by want of memory, and its end isn't
-- handed on.
abbrev pub OfEnd : (End → Type 0) → KeptEnd → Type 0
OfEnd P (end.Done e) = P e
OfEnd P end.Disk = (e : End) × (e.why ≡ NoMemory) × P e

-- This holds of the end where one is handed on, other than for want of memory.
abbrev pub AtEnd : (End → Type 0) → KeptEnd → Type 0
AtEnd P (end.Done e) = (e.why ≡ NoMemory → ⊥) → P e
AtEnd P end.Disk = Unit {0}
