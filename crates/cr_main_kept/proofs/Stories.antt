-- What events of the files and changes of the journal leave of each other.
use Rattle.std.proofs.Common.{◌≡◌, ℕ, Bool, true, false, List, [], ◌∷◌, length, Option, Some, None, Result, Ok, Err, refl, sym, subst}
use Rattle.std.specs.Prelude.{IfOk, OnOk}
use Rattle.cr_outside_disk.specs.declared.disk.DiskFault.{DiskFault}
use Rattle.cr_outside_disk.specs.declared.disk.DiskFault.TheVariants.{Failed, NoMemory}
use Rattle.cr_journal_rows.specs.Faults.{fault_of_disk}
use Rattle.cr_journal_rows.specs.Forms.{RecoversTold}
use Rattle.cr_journal_rows.specs.declared.fault.JournalFault.TheVariants.{Differs}
use Rattle.cr_main_kept.specs.Lines.{IsDiskFault}
use Rattle.cr_journal.specs.Keeping.{Rests, journal_of}
use Rattle.cr_journal_records.specs.Records.{AtRest, Body, IsKept, Stands, StandsFirst, StandsNone}
use Rattle.cr_outside.specs.Story.{Story, with_event}
use Rattle.cr_outside.specs.Story.Event.{Read}
use Rattle.cr_outside.specs.declared.story.Outcome.{Outcome}
use Rattle.cr_outside_disk.specs.Moments.{AlwaysTold, EveryTold, HasLength, LastsTold, seen}
use Rattle.cr_outside_disk.proofs.Lasting.{lasts_same}
use Rattle.cr_outside_disk.proofs.Moments.{begun}
use Rattle.cr_main_kept.specs.Kept.{AreOfReduction, Journals}
use Rattle.cr_main_task.specs.Outside.{story_saved}
use Rattle.cr_reduce.specs.Keeping.{ReducesOnAsTold}
use Rattle.cr_reduce.specs.Reduction.{Outcome as Reduced}
use Rattle.cr_reduce.specs.Search.{IsAllTold, Search}
use Rattle.cr_reduce.specs.declared.end.Accepted.{Accepted}
use Rattle.cr_reduce.specs.declared.end.Kept.{Kept}

-- nothing was called
pub journals_same : (Are : List Body → Type 0) (told : Option Story) → Journals Are told told
journals_same Are told = record { lasts = λ some. lasts_same (Stands some) told; kept = λ all are was. begun (IsKept all) told was }

-- what a reduction that is kept makes of the journal
pub journals_of : (s : Search) (limit : Option ℕ) (kept : Kept) (old new : Option Story) → ((some : List Body) → LastsTold (Stands some) old new)
    → (IsAllTold s → (out : Reduced) → ReducesOnAsTold s kept limit out → (header : Body) → EveryTold (AtRest (journal_of header kept.accepted.items)) old
    → AlwaysTold (IsKept (journal_of header out.accepted)) old new)
    → Journals (AreOfReduction s limit kept old) old new
journals_of s limit kept old new lasts moment = record {
  lasts = lasts;
  kept = λ all are was. subst (λ (l : List Body). AlwaysTold (IsKept l) old new) (sym are.are) (moment are.told are.out are.reduction are.header are.rests);
}

pub none_read : (told : Option Story) (name : List ℕ) (most : ℕ) (outcome : Outcome) → StandsNone told → StandsNone (with_event (Read name most outcome) told)
none_read None name most outcome none = tt
none_read (Some s) name most outcome none = none

pub none_saved : (saves : Bool) (told : Option Story) (name bytes : List ℕ) → StandsNone told → StandsNone (story_saved saves name bytes told)
none_saved true None name bytes none = tt
none_saved true (Some s) name bytes none = none
none_saved false told name bytes none = none

-- what stands in every image still does once a file is read or saved
pub every_read : (P : List ℕ → Type 0) (told : Option Story) (name : List ℕ) (most : ℕ) (outcome : Outcome) → EveryTold P told → EveryTold P (with_event (Read name most outcome) told)
every_read P None name most outcome holds = tt
every_read P (Some s) name most outcome holds = holds

pub every_saved : (P : List ℕ → Type 0) (saves : Bool) (told : Option Story) (name bytes : List ℕ) → EveryTold P told → EveryTold P (story_saved saves name bytes told)
every_saved P true None name bytes holds = tt
every_saved P true (Some s) name bytes holds = holds
every_saved P false told name bytes holds = holds

-- in an empty journal none stands
pub none_empty : (told : Option Story) → HasLength told 0 → StandsNone told
none_empty None empty = tt
none_empty (Some s) empty = nothing (seen s) empty where
  nothing : (image : List ℕ) → length image ≡ 0 → StandsFirst image → ⊥
  nothing [] empty stands = stands
  nothing (gate ∷ behind) empty stands = cc

pub rests_read : (rows : List Accepted) (told : Option Story) (name : List ℕ) (most : ℕ) (outcome : Outcome) → Rests rows told → Rests rows (with_event (Read name most outcome) told)
rests_read rows None name most outcome rests = rests
rests_read rows (Some s) name most outcome rests = rests

-- the length that a start answers is the told file's
pub started_length : (told : Option Story) (result : Result ℕ DiskFault) (ready : Bool) (size : ℕ) → (ready ≡ true → HasLength told size) → OnOk result (ready ≡ true)
    → IfOk result (λ len. size ≡ len) → IfOk result (HasLength told)
started_length told (Ok len) ready size has is_ready is = subst (HasLength told) is (has is_ready)
started_length told (Err fault) ready size has is_ready is = tt

-- a fault of the disk has its cause, and nothing is said of what it recovers
pub disk_cause : (fault : DiskFault) (has_failed : Bool) → (fault ≡ Failed → has_failed ≡ true) → IsDiskFault (fault_of_disk fault) has_failed
disk_cause Failed has_failed cause = cause refl
disk_cause NoMemory has_failed cause = tt

pub never_differs : (fault : DiskFault) (i : ℕ) → fault_of_disk fault ≡ Differs i → ⊥
never_differs Failed i is = cc
never_differs NoMemory i is = cc

pub recovers_none : (told : Option Story) (fault : DiskFault) → RecoversTold told (Err (fault_of_disk fault))
recovers_none None fault = tt
recovers_none (Some s) Failed = tt
recovers_none (Some s) NoMemory = tt
