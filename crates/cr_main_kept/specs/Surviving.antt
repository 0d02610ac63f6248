-- A run that is kept survives its stops: the theorem, for one call.
use Rattle.std.specs.Prelude.{◌≡◌, ◌⊎◌, ℕ, List, Some}
use Rattle.cr_journal_records.specs.Records.{AtRest, Body}
use Rattle.cr_journal_rows.specs.Forms.{bodies_of}
use Rattle.cr_journal_stops.specs.Stops.{IsSafe, StaysSafe}
use Rattle.cr_log.specs.Texts.{log_text_of, summary_text_of}
use Rattle.cr_outside.specs.Sink.{appended}
use Rattle.cr_outside.specs.Story.{Story, files_told}
use Rattle.cr_outside_disk.specs.Moments.{EveryTold}
use Rattle.cr_reduce.specs.Ends.{outcome_of}
use Rattle.cr_reduce.specs.Reduction.{Outcome}
use Rattle.cr_reduce.specs.Search.{IsAllTold, ReducesFileAsTold}
use Rattle.cr_reduce.specs.Sizes.{HasSize}
use Rattle.cr_reduce.specs.declared.end.End.{End}
use Rattle.cr_main_kept.specs.Header.{header_of}
use Rattle.cr_main_kept.specs.KeptTask.{KeptTask, at}
use Rattle.cr_main_kept.specs.declared.header.Marks.{Marks}
use Rattle.cr_main_task.specs.Messages.{copy_name, log_name}
use Rattle.cr_main_task.specs.Outside.{Outside}
use Rattle.cr_main_task.specs.Run.{end_status}
use Rattle.cr_main_task.specs.Task.{FileHas, Task}

-- The whole reduction of these bytes, without a stop: the one-thread first-accepted one, by told answers.
pub record IsWhole (t : Task) (bytes : List ℕ) (size : ℕ) (out : Outcome) : Type 0 where
  pub told : IsAllTold t.search
  pub lawful : t.search.Lawful bytes
  pub sized : HasSize bytes size
  pub reduction : ReducesFileAsTold t.search bytes t.limit out

-- the records of its journal: the header, and all that it accepts
abbrev pub records_of : Task → Marks → ℕ → Outcome → List Body
records_of t marks size out = bodies_of (header_of marks t.limit size) out.accepted

-- After a stop it can be gone on with.
abbrev pub IsSafeFor : Task → Marks → List ℕ → ℕ → Outcome → Story → Type 0
IsSafeFor t marks bytes size out s = IsSafe (copy_name t.name) t.name bytes (records_of t marks size out) s

-- The file, the log and the summary are those of the whole reduction, the copy holds the bytes, and in every image of the journal stand
-- its header and all that was accepted.
pub record HasResult (t : Task) (marks : Marks) (bytes : List ℕ) (size : ℕ) (out : Outcome) (old new : Outside) (status : ℕ) : Type 0 where
  pub end : End
  pub new_size : ℕ
  pub is : outcome_of end end.why ≡ out
  pub ended : status ≡ end_status end.why
  pub sized : HasSize end.file.items new_size
  pub file : FileHas (files_told new.story) t.name end.file.items
  pub log : FileHas (files_told new.story) (log_name t.name) (log_text_of end new_size)
  pub copy : FileHas (files_told new.story) (copy_name t.name) bytes
  pub output : new.output ≡ appended (summary_text_of t.name size new_size end) old.output
  pub rests : EveryTold (AtRest (records_of t marks size out)) new.story

-- What a call promises where what it finds can be gone on with: so it can at every moment of the call, and what stands in the
-- journal keeps standing; and at 0 and 7 all is as without any stop.
abbrev pub Survives : KeptTask → Marks → Outside → Outside → ℕ → Type 0
Survives k marks old new status =
    (bytes : List ℕ) (size : ℕ) (out : Outcome) (first : Story) → IsWhole (at k bytes) bytes size out → old.story ≡ Some first → IsSafeFor (at k bytes) marks bytes size out first
    → (last : Story) × (new.story ≡ Some last) × StaysSafe (copy_name k.name) k.name bytes (records_of (at k bytes) marks size out) first last
    × ((status ≡ 0) ⊎ (status ≡ 7) → HasResult (at k bytes) marks bytes size out old new status)
