-- Completeness: a kept run that has all that it needs ends by itself, or for want of memory.
use Rattle.std.specs.Prelude.{◌≡◌, ◌⊎◌, ℕ, Bool, true, false, List, length, Option, Some}
use Rattle.cr_outside.specs.Faults.{Rose}
use Rattle.cr_outside.specs.Files.{content_of}
use Rattle.cr_outside.specs.Story.{EndsWithFault, Story, files_now}
use Rattle.cr_outside_disk.specs.Moments.{seen}
use Rattle.cr_reduce.specs.Bench.{Judging, RoseAt}
use Rattle.cr_reduce.specs.Reduction.{Outcome, Within}
use Rattle.cr_reduce.specs.Search.{IsAllTold}
use Rattle.cr_main_kept.specs.KeptTask.{KeptTask, at}
use Rattle.cr_main_kept.specs.Surviving.{IsSafeFor, IsWhole}
use Rattle.cr_main_kept.specs.declared.header.Marks.{Marks}
use Rattle.cr_main_task.specs.Headline.{enough_for}
use Rattle.cr_main_task.specs.Outside.{Outside}

-- A kept run on these bytes has all that it needs: they obey the law, the test's answers are told, and yes to them, no call on the outside
-- or on the disk fails, and the limit is absent or large enough for passes of so many levels. Of the calls on the files and on the disk it is the last that
-- didn't fail, since none follows one that did.
pub record HasAllOn (levels : ℕ → ℕ) (k : KeptTask) (bytes : List ℕ) (old new : Outside) (before after : Judging) (has_failed : Bool) : Type 0 where
  pub lawful : k.law.Lawful bytes
  pub all_told : IsAllTold (at k bytes).search
  pub yes : k.Tells bytes bytes true
  pub no_file_fault : EndsWithFault old.story new.story → ⊥
  pub no_disk_fault : has_failed ≡ false
  pub no_output_fault : Rose old.output_faults new.output_faults → ⊥
  pub no_judge_fault : (worker : ℕ) → RoseAt worker before.faults after.faults → ⊥
  pub enough : Within k.limit (enough_for levels (length bytes))

-- The file has these bytes, and its journal is empty or not there.
pub record IsUnbegun (name bytes : List ℕ) (told : Option Story) : Type 0 where
  pub story : Story
  pub is : told ≡ Some story
  pub empty : length (seen story) ≡ 0
  pub has : content_of (files_now story) name ≡ Some bytes

-- A run that begins a journal, where there is none, by passes of so many levels.
abbrev pub CompletesFirst : (ℕ → ℕ) → KeptTask → Outside → Outside → Judging → Judging → Bool → ℕ → Type 0
CompletesFirst levels k old new before after has_failed status =
    (bytes : List ℕ) → IsUnbegun k.name bytes old.story → HasAllOn levels k bytes old new before after has_failed → (status ≡ 0) ⊎ (status ≡ 11)

-- A run that goes on with what a stopped one has left.
abbrev pub CompletesOn : (ℕ → ℕ) → KeptTask → Marks → Outside → Outside → Judging → Judging → Bool → ℕ → Type 0
CompletesOn levels k marks old new before after has_failed status =
    (bytes : List ℕ) (size : ℕ) (out : Outcome) (first : Story) → IsWhole (at k bytes) bytes size out → old.story ≡ Some first → IsSafeFor (at k bytes) marks bytes size out first
    → HasAllOn levels k bytes old new before after has_failed → (status ≡ 0) ⊎ (status ≡ 11)
