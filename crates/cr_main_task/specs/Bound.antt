-- What a run promises whose task is made from the bytes read: all is said of the task of these bytes.
use Rattle.std.specs.Prelude.{◌≡◌, ◌⊎◌, ℕ, List}
use Rattle.cr_outside.specs.Story.{EndsWithFault}
use Rattle.cr_reduce.specs.Bench.{Judging}
use Rattle.cr_main_task.specs.Headline.{AsksOnlyOf, HasAll, HasFinished, HasReduced, KeepsTask}
use Rattle.cr_main_task.specs.Opening.{read_of}
use Rattle.cr_main_task.specs.Outside.{Outside}
use Rattle.cr_main_task.specs.Run.{Claiming}
use Rattle.cr_main_task.specs.Story.{KeepsJournal}
use Rattle.cr_main_task.specs.Task.{Task, Text}

-- the headline, of a run that is done
pub record HasReducedBound (at : List ℕ → Task) (By : List ℕ → Claiming) (text : Text) (old new : Outside) (before after : Judging) (status : ℕ) : Type 0 where
  pub bytes : List ℕ
  pub has : text.Has bytes
  pub reduced : HasReduced (at bytes) (By bytes) (read_of text bytes) old new before after status

-- what stands at 8 and 10
pub data BoundEnded (at : List ℕ → Task) (text : Text) (old new : Outside) (status : ℕ) : Type 0 where
  -- 8: the test failed on the file
  bound_untested : status ≡ 8 → new.files ≡ old.files → BoundEnded at text old new status
  -- 8 from the reduction, and 10
  bound_finished : (bytes : List ℕ) → text.Has bytes → HasFinished (at bytes) (read_of text bytes) old new status → BoundEnded at text old new status

-- what holds of the files at every status
pub data KeepsBound (at : List ℕ → Task) (By : List ℕ → Claiming) (text : Text) (old new : Outside) (after : Judging) : Type 0 where
  bound_unchanged : new.files ≡ old.files → KeepsBound at By text old new after
  bound_kept : (bytes : List ℕ) → text.Has bytes → KeepsTask (at bytes) (By bytes) (read_of text bytes) old new after → KeepsBound at By text old new after

-- what the test is asked
pub data AsksBound (at : List ℕ → Task) (text : Text) (before after : Judging) : Type 0 where
  bound_asks_nothing : after ≡ before → AsksBound at text before after
  bound_asks : (bytes : List ℕ) → text.Has bytes → AsksOnlyOf (at bytes) (read_of text bytes) before after → AsksBound at text before after

-- a run has all that it needs, whose passes have so many levels: the task of the bytes that the file has
abbrev pub HasAllBound : (ℕ → ℕ) → (List ℕ → Task) → Text → Outside → Outside → Judging → Judging → Type 0
HasAllBound levels at text old new before after = (bytes : List ℕ) × text.Has bytes × HasAll levels (at bytes) text old new before after

-- What every such run promises, whatever is claimed of its reduction.
pub record PromisesBound (at : List ℕ → Task) (By : List ℕ → Claiming) (text : Text) (old new : Outside) (before after : Judging) (status : ℕ) : Type 0 where
  pub headline : (status ≡ 0) ⊎ (status ≡ 7) → HasReducedBound at By text old new before after status
  pub finished : (status ≡ 8) ⊎ (status ≡ 10) → BoundEnded at text old new status
  pub files_kept : KeepsBound at By text old new after
  -- at 9 no call on the files follows the one that failed
  pub fault_last : status ≡ 9 → EndsWithFault old.story new.story
  pub journal_kept : KeepsJournal old.story new.story
