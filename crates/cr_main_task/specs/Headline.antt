-- What a run promises, in a few words: each follows from what it comes to, step by step.
use Rattle.std.specs.Prelude.{◌≡◌, ◌≢◌, ◌+◌, ◌*◌, ℕ, true, List, Option, length}
use Rattle.cr_cursor.specs.Variants.{pass_count}
use Rattle.cr_log.specs.Texts.{log_text_of, summary_text_of}
use Rattle.cr_outside.specs.Faults.{Rose}
use Rattle.cr_outside.specs.Files.{Names, put_told}
use Rattle.cr_outside.specs.Sink.{appended}
use Rattle.cr_reduce.specs.Bench.{AsksAtMost, CallsAbout, Judging, RoseAt}
use Rattle.cr_reduce.specs.Bound.{levels_below}
use Rattle.cr_reduce.specs.declared.end.End.{End}
use Rattle.cr_reduce.specs.declared.end.Why.TheVariants as why
use Rattle.cr_reduce.specs.Ends.{EndsAsTold, IsFixedAsTold, most_calls, outcome_of}
use Rattle.cr_reduce.specs.Reduction.{Within}
use Rattle.cr_reduce.specs.Search.{AsksOnlyCandidates, IsAllTold, ReducesFileAsTold}
use Rattle.cr_reduce.specs.Sizes.{HasSize}
use Rattle.cr_main_task.specs.Messages.{copy_name, log_name}
use Rattle.cr_main_task.specs.Outside.{Outside, Puts, saved}
use Rattle.cr_main_task.specs.Run.{Claiming, IsReduction, end_status}
use Rattle.cr_main_task.specs.Task.{Task, Text}

-- The three files of a run of a task, as they stand in the end.
abbrev pub three_files : Task → List ℕ → End → ℕ → Option Names → Option Names
three_files t bytes end size files = saved t.saves (log_name t.name) (log_text_of end size) (saved t.saves t.name end.file.items (saved t.saves (copy_name t.name) bytes files))

-- What a run of a task that is done has done: the file, the log and the summary are those of the one-thread
-- first-accepted reduction of the bytes read, where the test's answer is a function of the file; where it ended by itself no
-- variant of the result is acceptable; the copy holds the bytes read, no other file changes, and the output grows by
-- the summary alone. The judges are asked about the file, and then at most once for each turn and, for each acceptance, for the
-- positions of its epoch behind it.
pub record HasReduced (t : Task) (By : Claiming) (text : Text) (old new : Outside) (before after : Judging) (status : ℕ) : Type 0 where
  pub bytes : List ℕ
  pub end : End
  pub old_size : ℕ
  pub size : ℕ
  pub has : text.Has bytes
  pub lawful : t.search.Lawful bytes
  pub old_sized : HasSize bytes old_size
  pub sized : HasSize end.file.items size
  pub ended : status ≡ end_status end.why
  pub reduction : IsAllTold t.search → ReducesFileAsTold t.search bytes t.limit (outcome_of end end.why)
  pub fixed_point : IsAllTold t.search → status ≡ 0 → IsFixedAsTold t.search end.file.items
  pub files : new.files ≡ three_files t bytes end size old.files
  pub output : new.output ≡ appended (summary_text_of t.name old_size size end) old.output
  pub yes : IsAllTold t.search → t.search.Tells bytes true
  pub since : Judging
  pub asked_few : AsksAtMost 1 before since
  pub claimed : By.Claims since after bytes end

-- What stands where a run has saved its three files, at 0, 7, 8 from the reduction, and 10: they are those of the
-- reduction as it ended, at a fault those of the first-accepted reduction after the turns that were made. The summary was
-- put whole, or at 10 a prefix of it.
pub record HasFinished (t : Task) (text : Text) (old new : Outside) (status : ℕ) : Type 0 where
  pub bytes : List ℕ
  pub end : End
  pub old_size : ℕ
  pub size : ℕ
  pub has : text.Has bytes
  pub lawful : t.search.Lawful bytes
  pub old_sized : HasSize bytes old_size
  pub sized : HasSize end.file.items size
  pub remembered : end.why ≢ why.NoMemory
  pub reduction : IsAllTold t.search → EndsAsTold t.search t.limit bytes end
  pub fixed_point : IsAllTold t.search → end.why ≡ why.Fixed → IsFixedAsTold t.search end.file.items
  pub files : new.files ≡ three_files t bytes end size old.files
  pub output : Puts old new (summary_text_of t.name old_size size end) (end_status end.why) 10 status

-- What stands at 8 and 10.
pub data TaskEnded (t : Task) (text : Text) (old new : Outside) (status : ℕ) : Type 0 where
  -- 8: the test failed on the file
  untested : status ≡ 8 → new.files ≡ old.files → TaskEnded t text old new status
  -- 8 from the reduction, and 10
  finished : HasFinished t text old new status → TaskEnded t text old new status

-- The writes, in their order, as far as they were made.
pub data Wrote (name bytes result log : List ℕ) (old new : Option Names) : Type 0 where
  the_copy : new ≡ put_told (copy_name name) bytes old → Wrote name bytes result log old new
  the_result : new ≡ put_told name result (put_told (copy_name name) bytes old) → Wrote name bytes result log old new
  the_log : new ≡ put_told (log_name name) log (put_told name result (put_told (copy_name name) bytes old)) → Wrote name bytes result log old new

-- What holds of the files of a task at every status: they are as before, or the copy holds the bytes read, and the file its
-- old bytes or the result's. No other file changes, and none where the task saves nothing.
pub data KeepsTask (t : Task) (By : Claiming) (text : Text) (old new : Outside) (after : Judging) : Type 0 where
  task_unchanged : new.files ≡ old.files → KeepsTask t By text old new after
  task_written : (bytes log : List ℕ) (since : Judging) (end : End) → t.saves ≡ true → text.Has bytes
      → By.Claims since after bytes end → Wrote t.name bytes end.file.items log old.files new.files → KeepsTask t By text old new after
  -- the reduction was not begun
  task_copied : (bytes : List ℕ) → t.saves ≡ true → text.Has bytes → new.files ≡ put_told (copy_name t.name) bytes old.files → KeepsTask t By text old new after

-- so many turns are enough for a file of n bytes, where each pass has so many levels: of 42 levels in all, 504 * n * (12 * n + 1) + 12 * n
abbrev pub enough_for : (ℕ → ℕ) → ℕ → ℕ
enough_for levels n = levels_below levels pass_count * (12 * n) * (12 * n + 1) + 12 * n

-- A run of a task that has all it needs: the file is there and obeys the law, the test's answers are told, and yes to the
-- file, no call on the outside fails, and the limit is absent or large enough for passes of so many levels.
pub record HasAll (levels : ℕ → ℕ) (t : Task) (text : Text) (old new : Outside) (before after : Judging) : Type 0 where
  pub bytes : List ℕ
  -- the file has these bytes and no other ones
  pub there : (other : List ℕ) → text.Has other → other ≡ bytes
  pub here : text.Lacks → ⊥
  pub lawful : t.search.Lawful bytes
  pub all_told : IsAllTold t.search
  pub yes : t.search.Tells bytes true
  pub no_file_fault : Rose old.file_faults new.file_faults → ⊥
  pub no_output_fault : Rose old.output_faults new.output_faults → ⊥
  pub no_judge_fault : (worker : ℕ) → RoseAt worker before.faults after.faults → ⊥
  pub enough : Within t.limit (enough_for levels (length bytes))

-- What the test is asked in a run of a task: nothing, or once at most about the file, and then about nothing but smaller,
-- lawful variants of the files of the run's own chain, each time under the file's own name, and no more often than the reduction's
-- turns and acceptances account for.
pub data AsksOnlyOf (t : Task) (text : Text) (before after : Judging) : Type 0 where
  asks_nothing : after ≡ before → AsksOnlyOf t text before after
  -- about the file alone: nothing was reduced
  asks_file : (bytes : List ℕ) → text.Has bytes → t.search.Lawful bytes → CallsAbout before.calls after.calls t.search.name bytes → AsksAtMost 1 before after → AsksOnlyOf t text before after
  -- about the file, and since then about the variants that the reduction has asked about
  asks_variants : (bytes : List ℕ) (since : Judging) (end : End) → text.Has bytes → t.search.Lawful bytes → CallsAbout before.calls since.calls t.search.name bytes
      → IsReduction t since after bytes end → AsksOnlyCandidates t.search bytes end.accepted.items since after → AsksAtMost (most_calls t.window end + 1) before after → AsksOnlyOf t text before after
