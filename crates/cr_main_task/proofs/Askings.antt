-- What the test is asked, from what a run comes to.
use Rattle.std.proofs.Common.{◌≡◌, ℕ, List, subst, sym, arith}
use Rattle.cr_reduce.specs.Bench.{AsksAtMost, CallsAbout, Judging}
use Rattle.cr_main_task.specs.Headline.{AsksOnlyOf}
use Rattle.cr_main_task.specs.Headline.AsksOnlyOf.{asks_file, asks_nothing, asks_variants}
use Rattle.cr_main_task.specs.Outside.{Outside}
use Rattle.cr_main_task.specs.Run.{Finishes, HasAsked, IsAsked, RunsTask, by_epochs}
use Rattle.cr_main_task.specs.Run.Finishes.{unstarted, uncopied, reduced}
use Rattle.cr_main_task.specs.Run.HasAsked.{asked_file, asked_nothing}
use Rattle.cr_main_task.specs.Run.RunsBy.{reduces, refuses, starves}
use Rattle.cr_main_task.specs.Task.{Task, Text}

module _ (t : Task) (text : Text) where
  asked_first : (before after : Judging) → HasAsked t text before after → AsksOnlyOf t text before after
  asked_first before after (asked_nothing quiet) = asks_nothing quiet
  asked_first before after (asked_file bytes asked) = asks_file bytes asked.has asked.lawful asked.calls asked.few

  about_file : (before since after : Judging) (bytes : List ℕ) → IsAsked t text before since bytes → after ≡ since → AsksOnlyOf t text before after
  about_file before since after bytes asked quiet = asks_file bytes asked.has asked.lawful (subst (λ now. CallsAbout before.calls now.calls t.search.name bytes) (sym quiet) asked.calls) (subst (AsksAtMost 1 before) (sym quiet) asked.few)

  finish_asks : (read new : Outside) (before since after : Judging) (bytes : List ℕ) (status : ℕ) → IsAsked t text before since bytes
      → Finishes t bytes (by_epochs t) read new since after status → AsksOnlyOf t text before after
  finish_asks read new before since after bytes status asked (unstarted unmoved quiet is) = about_file before since after bytes asked quiet
  finish_asks read new before since after bytes status asked (uncopied fails quiet) = about_file before since after bytes asked quiet
  finish_asks read new before since after bytes status asked (reduced copied end old_size size copy reduction old_sized sized ends) =
      asks_variants bytes since end asked.has asked.lawful asked.calls reduction reduction.asks_only (omega (arith, asked.few, reduction.few))

  pub task_asks : (old new : Outside) (before after : Judging) (status : ℕ) → RunsTask t text old new before after status → AsksOnlyOf t text before after
  task_asks old new before after status (refuses r causes asked files calls said) = asked_first before after asked
  task_asks old new before after status (starves asked files calls silent is) = asked_first before after asked
  task_asks old new before after status (reduces bytes read since same calls answered finishes) = finish_asks read new before since after bytes status answered.asked finishes
