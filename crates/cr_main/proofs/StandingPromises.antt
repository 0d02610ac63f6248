-- What is promised of a run by standing workers, from what it comes to: what is claimed is the told reduction, each fault has its cause, and
-- no call is taken back.
use Rattle.std.proofs.Common.{ℕ, List, subst, sym}
use Rattle.cr_reduce.specs.Bench.{GoesOn, Judging}
use Rattle.cr_reduce.specs.Ends.{FaultsWithCause}
use Rattle.cr_reduce.specs.declared.end.End.{End}
use Rattle.cr_reduce.proofs.Runs.{goes_on-refl, goes_on-trans}
use Rattle.cr_main.specs.Standing.{IsStanding, RunsStanding, by_standing}
use Rattle.cr_main_task.specs.Opening.{Ruled, RunsBound}
use Rattle.cr_main_task.specs.Opening.RunsBound.{not_opened, on_bytes}
use Rattle.cr_main_task.specs.Outside.{Outside}
use Rattle.cr_main_task.specs.Run.{Finishes, HasAsked, IsToldReduction}
use Rattle.cr_main_task.specs.Run.Finishes.{reduced, uncopied, unstarted}
use Rattle.cr_main_task.specs.Run.HasAsked.{asked_file, asked_nothing}
use Rattle.cr_main_task.specs.Run.RunsBy.{reduces, refuses, starves}
use Rattle.cr_main_task.specs.Task.{Task, Text}

pub standing_told : (t : Task) (since now : Judging) (bytes : List ℕ) (end : End) → IsStanding t since now bytes end → IsToldReduction t bytes end
standing_told t since now bytes end it = it.told

pub standing_cause : (t : Task) (since now : Judging) (bytes : List ℕ) (end : End) → IsStanding t since now bytes end → FaultsWithCause t.search since now end.why
standing_cause t since now bytes end it = it.cause

module _ (t : Task) (text : Text) (old new : Outside) (before after : Judging) (status : ℕ) where
  asked_on : HasAsked t text before after → GoesOn before after
  asked_on (asked_nothing quiet) = subst (GoesOn before) (sym quiet) (goes_on-refl before)
  asked_on (asked_file bytes asked) = asked.goes_on

  finish_on : (read : Outside) (since : Judging) (bytes : List ℕ) → GoesOn before since → Finishes t bytes (by_standing t) read new since after status → GoesOn before after
  finish_on read since bytes on (unstarted unmoved quiet is) = subst (GoesOn before) (sym quiet) on
  finish_on read since bytes on (uncopied fails quiet) = subst (GoesOn before) (sym quiet) on
  finish_on read since bytes on (reduced copied end old_size size copy reduction old_sized sized ends) = goes_on-trans before since after on reduction.goes_on

  task_goes_on : RunsStanding t text old new before after status → GoesOn before after
  task_goes_on (refuses r causes asked files calls said) = asked_on asked
  task_goes_on (starves asked files calls silent is) = asked_on asked
  task_goes_on (reduces bytes read since same calls answered finishes) = finish_on read since bytes answered.asked.goes_on finishes

-- no call is taken back
pub standing_goes_on : (law : Ruled) (at : List ℕ → Task) (name : List ℕ) (text : Text) (old new : Outside) (before after : Judging) (status : ℕ)
    → RunsBound law at (λ bytes. by_standing (at bytes)) name text old new before after status → GoesOn before after
standing_goes_on law at name text old new before after status (not_opened why quiet) = subst (GoesOn before) (sym quiet) (goes_on-refl before)
standing_goes_on law at name text old new before after status (on_bytes bytes read opened run) = task_goes_on (at bytes) _ read new before after status run
