-- What a run by standing workers comes to.
use Rattle.std.specs.Prelude.{◌≡◌, ℕ, List}
use Rattle.cr_reduce.specs.Bench.{GoesOn, Judging}
use Rattle.cr_reduce.specs.declared.end.End.{End}
use Rattle.cr_reduce.specs.declared.end.Why.TheVariants.{Fault}
use Rattle.cr_reduce.specs.Ends.{FaultsWithCause}
use Rattle.cr_standing_workers.specs.Told.{EndsIfTold}
use Rattle.cr_main_task.specs.Outside.{Outside}
use Rattle.cr_main_task.specs.Run.{Claiming, IsToldReduction, RunsBy}
use Rattle.cr_main_task.specs.Task.{Task, Text}

-- The reduction of these bytes, with what was asked from one time to another.
pub record IsStanding (t : Task) (before after : Judging) (bytes : List ℕ) (end : End) : Type 0 where
  -- a chain of accepted variants, whatever the judges are: each lawful, smaller and, where the answer about it is told, answered yes
  pub chain : EndsIfTold t.search before after t.limit bytes end
  -- the headline, where the answers are told: the one-thread first-accepted reduction
  pub told : IsToldReduction t bytes end
  -- a fault is the first judge's alone
  pub first : (turn worker : ℕ) → end.why ≡ Fault turn worker → worker ≡ 0
  pub cause : FaultsWithCause t.search before after end.why
  pub goes_on : GoesOn before after

-- it makes no call on the outside but on the judges
abbrev pub by_standing : Task → Claiming
by_standing t = record { Tells = λ old new. new ≡ old; Claims = IsStanding t }

abbrev pub RunsStanding : Task → Text → Outside → Outside → Judging → Judging → ℕ → Type 0
RunsStanding t text old new before after status = RunsBy t (by_standing t) text old new before after status
