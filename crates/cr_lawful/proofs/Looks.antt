-- How often the stop was asked, from what the steps of a ruling say.
use Rattle.std.proofs.Common.{◌≡◌, ℕ, true, List, refl, arith}
use Rattle.cr_typed.specs.declared.typed.Typed.{Typed}
use Rattle.cr_meaning.specs.declared.run.Limits.{Limits}
use Rattle.cr_meaning.specs.declared.run.Run.{Run}
use Rattle.cr_meaning.specs.declared.run.Run.TheVariants as run
use Rattle.cr_meaning_operations.specs.Laws.{Comes}
use Rattle.cr_exec.specs.Runs.{Looked, has_come}
use Rattle.cr_cursor.specs.Stops.{after_look}
use Rattle.cr_cursor.specs.declared.law.Ruling.{Ruling}
use Rattle.cr_cursor.specs.declared.law.Ruling.TheVariants as ruling
use Rattle.cr_lawful.specs.Lawful.{IsTypedUnit, run_ruling}
use Rattle.cr_lawful.specs.Looks.{HasLookedThrough, IsNotBelow, Looks}

-- what the run's own looks were
pub run_looks : (limits : Limits) (file : List ℕ) (typed : Typed) (outcome : Run) (before after : ℕ) → IsTypedUnit file typed
    → (has_come outcome ≡ true → Comes typed limits outcome) → Looked outcome limits.steps before after
    → Looks limits file before after (run_ruling file typed outcome)
run_looks limits file typed (run.Ended status output steps) before after of_file comes looked = record {
  typed = typed;
  of_file = of_file;
  ends = record { status = status; output = output; steps = steps; comes = comes refl };
  over = record { times = looked.times; enough = omega (arith, looked.most); counted = omega (arith, looked.counted) };
}
run_looks limits file typed (run.Undefined number node) before after of_file comes looked = tt
run_looks limits file typed (run.Left number node) before after of_file comes looked = tt
run_looks limits file typed run.Stopped before after of_file comes looked = tt
run_looks limits file typed run.NoMemory before after of_file comes looked = tt

-- and those with what was asked before the run
pub looks_from : (limits : Limits) (file : List ℕ) (before between after : ℕ) (r : Ruling) → IsNotBelow before between
    → Looks limits file between after r → Looks limits file before after r
looks_from limits file before between after ruling.Lawful rose looked = record {
  typed = looked.typed;
  of_file = looked.of_file;
  ends = looked.ends;
  over = record { times = looked.over.times; enough = looked.over.enough; counted = omega (arith, rose, looked.over.counted) };
}
looks_from limits file before between after (ruling.Unlawful why) rose looked = tt
looks_from limits file before between after ruling.Stopped rose looked = tt
looks_from limits file before between after ruling.NoMemory rose looked = tt
