-- What a reader expects of runs in any order.
use Rattle.std.specs.Prelude.{◌≡◌, ℕ, ◌^◌, ◌<◌, Bool, Option}
use Rattle.cr_meaning.specs.Language.{Reply, Runs}
use Rattle.cr_meaning.specs.World.{Program, World, Answer, Halt}
use Rattle.cr_meaning.specs.Meaning.{Meaning, body, Means}
use Rattle.cr_meaning.specs.declared.run.Run.{Run}
use Rattle.cr_meaning_soundness.specs.Sorts.{Sort}
use Rattle.cr_meaning_soundness.specs.Programs.{IsWellTyped}
use Rattle.cr_meaning_orders.specs.AnyOrder.{lifted, AnyRuns, RunsInAnyOrder, MeansInAnyOrder}
use Rattle.cr_meaning_orders.specs.Fixed.{IsOrderFixed}
use Rattle.cr_meaning_orders.specs.Owned.{AreOwned}

-- from left to right is one of the orders
abbrev pub LeftToRightIsAnOrder : Type 0
LeftToRightIsAnOrder = (p : Program) (program : Meaning) (s : World) (r : Reply Answer World Halt) → Runs (body p) program s r → AnyRuns p (lifted program) s r

-- A well-typed program whose declarators stand in blocks, and whose order is fixed: each run of it in any order gives the same reply as that from
-- left to right, so the same status and output, with as many steps and the same memory.
abbrev pub FixedProgramsRunAlike : Type 0
FixedProgramsRunAlike = (p : Program) (sorts : ℕ → Option Sort) (owns : ℕ → ℕ → Bool) → IsWellTyped p sorts → AreOwned p owns → p.limits.cells < 2 ^ 63
    → (fixed : IsOrderFixed p) (other : Reply Answer World Halt) → RunsInAnyOrder p other → other ≡ fixed.reply

-- So it means one thing, in whatever order.
abbrev pub FixedProgramsMeanOneThing : Type 0
FixedProgramsMeanOneThing = (p : Program) (sorts : ℕ → Option Sort) (owns : ℕ → ℕ → Bool) → IsWellTyped p sorts → AreOwned p owns → p.limits.cells < 2 ^ 63
    → IsOrderFixed p → (one other : Run) → Means p one → MeansInAnyOrder p other → other ≡ one
