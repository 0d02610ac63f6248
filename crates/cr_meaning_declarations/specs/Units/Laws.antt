-- What a reader expects of the runs of a unit in any order.
use Rattle.std.specs.Prelude.{◌≡◌, ℕ, ◌^◌, ◌<◌, Option}
use Rattle.cr_meaning.specs.declared.run.Limits.{Limits}
use Rattle.cr_meaning.specs.declared.run.Run.{Run}
use Rattle.cr_meaning_operations.specs.Operations.{program_of}
use Rattle.cr_meaning_operations.specs.Laws.{Comes}
use Rattle.cr_meaning_orders.specs.AnyOrder.{MeansInAnyOrder}
use Rattle.cr_meaning_orders.specs.Fixed.{IsOrderFixed}
use Rattle.cr_meaning_orders.specs.Owned.{AreOwned}
use Rattle.cr_meaning_soundness.specs.Sorts.{Sort}
use Rattle.cr_meaning_soundness.specs.Programs.{IsWellTyped}
use Rattle.cr_typed.specs.declared.typed.Typed.{Typed}
use Rattle.cr_meaning_declarations.specs.Units.Owned.{owns, IsWellDeclared}

-- no declarator of a unit stands in an operand, nor in a function's body but under the block that enters its object
abbrev pub DeclaratorsStandInBlocks : Type 0
DeclaratorsStandInBlocks = (t : Typed) (limits : Limits) → IsWellDeclared t → AreOwned (program_of t limits) (owns t)

-- what a unit comes to in some order
abbrev pub ComesInAnyOrder : Typed → Limits → Run → Type 0
ComesInAnyOrder t limits outcome = MeansInAnyOrder (program_of t limits) outcome

-- within limits, a well-typed unit whose order is fixed comes to one end, in whatever order
abbrev pub UnitsRunAlike : Type 0
UnitsRunAlike = (t : Typed) (limits : Limits) (sorts : ℕ → Option Sort) → IsWellDeclared t → IsWellTyped (program_of t limits) sorts → limits.cells < 2 ^ 63
    → IsOrderFixed (program_of t limits) → (one other : Run) → Comes t limits one → ComesInAnyOrder t limits other → other ≡ one
