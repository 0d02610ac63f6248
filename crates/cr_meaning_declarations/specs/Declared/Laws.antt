-- What a reader expects of the typed unit of a file, and of its runs in any order.
use Rattle.std.specs.Prelude.{◌≡◌, ℕ, ◌^◌, ◌<◌, List, Option}
use Rattle.cr_meaning.specs.declared.run.Limits.{Limits}
use Rattle.cr_meaning.specs.declared.run.Run.{Run}
use Rattle.cr_meaning_operations.specs.Operations.{program_of}
use Rattle.cr_meaning_operations.specs.Laws.{Comes}
use Rattle.cr_meaning_orders.specs.Fixed.{IsOrderFixed}
use Rattle.cr_meaning_soundness.specs.Sorts.{Sort}
use Rattle.cr_meaning_soundness.specs.Programs.{IsWellTyped}
use Rattle.cr_typed.specs.declared.typed.Typed.{Typed}
use Rattle.cr_meaning_declarations.specs.Units.Owned.{AreOfUnit, AreInitialisers, AreDeclaredOnce, AreBodies}
use Rattle.cr_meaning_declarations.specs.Units.Laws.{ComesInAnyOrder}
use Rattle.cr_meaning_declarations.specs.Declared.Files.{IsUnitOfFile}

-- its nodes are those of a unit of the grammar
abbrev pub FilesAreOfUnits : Type 0
FilesAreOfUnits = (file : List ℕ) (t : Typed) → IsUnitOfFile file t → AreOfUnit t

-- what its plans put in objects are initialisers (6.7.9)
abbrev pub PlansPutInitialisers : Type 0
PlansPutInitialisers = (file : List ℕ) (t : Typed) → IsUnitOfFile file t → AreInitialisers t

-- what a call of a function goes on with declares nothing by itself (6.9.1)
abbrev pub CallsGoOnWithBodies : Type 0
CallsGoOnWithBodies = (file : List ℕ) (t : Typed) → IsUnitOfFile file t → AreBodies t

-- an automatic object is declared once: it has no linkage (6.2.2p6, 6.7p3)
abbrev pub ObjectsAreDeclaredOnce : Type 0
ObjectsAreDeclaredOnce = (file : List ℕ) (t : Typed) → IsUnitOfFile file t → AreDeclaredOnce t

-- Within limits, a file's well-typed unit whose order is fixed comes to one end, in whatever order.
abbrev pub FilesRunAlike : Type 0
FilesRunAlike = (file : List ℕ) (t : Typed) (limits : Limits) (sorts : ℕ → Option Sort) → IsUnitOfFile file t → IsWellTyped (program_of t limits) sorts → limits.cells < 2 ^ 63
    → IsOrderFixed (program_of t limits) → (one other : Run) → Comes t limits one → ComesInAnyOrder t limits other → other ≡ one
