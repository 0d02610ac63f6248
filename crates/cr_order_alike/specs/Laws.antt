-- What a reader expects of a file that is lawful in any order.
use Rattle.std.specs.Prelude.{◌≡◌, ◌<◌, ◌^◌, ℕ, List}
use Rattle.cr_lawful.specs.Lawful.{IsLawful}
use Rattle.cr_meaning.specs.declared.run.Limits.{Limits}
use Rattle.cr_meaning.specs.declared.run.Run.{Run}
use Rattle.cr_meaning.specs.declared.run.Run.TheVariants as run
use Rattle.cr_meaning_declarations.specs.Units.Laws.{ComesInAnyOrder}
use Rattle.cr_order.specs.Orders.{IsLawfulInOrder}

-- the end that is said of a lawful file: its status, its output and its steps (5.1.2.2.3)
abbrev pub end_of : (limits : Limits) (file : List ℕ) → IsLawful limits file → Run
end_of limits file lawful = run.Ended lawful.ends.status lawful.ends.output lawful.ends.steps

-- a lawful file comes to it in some order
abbrev pub OrderedFilesRun : Type 0
OrderedFilesRun = (limits : Limits) (file : List ℕ) (it : IsLawfulInOrder limits file) → ComesInAnyOrder it.lawful.typed limits (end_of limits file it.lawful)

-- Within limits, which those of the program are, whatever a file that is lawful in any order comes to in some order is that end.
abbrev pub OrderedFilesRunAlike : Type 0
OrderedFilesRunAlike = (limits : Limits) (file : List ℕ) (it : IsLawfulInOrder limits file) → limits.cells < 2 ^ 63 → limits.output < 2 ^ 31
    → (outcome : Run) → ComesInAnyOrder it.lawful.typed limits outcome → outcome ≡ end_of limits file it.lawful
