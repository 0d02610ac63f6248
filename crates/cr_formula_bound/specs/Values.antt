-- The values of formulas.
use Rattle.std.specs.Prelude.{◌≡◌, ◌⊎◌, ℕ, Bool, true, false, List, Option, Some, None}
use Rattle.memchr.specs.Find.{OccursAt}
use Rattle.cr_outside.specs.HasText.{HasText}
use Rattle.cr_outside.specs.declared.judge.Answer.{Answer}
use Rattle.cr_outside.specs.declared.judge.Answer.TheVariants.{Yes, No, Failed, NoMemory}
use Rattle.cr_meaning.specs.declared.run.Limits.{Limits}
use Rattle.cr_formula.specs.Forms.{Form}
use Rattle.cr_formula.specs.Forms.Form.{both, either, ends, has, negated, prints, same}
use Rattle.cr_lawful.specs.Runs.{ComesToEnd, EndsAs}
use Rattle.cr_lawful.specs.declared.ends.Ended.{Ended}
use Rattle.cr_formula_bound.specs.declared.file_end.FileEnd.{FileEnd}

-- the bytes stand in others as an unbroken run
abbrev pub StandsIn : List ℕ → List ℕ → Type 0
StandsIn text all = (place : ℕ) × OccursAt all text place

-- how a run may end: with a status and an output
abbrev pub Ending : Type 1
Ending = ℕ → List ℕ → Type 0

-- the formula holds of a file whose run ends as E says, beside an input whose run ends as F says
abbrev pub Holds : Form → Ending → Ending → List ℕ → Type 0
Holds (has text) E F file = HasText text file
Holds (prints text) E F file = (status : ℕ) × (output : List ℕ) × E status output × StandsIn text output
Holds (ends status) E F file = (output : List ℕ) × E status output
Holds same E F file = (status : ℕ) × (output : List ℕ) × E status output × F status output
Holds (both left right) E F file = Holds left E F file × Holds right E F file
Holds (either left right) E F file = Holds left E F file ⊎ Holds right E F file
Holds (negated one) E F file = Holds one E F file → ⊥

-- the value of a formula bound to an input, within limits: it is true of the file
abbrev pub Value : Form → List ℕ → Limits → List ℕ → Type 0
Value form input limits file = Holds form (ComesToEnd limits file) (ComesToEnd limits input) file

-- the told answer of a formula
abbrev pub TellsFormula : Form → List ℕ → Limits → List ℕ → Bool → Type 0
TellsFormula form input limits file true = Value form input limits file
TellsFormula form input limits file false = Value form input limits file → ⊥

-- ---- the same by what was found

-- Yes comes where it holds, No where not; Failed doesn't come
abbrev pub AnswersBy : Type 0 → Answer → Type 0
AnswersBy P Yes = P
AnswersBy P No = P → ⊥
AnswersBy P Failed = ⊥
AnswersBy P NoMemory = Unit {0}

abbrev pub turned_of : Answer → Answer
turned_of Yes = No
turned_of No = Yes
turned_of other = other

-- the run ended so, or it didn't end
abbrev pub EndedWith : Option Ended → Ending
EndedWith None status output = ⊥
EndedWith (Some end) status output = (end.status ≡ status) × (end.output ≡ output)

abbrev pub HoldsBy : Form → Option Ended → Ended → List ℕ → Type 0
HoldsBy form end input file = Holds form (EndedWith end) (EndedWith (Some input)) file

abbrev pub PrintsBy : List ℕ → Option Ended → Type 0
PrintsBy text end = (status : ℕ) × (output : List ℕ) × EndedWith end status output × StandsIn text output

abbrev pub EndsBy : ℕ → Option Ended → Type 0
EndsBy status end = (output : List ℕ) × EndedWith end status output

abbrev pub SameBy : Option Ended → Ended → Type 0
SameBy end input = (status : ℕ) × (output : List ℕ) × EndedWith end status output × EndedWith (Some input) status output

-- what is known of how a file's run ends is right
abbrev pub IsKnown : Ending → FileEnd → Type 0
IsKnown E run = run.is_known ≡ true → EndsAs E run.end
