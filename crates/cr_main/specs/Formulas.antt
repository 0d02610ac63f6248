-- What a run by a formula comes to, whatever the law and the engine.
use Rattle.std.specs.Prelude.{◌≡◌, ◌⊎◌, ℕ, true, false, List}
use Rattle.cr_reduce.specs.Bench.{Judging}
use Rattle.cr_reduce.specs.Search.{IsAllTold}
use Rattle.cr_formula.specs.Forms.{Form}
use Rattle.cr_formula.specs.Forms.Form.{both, same}
use Rattle.cr_formula_bound.specs.Values.{Value}
use Rattle.cr_lawful.specs.Runs.{ComesToEnd}
use Rattle.cr_meaning.specs.declared.run.Limits.{Limits}
use Rattle.cr_main_task.specs.Bound.{HasReducedBound}
use Rattle.cr_main_task.specs.Outside.{Outside}
use Rattle.cr_main_task.specs.Run.{Claiming}
use Rattle.cr_main_task.specs.Task.{Task, Text}

-- The test of the task of each bytes is the formula, bound to them: it asks no judge, and tells yes only of a file of which it is true.
pub record IsByFormula (form : Form) (limits : Limits) (at : List ℕ → Task) : Type 0 where
  pub quiet : (bytes : List ℕ) → (at bytes).search.asks ≡ false
  pub holds : (bytes file : List ℕ) → (at bytes).search.Tells file true → Value form bytes limits file

-- the formula asks that a file behave as the one that is reduced
abbrev pub AsksSame : Form → Type 0
AsksSame form = (form ≡ same) ⊎ ((other : Form) × (form ≡ both same other))

-- The headline of a run by a formula, at 0 and 7. Its premise, that all answers are told, holds whatever the outside does; and where the formula
-- asks that a file behave as the one that is reduced, the result's run ends with the same status and the same output.
pub record IsFormulaHeadline (form : Form) (limits : Limits) (at : List ℕ → Task) (By : List ℕ → Claiming) (text : Text) (old new : Outside) (before after : Judging) (status : ℕ) : Type 0 where
  pub bound : HasReducedBound at By text old new before after status
  pub all_told : IsAllTold (at bound.bytes).search
  pub behaves : AsksSame form → (ended : ℕ) × (output : List ℕ) × ComesToEnd limits bound.bytes ended output × ComesToEnd limits bound.reduced.end.file.items ended output
