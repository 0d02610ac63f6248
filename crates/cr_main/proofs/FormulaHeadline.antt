-- The headline of a run by a formula.
use Rattle.std.proofs.Common.{inl, inr, ℕ, List, subst}
use Rattle.cr_reduce.specs.Bench.{Judging}
use Rattle.cr_formula.specs.Forms.{Form}
use Rattle.cr_formula_bound.specs.Values.{Value}
use Rattle.cr_lawful.specs.Runs.{ComesToEnd}
use Rattle.cr_meaning.specs.declared.run.Limits.{Limits}
use Rattle.cr_main_task.specs.Bound.{HasReducedBound}
use Rattle.cr_main_task.specs.Opening.{read_of}
use Rattle.cr_main_task.specs.Outside.{Outside}
use Rattle.cr_main_task.specs.Run.{Claiming}
use Rattle.cr_main_task.specs.Task.{Task, Text}
use Rattle.cr_main_task.proofs.Results.{result_tells}
use Rattle.cr_main.specs.Formulas.{AsksSame, IsByFormula, IsFormulaHeadline}

-- a file of which such a formula is true behaves as the input
alike : (form : Form) (input : List ℕ) (limits : Limits) (file : List ℕ) → AsksSame form → Value form input limits file
    → (status : ℕ) × (output : List ℕ) × ComesToEnd limits input status output × ComesToEnd limits file status output
alike form input limits file (inl is) holds =
    let it = subst (λ g. Value g input limits file) is holds in (it.0, it.1, it.3, it.2)
alike form input limits file (inr is) holds =
    let it = subst (λ g. Value g input limits file) is.1 holds in (it.0.0, it.0.1, it.0.3, it.0.2)

pub formula_headline : (form : Form) (limits : Limits) (at : List ℕ → Task) (By : List ℕ → Claiming) (text : Text) (old new : Outside) (before after : Judging) (status : ℕ)
    → IsByFormula form limits at → HasReducedBound at By text old new before after status → IsFormulaHeadline form limits at By text old new before after status
formula_headline form limits at By text old new before after status by it = record {
  bound = it;
  all_told = λ file. inl (by.quiet it.bytes);
  behaves = λ is. alike form it.bytes limits it.reduced.end.file.items is (by.holds it.bytes it.reduced.end.file.items
      (result_tells (at it.bytes) (By it.bytes) (read_of text it.bytes) old new before after status it.reduced (λ file. inl (by.quiet it.bytes))));
}
