use Rattle.std.proofs.Common.{refl, subst}
use Rattle.cr_formula.specs.Forms.{Form, Spells, form_of}
use Rattle.cr_main.specs.More.RunsAsked.{spells_none, unread_word}
use Rattle.cr_main.proofs.asked.run_asked.Goals as goal

pub run_by_test-requires-clause-no_formula : goal.run_by_test-requires-clause-no_formula
run_by_test-requires-clause-no_formula g c = λ sends shares. c.in-None.ensures

pub run_by_formula-status-requires-clause-formula : goal.run_by_formula-status-requires-clause-formula
run_by_formula-status-requires-clause-formula g c = λ sends shares. c.in-Some.ensures.0

pub run_by_formula-status-requires-clause-spelled : goal.run_by_formula-status-requires-clause-spelled
run_by_formula-status-requires-clause-spelled g c = λ sends shares. subst (λ w. Spells w (form_of c.in-Ok.formula)) c.in-Some.ensures.1 c.in-Ok.ensures.found

pub returns-in-Err-Form-clause-runs : goal.returns-in-Err-Form-clause-runs
returns-in-Err-Form-clause-runs g c =
    spells_none c.in-Some.ensures.0 (subst (λ w. (form : Form) → Spells w form → ⊥) c.in-Some.ensures.1 (c.in-Err-Form.ensures.none cc)) (record { story = refl; files = refl; judges = refl }) c.put_usage.ensures

pub returns-in-Err-NoMemory-clause-runs : goal.returns-in-Err-NoMemory-clause-runs
returns-in-Err-NoMemory-clause-runs g c = unread_word refl refl refl

pub returns-in-None-clause-formula : goal.returns-in-None-clause-formula
returns-in-None-clause-formula g c = λ formula. absurd (c.in-None.ensures formula)
