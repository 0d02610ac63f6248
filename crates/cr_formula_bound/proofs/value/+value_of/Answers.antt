use Rattle.std.specs.Prelude.{IsTrue, ◌↔◌}
use Rattle.std.proofs.Common.{subst, sym}
use Rattle.cr_formula.specs.Forms.{form_of}
use Rattle.cr_formula.specs.Forms.Form.{ends, prints, same}
use Rattle.cr_formula.specs.declared.formula.Formula.{Formula}
use Rattle.cr_lawful.proofs.Endings.{one_end}
use Rattle.cr_formula_bound.specs.Values.{AnswersBy, PrintsBy, Value}
use Rattle.cr_formula_bound.proofs.Values.{value_asked}
use Rattle.cr_formula_bound.proofs.value.+value_of.Goals as goal

pub returns-in-Ok-clause-value : goal.returns-in-Ok-clause-value
returns-in-Ok-clause-value g t c =
    let b = c.args.bound.now in
    let end = c.find_end.new.run.end in
    subst (λ (f : Formula). AnswersBy (Value (form_of f) b.input.items b.limits c.args.file.now) c.answer_of.result) (sym c.in-Prints.is)
    (value_asked (prints c.in-Prints.text.items) b.limits b.input.items c.args.file.now end b.end c.prints.result c.answer_of.result one_end (c.in-Ok.ensures.known c.in-Ok.ensures.found) b.ended
    (subst (λ text. IsTrue c.prints.result ↔ PrintsBy text end) c.deref.ensures.value c.prints.ensures) c.answer_of.ensures.yes c.answer_of.ensures.no)

pub returns-in-Ok-find_end-clause-value : goal.returns-in-Ok-find_end-clause-value
returns-in-Ok-find_end-clause-value g t c =
    let b = c.args.bound.now in
    subst (λ (f : Formula). AnswersBy (Value (form_of f) b.input.items b.limits c.args.file.now) c.answer_of-in-Ok-find_end.result) (sym c.in-Ends.is)
    (value_asked (ends c.in-Ends.status) b.limits b.input.items c.args.file.now c.find_end-in-Ends.new.run.end b.end c.ends.result c.answer_of-in-Ok-find_end.result one_end
    (c.in-Ok-find_end.ensures.known c.in-Ok-find_end.ensures.found) b.ended c.ends.ensures c.answer_of-in-Ok-find_end.ensures.yes c.answer_of-in-Ok-find_end.ensures.no)

pub returns-in-Ok-find_end-2-clause-value : goal.returns-in-Ok-find_end-2-clause-value
returns-in-Ok-find_end-2-clause-value g t c =
    let b = c.args.bound.now in
    subst (λ (f : Formula). AnswersBy (Value (form_of f) b.input.items b.limits c.args.file.now) c.answer_of-in-Ok-find_end-2.result) (sym c.in-Same.is)
    (value_asked same b.limits b.input.items c.args.file.now c.find_end-in-Same.new.run.end b.end c.is_same.result c.answer_of-in-Ok-find_end-2.result one_end
    (c.in-Ok-find_end-2.ensures.known c.in-Ok-find_end-2.ensures.found) b.ended c.is_same.ensures c.answer_of-in-Ok-find_end-2.ensures.yes c.answer_of-in-Ok-find_end-2.ensures.no)
