use Rattle.std.proofs.Common.{◌≡◌, Err, ap, sym, subst}
use Rattle.cr_outside.specs.HasText.{IsText}
use Rattle.cr_formula.specs.declared.formula.FormulaFault.TheVariants as refusal
use Rattle.cr_formula.proofs.Heads.{only_has}
use Rattle.cr_formula.proofs.Once.{one_quote}
use Rattle.cr_formula.proofs.parser.having.Goals as goal

pub returns-in-Err-clause-none : goal.returns-in-Err-clause-none
returns-in-Err-clause-none c = λ form f rest it. let found = only_has f c.args.words.now rest it in c.in-Err.ensures.none (let is : c.in-Err.fault ≡ refusal.Form = cc in ap Err is) found.0 rest found.3

pub returns-in-Err-has_of-clause-none : goal.returns-in-Err-has_of-clause-none
returns-in-Err-has_of-clause-none c = λ form f rest it.
    let found = only_has f c.args.words.now rest it in
    let same = one_quote c.in-Ok.found.0.items found.0 c.args.words.now c.in-Ok.found.1.now rest c.in-Ok.ensures.found found.3 in
    c.in-Err-has_of.ensures.none (let is : c.in-Err-has_of.fault ≡ refusal.Form = cc in ap Err is) (subst IsText (sym same.0) found.2)
