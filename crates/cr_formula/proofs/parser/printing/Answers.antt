use Rattle.std.proofs.Common.{◌≡◌, Err, ap}
use Rattle.cr_formula.specs.declared.formula.FormulaFault.TheVariants as refusal
use Rattle.cr_formula.proofs.Heads.{only_prints}
use Rattle.cr_formula.proofs.parser.printing.Goals as goal

pub returns-in-Err-clause-none : goal.returns-in-Err-clause-none
returns-in-Err-clause-none c = λ form f rest it. let found = only_prints f c.args.words.now rest it in c.in-Err.ensures.none (let is : c.in-Err.fault ≡ refusal.Form = cc in ap Err is) found.0 rest found.2
