use Rattle.cr_formula.proofs.Texts.{none_spelled}
use Rattle.cr_formula.proofs.formula.read_text.Goals as goal

pub returns-else-is_want-clause-none : goal.returns-else-is_want-clause-none
returns-else-is_want-clause-none c = λ _. none_spelled c.args.text.now c.in-Err.fault (λ none. let is = c.is_want.ensures.1 none in cc) c.in-Err.ensures.refused
