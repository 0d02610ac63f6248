use Rattle.cr_formula.proofs.Texts.{word_found, word_none}
use Rattle.cr_formula.proofs.formula.Formula.read.Goals as goal

pub returns-in-Some-clause-found : goal.returns-in-Some-clause-found
returns-in-Some-clause-found c = word_found c.args.word.now c.in-Some.text.now c.read_text.result c.in-Some.ensures c.read_text.ensures.found

pub returns-in-Some-clause-none : goal.returns-in-Some-clause-none
returns-in-Some-clause-none c = word_none c.args.word.now c.in-Some.text.now c.read_text.result c.in-Some.ensures c.read_text.ensures.none

pub returns-in-None-clause-none : goal.returns-in-None-clause-none
returns-in-None-clause-none c = λ _ f it. c.in-None.ensures it.0 it.1
