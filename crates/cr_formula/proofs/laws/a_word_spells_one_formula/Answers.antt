use Rattle.cr_formula.proofs.Texts.{one_formula}
use Rattle.cr_formula.proofs.laws.a_word_spells_one_formula.Goals as goal

pub returns : goal.returns
returns c = one_formula
