use Rattle.cr_meaning_typing.proofs.ExpressionsLemmas.Operators.{equalities}
use Rattle.cr_meaning_typing.proofs.expressions.equalities_are_good.Goals as goal

pub returns : goal.returns
returns c = equalities
