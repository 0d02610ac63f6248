use Rattle.cr_meaning_typing.proofs.ExpressionsLemmas.Operators.{negations}
use Rattle.cr_meaning_typing.proofs.expressions.negations_are_good.Goals as goal

pub returns : goal.returns
returns c = negations
