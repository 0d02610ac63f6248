use Rattle.cr_meaning_typing.proofs.ExpressionsLemmas.Operators.{differences}
use Rattle.cr_meaning_typing.proofs.expressions.differences_are_good.Goals as goal

pub returns : goal.returns
returns c = differences
