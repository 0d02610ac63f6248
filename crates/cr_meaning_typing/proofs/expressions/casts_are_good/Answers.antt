use Rattle.cr_meaning_typing.proofs.ExpressionsLemmas.Operators.{casts}
use Rattle.cr_meaning_typing.proofs.expressions.casts_are_good.Goals as goal

pub returns : goal.returns
returns c = casts
