use Rattle.cr_meaning_typing.proofs.ExpressionsLemmas.Places.{subscripts}
use Rattle.cr_meaning_typing.proofs.expressions.subscripts_are_good.Goals as goal

pub returns : goal.returns
returns c = subscripts
