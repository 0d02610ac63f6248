use Rattle.cr_meaning_typing.proofs.ExpressionsLemmas.Places.{constants}
use Rattle.cr_meaning_typing.proofs.expressions.constants_are_good.Goals as goal

pub returns : goal.returns
returns c = constants
