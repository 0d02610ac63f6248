use Rattle.cr_meaning_typing.proofs.ExpressionsLemmas.Changes.{steps}
use Rattle.cr_meaning_typing.proofs.expressions.steps_are_good.Goals as goal

pub returns : goal.returns
returns c = steps
