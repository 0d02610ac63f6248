use Rattle.cr_meaning_typing.proofs.ExpressionsLemmas.Chosen.{conditionals}
use Rattle.cr_meaning_typing.proofs.expressions.conditionals_are_good.Goals as goal

pub returns : goal.returns
returns c = conditionals
