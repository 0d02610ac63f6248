use Rattle.cr_meaning_typing.proofs.ExpressionsLemmas.Joined.{literals}
use Rattle.cr_meaning_typing.proofs.expressions.literals_are_good.Goals as goal

pub returns : goal.returns
returns c = literals
