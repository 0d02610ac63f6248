use Rattle.cr_meaning_typing.proofs.ExpressionsLemmas.Joined.{updates}
use Rattle.cr_meaning_typing.proofs.expressions.updates_are_good.Goals as goal

pub returns : goal.returns
returns c = updates
