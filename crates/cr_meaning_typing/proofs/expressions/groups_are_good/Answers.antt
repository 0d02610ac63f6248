use Rattle.cr_meaning_typing.proofs.ExpressionsLemmas.Joined.{groups}
use Rattle.cr_meaning_typing.proofs.expressions.groups_are_good.Goals as goal

pub returns : goal.returns
returns c = groups
