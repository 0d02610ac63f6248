use Rattle.cr_meaning_typing.proofs.ExpressionsLemmas.Joined.{members}
use Rattle.cr_meaning_typing.proofs.expressions.members_are_good.Goals as goal

pub returns : goal.returns
returns c = members
