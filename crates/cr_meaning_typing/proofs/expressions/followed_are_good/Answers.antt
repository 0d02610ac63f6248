use Rattle.cr_meaning_typing.proofs.ExpressionsLemmas.Places.{followeds}
use Rattle.cr_meaning_typing.proofs.expressions.followed_are_good.Goals as goal

pub returns : goal.returns
returns c = followeds
