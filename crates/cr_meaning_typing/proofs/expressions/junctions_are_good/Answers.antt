use Rattle.cr_meaning_typing.proofs.ExpressionsLemmas.Joined.{junctions}
use Rattle.cr_meaning_typing.proofs.expressions.junctions_are_good.Goals as goal

pub returns : goal.returns
returns c = junctions
