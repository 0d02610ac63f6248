use Rattle.cr_meaning_typing.proofs.ExpressionsLemmas.Chosen.{commas}
use Rattle.cr_meaning_typing.proofs.expressions.commas_are_good.Goals as goal

pub returns : goal.returns
returns c = commas
