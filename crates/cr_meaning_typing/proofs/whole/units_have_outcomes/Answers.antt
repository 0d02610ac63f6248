use Rattle.cr_meaning_typing.proofs.WholeLemmas.Whole.{outcomes}
use Rattle.cr_meaning_typing.proofs.whole.units_have_outcomes.Goals as goal

pub returns : goal.returns
returns c = outcomes
