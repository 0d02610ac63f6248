use Rattle.cr_meaning_typing.proofs.TypedLemmas.Units.{all_worth}
use Rattle.cr_meaning_typing.proofs.typed.units_are_typed.Goals as goal

pub returns : goal.returns
returns c = all_worth
