use Rattle.cr_meaning_typing.proofs.TypedLemmas.Gives.{signs}
use Rattle.cr_meaning_typing.proofs.typed.signs_are_good.Goals as goal

pub returns : goal.returns
returns c = signs
