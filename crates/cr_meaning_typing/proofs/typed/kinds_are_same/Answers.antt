use Rattle.cr_meaning_typing.proofs.TypedLemmas.Gives.{kinds_same}
use Rattle.cr_meaning_typing.proofs.typed.kinds_are_same.Goals as goal

pub returns : goal.returns
returns c = kinds_same
