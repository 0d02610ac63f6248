use Rattle.cr_meaning_typing.proofs.TypedLemmas.Stand.{names}
use Rattle.cr_meaning_typing.proofs.typed.names_are_good.Goals as goal

pub returns : goal.returns
returns c = names
