use Rattle.cr_meaning_typing.proofs.TypedLemmas.Stand.{stand}
use Rattle.cr_meaning_typing.proofs.typed.statements_stand.Goals as goal

pub returns : goal.returns
returns c = stand
