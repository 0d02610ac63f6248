use Rattle.cr_meaning_typing.proofs.TypedLemmas.Worth.{typed}
use Rattle.cr_meaning_typing.proofs.typed.expressions_are_typed.Goals as goal

pub returns : goal.returns
returns c = typed
