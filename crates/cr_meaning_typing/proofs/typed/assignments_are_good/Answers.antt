use Rattle.cr_meaning_typing.proofs.TypedLemmas.Gives.{assignments}
use Rattle.cr_meaning_typing.proofs.typed.assignments_are_good.Goals as goal

pub returns : goal.returns
returns c = assignments
