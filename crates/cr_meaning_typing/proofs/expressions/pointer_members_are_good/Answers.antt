use Rattle.cr_meaning_typing.proofs.ExpressionsLemmas.Places.{pointer_members}
use Rattle.cr_meaning_typing.proofs.expressions.pointer_members_are_good.Goals as goal

pub returns : goal.returns
returns c = pointer_members
