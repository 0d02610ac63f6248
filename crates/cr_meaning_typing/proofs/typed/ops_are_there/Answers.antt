use Rattle.cr_meaning_typing.proofs.TypedLemmas.Ops.{ops}
use Rattle.cr_meaning_typing.proofs.typed.ops_are_there.Goals as goal

pub returns : goal.returns
returns c = ops
