use Rattle.cr_meaning_typing.proofs.CallsLemmas.Calls.{calls}
use Rattle.cr_meaning_typing.proofs.calls.calls_are_good.Goals as goal

pub returns : goal.returns
returns c = calls
