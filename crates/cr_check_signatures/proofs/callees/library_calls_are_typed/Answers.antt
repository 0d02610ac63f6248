use Rattle.cr_check_signatures.proofs.CalleesLemmas.Callees.{calls_typed}
use Rattle.cr_check_signatures.proofs.callees.library_calls_are_typed.Goals as goal

pub returns : goal.returns
returns c = calls_typed
