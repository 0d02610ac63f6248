use Rattle.cr_typed_columns.proofs.Alike.{one_typed}
use Rattle.cr_typed_columns.proofs.laws.one_typed.Goals as goal

pub returns : goal.returns
returns c = one_typed
