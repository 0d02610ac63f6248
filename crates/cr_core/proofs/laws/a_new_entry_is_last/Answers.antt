use Rattle.cr_core.proofs.Rows.{append-is_last}
use Rattle.cr_core.proofs.laws.a_new_entry_is_last.Goals as goal

pub returns : goal.returns
returns c = append-is_last
