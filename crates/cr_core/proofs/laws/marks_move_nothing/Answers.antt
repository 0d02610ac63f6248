use Rattle.cr_core.proofs.Rows.{last_position-with_last}
use Rattle.cr_core.proofs.laws.marks_move_nothing.Goals as goal

pub returns : goal.returns
returns c = last_position-with_last
