use Rattle.pass_text.proofs.LineEdits.{by_a_change}
use Rattle.pass_text.proofs.laws.lines_go_by_a_change.Goals as goal

pub returns : goal.returns
returns c = by_a_change c.lines_need_no_seam.ensures
