use Rattle.pass_edit.proofs.Fills.{form_filled}
use Rattle.pass_edit.proofs.laws.holes_are_their_runs.Goals as goal

pub returns : goal.returns
returns c = form_filled
