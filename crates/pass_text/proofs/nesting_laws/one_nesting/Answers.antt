use Rattle.pass_text.proofs.Readings.{one}
use Rattle.pass_text.proofs.nesting_laws.one_nesting.Goals as goal

pub returns : goal.returns
returns c = one
