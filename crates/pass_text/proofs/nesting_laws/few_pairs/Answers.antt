use Rattle.pass_text.proofs.Readings.{few}
use Rattle.pass_text.proofs.nesting_laws.few_pairs.Goals as goal

pub returns : goal.returns
returns c = few 0
