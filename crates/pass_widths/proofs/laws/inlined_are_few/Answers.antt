use Rattle.pass_widths.proofs.Calls.{inlined_few}
use Rattle.pass_widths.proofs.laws.inlined_are_few.Goals as goal

pub returns : goal.returns
returns c = λ tokens nodes items names u. inlined_few tokens names u
