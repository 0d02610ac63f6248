use Rattle.pass_widths.proofs.Unused.{unused_few}
use Rattle.pass_widths.proofs.laws.unused_are_few.Goals as goal

pub returns : goal.returns
returns c = λ file tokens nodes items names structures u. unused_few file tokens names u structures
