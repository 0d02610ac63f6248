use Rattle.std.proofs.Common.{arith}
use Rattle.cr_sequence.proofs.Showing.{length-repeated}
use Rattle.cr_memory.proofs.lifetime.cells_in.Goals as goal

pub returns-clause-exact : goal.returns-clause-exact
returns-clause-exact c = λ few. omega (arith, few, length-repeated c.args.times c.args.shape.now, c.saturating_mul.ensures)

pub returns-clause-large : goal.returns-clause-large
returns-clause-large c = λ many. omega (arith, many, length-repeated c.args.times c.args.shape.now, c.saturating_mul.ensures)
