use Rattle.std.proofs.Common.{◌*◌, ap, arith}
use Rattle.cr_sequence.proofs.Showing.{length-repeated}
use Rattle.cr_sequence.proofs.times.Times.new.Goals as goal

pub invariant_of-result : goal.invariant_of-result
invariant_of-result g c = omega (arith, length-repeated c.args.times c.args.one.items, ap (λ n. c.args.times * n) c.size_of-each.ensures)
