use Rattle.std.proofs.Common.{arith}
use Rattle.cr_sequence.proofs.Showing.{length-repeated}
use Rattle.cr_memory.proofs.Repeating.{some_repeated}
use Rattle.cr_memory.proofs.lifetime.append.Goals as goal

pub append_stretch-requires-clause-some : goal.append_stretch-requires-clause-some
append_stretch-requires-clause-some c =
    let exact = c.cells_in.ensures.exact c.requires.few in
    some_repeated c.args.times c.args.shape.now (omega (arith, exact))

pub append_stretch-requires-clause-few : goal.append_stretch-requires-clause-few
append_stretch-requires-clause-few c =
    let few = c.requires.few in omega (arith, length-repeated c.args.times c.args.shape.now)
