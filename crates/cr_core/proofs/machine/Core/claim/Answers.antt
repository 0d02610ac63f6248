use Rattle.std.proofs.Common.{arith}
use Rattle.cr_core.specs.Core.{state_of}
use Rattle.cr_core.proofs.Totals.{room}
use Rattle.cr_core.proofs.machine.Core.claim.Goals as goal

pub overflow_add-self : goal.overflow_add-self
overflow_add-self c =
    let few = c.len.ensures in
    omega (arith, room (state_of c.args.self.now) c.requires.small c.requires.room (omega arith))
