use Rattle.cr_memory.proofs.Beginning.{run_holds}
use Rattle.cr_memory.proofs.flat.run_holds.Goals as goal

pub returns-in-Some : goal.returns-in-Some
returns-in-Some c = λ e. run_holds c.args.spans.now c.args.shape.now c.args.first c.args.values.now c.requires (rw c.in-Some.ensures at (c.own_hold.ensures e))
