use Rattle.std.proofs.Common.{◌-◌, arith}
use Rattle.cr_sequence.proofs.Writing.{copied_up_to}
use Rattle.cr_sequence.proofs.sequence.copy_up.Goals as goal

pub loop-i-preserved : goal.loop-i-preserved
loop-i-preserved g c =
    rw c.loop-i.invariant
    (copied_up_to c.args.items.now.items c.args.from c.args.to c.args.count (c.loop-i.i - 1) c.loop-i.i c.index.result.now
    (omega arith) c.requires.up (omega arith) (omega arith) (rw c.loop-i.invariant at c.index.ensures))
