use Rattle.std.proofs.Common.{arith}
use Rattle.cr_sequence.proofs.Writing.{copied_down}
use Rattle.cr_sequence.proofs.sequence.copy_down.Goals as goal

pub loop-i-preserved : goal.loop-i-preserved
loop-i-preserved g c =
    rw c.loop-i.invariant
    (copied_down c.args.items.now.items c.args.from c.args.to c.loop-i.i c.index.result.now c.requires.down (omega arith)
    (rw c.loop-i.invariant at c.index.ensures))
