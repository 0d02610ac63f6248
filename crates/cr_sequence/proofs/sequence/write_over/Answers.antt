use Rattle.std.proofs.Common.{arith}
use Rattle.cr_sequence.proofs.Writing.{written_at}
use Rattle.cr_sequence.proofs.sequence.write_over.Goals as goal

pub loop-i-preserved : goal.loop-i-preserved
loop-i-preserved g c =
    rw c.loop-i.invariant (written_at c.args.items.now.items c.args.at c.args.more.now c.loop-i.i c.index-more-i.result (omega arith) c.index-more-i.is)
