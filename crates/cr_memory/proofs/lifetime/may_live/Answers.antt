use Rattle.std.proofs.Common.{length, arith}
use Rattle.cr_sequence.specs.Kept.{repeated}
use Rattle.cr_memory.proofs.Lifetimes.{room_alike}
use Rattle.cr_memory.proofs.lifetime.may_live.Goals as goal

pub returns : goal.returns
returns c =
    room_alike c.args.live c.args.most c.cells_in.result (length (repeated c.args.times c.args.shape.now)) c.requires (omega (arith, c.ranges.most.fits))
    c.cells_in.ensures.exact c.cells_in.ensures.large
