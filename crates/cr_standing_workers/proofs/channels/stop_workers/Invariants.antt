use Rattle.cr_standing_workers.specs.Channels.{AreSeats}
use Rattle.cr_standing_workers.proofs.channels.stop_workers.Given as goal

abbrev pub invariant-loop : goal.invariant-loop
invariant-loop g l = AreSeats l.lines l.seat
