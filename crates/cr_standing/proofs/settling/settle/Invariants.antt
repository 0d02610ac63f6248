use Rattle.std.specs.Prelude.{All}
use Rattle.cr_standing.specs.Links.{LinkSays}
use Rattle.cr_standing_workers.specs.Channels.{AreSeats}
use Rattle.cr_standing.proofs.settling.settle.Given as goal

abbrev pub invariant-loop : goal.invariant-loop
invariant-loop g l = record { seats : AreSeats l.lines l.seat; say : All (LinkSays g.S.Subject.orders g.S.Subject.replies) l.chain.links.items }
