use Rattle.std.specs.Prelude.{All}
use Rattle.cr_reduce.specs.Reduction.{Within}
use Rattle.cr_standing.specs.Links.{LinkSays}
use Rattle.cr_standing_workers.specs.Channels.{AreSeats}
use Rattle.cr_standing_workers.specs.Told.{searching_by}
use Rattle.cr_standing.specs.Walk.{IsSound, Leads, standing_at}
use Rattle.cr_standing.proofs.walking.go_on.Given as goal

abbrev pub invariant-loop : goal.invariant-loop
invariant-loop g l = record {
  seats : AreSeats l.lines l.seat;
  say : All (LinkSays g.S.Subject.orders g.S.Subject.replies) l.chain.links.items;
  sound : IsSound (g.P.Passes.offers l.task.passes.now) (g.P.Passes.offer l.task.passes.now) l.walk;
  leads : Leads (searching_by g.P.Passes g.L.Law g.Q.Question l.task g.S.Subject.told) (standing_at (g.P.Passes.offer l.task.passes.now) l.fn.walk) (standing_at (g.P.Passes.offer l.task.passes.now) l.walk);
  within : Within l.plan.limit l.walk.turns;
}
