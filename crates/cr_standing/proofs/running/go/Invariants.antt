use Rattle.std.proofs.Common.{◌≡◌, drop}
use Rattle.cr_reduce.specs.Bench.{Each}
use Rattle.cr_reduce.specs.Reduction.{Within}
use Rattle.cr_standing_workers.specs.Serving.{Serves}
use Rattle.cr_standing_workers.specs.Told.{searching_by}
use Rattle.cr_standing.specs.Walk.{IsSound, Leads, standing_at}
use Rattle.cr_standing.proofs.running.go.Given as goal

abbrev pub invariant-loop : goal.invariant-loop
invariant-loop g l = record {
  serve : Each (Serves g.J.Judge (g.Q.Question.asks l.task.question.now)) l.fn.judges.items l.judges.items;
  idle : drop l.plan.workers l.judges.items ≡ drop l.plan.workers l.fn.judges.items;
  sound : IsSound (g.P.Passes.offers l.task.passes.now) (g.P.Passes.offer l.task.passes.now) l.walk;
  leads : Leads (searching_by g.P.Passes g.L.Law g.Q.Question l.task g.S.Subject.told) (standing_at (g.P.Passes.offer l.task.passes.now) l.fn.walk) (standing_at (g.P.Passes.offer l.task.passes.now) l.walk);
  within : Within l.plan.limit l.walk.turns;
}
