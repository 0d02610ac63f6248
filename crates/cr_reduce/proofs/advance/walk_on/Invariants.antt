use Rattle.std.proofs.Common.{◌≡◌, drop, false}
use Rattle.cr_reduce.specs.Bench.{judging, keys_of}
use Rattle.cr_reduce.specs.Reduction.{Within}
use Rattle.cr_reduce.specs.Search.{AreMade, searching}
use Rattle.cr_reduce.specs.Walk.{AsksFew, IsSound, Walked, state_of, work_of}
use Rattle.cr_reduce.proofs.advance.walk_on.Given as goal

abbrev pub invariant-loop-why : goal.invariant-loop-why
invariant-loop-why g l = record {
  sound : IsSound (g.P.Passes.offers l.passes) (g.P.Passes.offer l.passes) l.walk;
  walked : Walked (searching g.P.Passes l.passes g.L.Law l.law g.Q.Question l.question l.name g.J.Judge l.fn.bench)
      (judging g.J.Judge l.fn.bench) (judging g.J.Judge l.bench) (state_of (g.P.Passes.offer l.passes) l.fn.walk) (state_of (g.P.Passes.offer l.passes) l.walk);
  within : Within l.plan.limit l.walk.turns;
  few : AsksFew l.plan.window (judging g.J.Judge l.fn.bench) (judging g.J.Judge l.bench) (state_of (g.P.Passes.offer l.passes) l.fn.walk) (state_of (g.P.Passes.offer l.passes) l.walk) 0;
  keys : keys_of g.J.Judge l.bench ≡ keys_of g.J.Judge l.fn.bench;
  others : drop l.plan.workers l.bench.judges ≡ drop l.plan.workers l.fn.bench.judges;
  silent : g.Q.Question.asks l.question ≡ false → l.bench.judges ≡ l.fn.bench.judges;
  keeps : g.K.Keeper.keeps l.keeper l.walk.accepted.items;
  kept_on : g.K.Keeper.kept_on l.fn.keeper l.keeper l.walk.accepted.items;
  held : g.K.Keeper.held l.keeper ≡ g.K.Keeper.held l.fn.keeper;
  made : AreMade (searching g.P.Passes l.passes g.L.Law l.law g.Q.Question l.question l.name g.J.Judge l.fn.bench) (judging g.J.Judge l.fn.bench) (judging g.J.Judge l.bench) l.bench.kept;
}

abbrev pub decreases-loop-why : goal.decreases-loop-why
decreases-loop-why g l = work_of l.walk
