use Rattle.std.proofs.Common.{◌∙◌}
use Rattle.cr_scopes_events.specs.Events.{events_at, to_come}
use Rattle.cr_scopes_events.proofs.Walks.{walk_step, shorter}
use Rattle.cr_scopes_events.proofs.walk.walked.Goals as goal

pub loop-step-smaller : goal.loop-step-smaller
loop-step-smaller c =
    shorter c.loop-step.events.items c.walk_on.new.events.items _ _ c.in_ok-walk_on.ensures.one
    (walk_step (events_at c.args.tokens.now c.args.nodes.now) c.loop-step.left.items c.pop.new.self.items c.in-Some.step
    c.loop-step.events.items c.walk_on.new.events.items (to_come (events_at c.args.tokens.now c.args.nodes.now) c.walk_on.new.left.items)
    c.in-Some.ensures.items c.in_ok-walk_on.ensures.same)

pub loop-step-preserved : goal.loop-step-preserved
loop-step-preserved c = record {
  steps = c.in_ok-walk_on.ensures.steps;
  same =
      walk_step (events_at c.args.tokens.now c.args.nodes.now) c.loop-step.left.items c.pop.new.self.items c.in-Some.step
      c.loop-step.events.items c.walk_on.new.events.items (to_come (events_at c.args.tokens.now c.args.nodes.now) c.walk_on.new.left.items)
      c.in-Some.ensures.items c.in_ok-walk_on.ensures.same
      ∙ c.loop-step.invariant.same;
}
