use Rattle.std.proofs.Common.{ap, ◌∙◌}
use Rattle.cr_core.specs.State.{State, start}
use Rattle.cr_core.specs.Core.{state_of}
use Rattle.cr_core.proofs.FirstHit.{first_is}
use Rattle.cr_core.proofs.Totals.{finished, run_turn, run_begins}
use Rattle.cr_core.proofs.machine.run.Goals as goal

pub loop-event-init : goal.loop-event-init
loop-event-init c =
    let made = c.in_ok-core.ensures in
    (run_begins (start c.args.len c.args.workers) (state_of c.in_ok-core.core) made.start, made.sound, ap (λ (s : State). s.len) made.start)

pub loop-event-preserved : goal.loop-event-preserved
loop-event-preserved c =
    let done = c.in_ok-step.ensures in
    let (ran, sound, length) = c.loop-event.invariant in (
      run_turn (start c.args.len c.args.workers) c.args.events.now c.loop-event.event-index _ (state_of c.loop-event.core) (state_of c.step.new.self) c.in_ok-step.field-0
          c.loop-event-test.true done.ok ran,
      c.step.ensures.sound sound,
      c.step.ensures.length ∙ length,
    )

pub returns-clause-first : goal.returns-clause-first
returns-clause-first c f =
    let s = state_of c.loop-event.core in
    first_is _ _ _ _ (finished s c.loop-event.invariant.1 f)
