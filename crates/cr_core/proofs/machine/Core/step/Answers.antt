use Rattle.cr_core.specs.declared.events.Event.TheVariants as event
use Rattle.cr_core.specs.Core.{state_of}
use Rattle.cr_core.proofs.Totals.{does_keep, answer_keeps}
use Rattle.cr_core.proofs.machine.Core.step.Goals as goal

pub returns-in-Claim-clause-sound : goal.returns-in-Claim-clause-sound
returns-in-Claim-clause-sound c =
    answer_keeps (event.Claim c.in-Claim.worker c.in-Claim.done) (state_of c.args.self.now) (state_of c.claim.new.self) c.claim.result
    c.claim.ensures.ok c.claim.ensures.err

pub returns-in-Hit-clause-sound : goal.returns-in-Hit-clause-sound
returns-in-Hit-clause-sound c =
    does_keep (event.Hit c.in-Hit.worker c.in-Hit.kind) (state_of c.args.self.now) (state_of c.hit.new.self) c.hit.result c.hit.ensures

pub returns-in-Leave-clause-sound : goal.returns-in-Leave-clause-sound
returns-in-Leave-clause-sound c =
    does_keep (event.Leave c.in-Leave.worker c.in-Leave.done) (state_of c.args.self.now) (state_of c.leave.new.self) c.leave.result c.leave.ensures
