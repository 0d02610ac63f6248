use Rattle.cr_core.specs.Core.{state_of}
use Rattle.cr_core.proofs.FirstHit.{least_is, first_is}
use Rattle.cr_core.proofs.Totals.{finished}
use Rattle.cr_core.proofs.machine.Core.first.Goals as goal

pub returns-clause-least_hit : goal.returns-clause-least_hit
returns-clause-least_hit c = rw c.hit_of.ensures (least_is _ _ _ _ c.requires)

pub returns-clause-finished : goal.returns-clause-finished
returns-clause-finished c f = rw c.hit_of.ensures (first_is _ _ _ _ (finished (state_of c.args.self.now) c.requires f))
