use Rattle.std.proofs.Common.{replicate}
use Rattle.cr_meaning.specs.World.{Answer, next}
use Rattle.cr_exec_stack.specs.Waiting.{Waiting, with_more}
use Rattle.cr_exec_slices.specs.Shown.{ShowsWaiting}
use Rattle.cr_exec_slices.proofs.machine.pass.Given as goal

abbrev pub invariant-loop : goal.invariant-loop
invariant-loop g l = (waiting : Waiting Answer) → ShowsWaiting g.N.Nodes.shows l.fn.stack waiting
    → ShowsWaiting g.N.Nodes.shows l.stack (with_more waiting (replicate l.counter next))
