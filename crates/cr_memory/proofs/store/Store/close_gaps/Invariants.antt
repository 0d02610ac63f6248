use Rattle.std.proofs.Common.{◌-◌, length}
use Rattle.cr_memory.proofs.Moving.{Moved}
use Rattle.cr_memory.proofs.store.Store.close_gaps.Given as goal

abbrev pub invariant-loop-number : goal.invariant-loop-number
invariant-loop-number l =
    Moved l.self-inside.most l.self-inside.live l.self-inside.spans l.self-inside.cells l.self-inside.shape l.from l.end l.fn.self

abbrev pub decreases-loop-number : goal.decreases-loop-number
decreases-loop-number l = length l.self-inside.spans - l.from
