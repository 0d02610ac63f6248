use Rattle.std.proofs.Common.{rules}
use Rattle.cr_ints.proofs.arithmetic.shl.Goals.{else-left-ge0-via-then-left-ge0+else-can_represent, else-left-ge0-via-else-left-ge0}
use Rattle.cr_ints.proofs.arithmetic.shl.Goals as goal

pub returns-else-left-ge0-clause-value : goal.returns-else-left-ge0-clause-value
returns-else-left-ge0-clause-value c =
    elim c.else-left-ge0.branch [ else-left-ge0-via-then-left-ge0+else-can_represent w ↦ search rules | else-left-ge0-via-else-left-ge0 w ↦ search rules ]
