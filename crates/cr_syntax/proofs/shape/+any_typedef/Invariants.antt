use Rattle.std.proofs.Common.{length}
use Rattle.cr_syntax.proofs.shape.+any_typedef.Given as goal

abbrev pub decreases-any_typedef : goal.decreases-any_typedef
decreases-any_typedef l = length l.row.now
