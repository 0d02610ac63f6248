use Rattle.std.proofs.Common.{length, ◌+◌, ◌*◌, ◌^◌}
use Rattle.cr_syntax.proofs.shape.+open.Given as goal

abbrev pub decreases-ends_open : goal.decreases-ends_open
decreases-ends_open l = l.bound * 2 ^ 65 + length l.row.now

abbrev pub decreases-leaves_open : goal.decreases-leaves_open
decreases-leaves_open l = l.bound * 2 ^ 65 + 2 ^ 64
