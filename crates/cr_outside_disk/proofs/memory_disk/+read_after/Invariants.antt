use Rattle.std.proofs.Common.{length}
use Rattle.cr_outside_disk.proofs.memory_disk.+read_after.Given as goal

abbrev pub decreases-read_after : goal.decreases-read_after
decreases-read_after l = length l.events.now
