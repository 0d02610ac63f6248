use Rattle.std.proofs.Common.{length}
use Rattle.cr_outside_disk.proofs.memory_disk.+fill_after.Given as goal

abbrev pub decreases-fill_after : goal.decreases-fill_after
decreases-fill_after l = length l.events.now
