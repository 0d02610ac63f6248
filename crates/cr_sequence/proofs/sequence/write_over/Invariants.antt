use Rattle.std.proofs.Common.{◌≡◌, take}
use Rattle.cr_sequence.specs.Written.{overwritten}
use Rattle.cr_sequence.proofs.sequence.write_over.Given as goal

abbrev pub invariant-loop-i : goal.invariant-loop-i
invariant-loop-i g l = l.items.items ≡ overwritten l.fn.items.items l.at (take l.i l.more)
