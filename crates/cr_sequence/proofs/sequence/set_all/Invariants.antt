use Rattle.std.proofs.Common.{◌≡◌, take}
use Rattle.cr_sequence.specs.Written.{overwritten}
use Rattle.cr_sequence.proofs.sequence.set_all.Given as goal

abbrev pub invariant-loop-i : goal.invariant-loop-i
invariant-loop-i g l = l.items ≡ overwritten l.fn.items l.at (take l.i l.more)
