use Rattle.std.proofs.Common.{◌≡◌, take, drop}
use Rattle.cr_memory.proofs.flat.copied_each.Given as goal

abbrev pub invariant-loop-i : goal.invariant-loop-i
invariant-loop-i l = l.all.items ≡ take l.i (drop l.from l.cells)
