use Rattle.std.proofs.Common.{◌≡◌, ◌++◌, take}
use Rattle.cr_memory.proofs.lifetime.push_shape.Given as goal

abbrev pub invariant-loop-own : goal.invariant-loop-own
invariant-loop-own l = l.shapes ≡ l.fn.shapes ++ take l.own-index l.shape
