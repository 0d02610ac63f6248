use Rattle.std.proofs.Common.{◌≡◌, ◌++◌, map, take}
use Rattle.cr_memory.specs.Memory.{first_cell}
use Rattle.cr_memory.proofs.lifetime.push_cells.Given as goal

abbrev pub invariant-loop-own : goal.invariant-loop-own
invariant-loop-own l = l.cells ≡ l.fn.cells ++ map (first_cell l.zero) (take l.own-index l.shape)
