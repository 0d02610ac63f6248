use Rattle.std.proofs.Common.{◌≡◌, ◌++◌, map}
use Rattle.cr_sequence.specs.Kept.{repeated}
use Rattle.cr_memory.specs.Memory.{first_cell}
use Rattle.cr_memory.proofs.lifetime.append_cells_each.Given as goal

abbrev pub invariant-loop-turn : goal.invariant-loop-turn
invariant-loop-turn l = l.cells ≡ l.fn.cells ++ map (first_cell l.zero) (repeated l._turn l.shape)
