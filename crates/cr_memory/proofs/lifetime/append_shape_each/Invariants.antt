use Rattle.std.proofs.Common.{◌≡◌, ◌++◌}
use Rattle.cr_sequence.specs.Kept.{repeated}
use Rattle.cr_memory.proofs.lifetime.append_shape_each.Given as goal

abbrev pub invariant-loop-turn : goal.invariant-loop-turn
invariant-loop-turn l = l.shapes ≡ l.fn.shapes ++ repeated l._turn l.shape
