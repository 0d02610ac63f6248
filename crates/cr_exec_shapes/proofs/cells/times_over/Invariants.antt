use Rattle.std.proofs.Common.{◌≡◌}
use Rattle.cr_meaning_operations.specs.Shapes.{repeated}
use Rattle.cr_exec_shapes.proofs.cells.times_over.Given as goal

abbrev pub invariant-loop-turn : goal.invariant-loop-turn
invariant-loop-turn l = l.all.items ≡ repeated l._turn l.one.items
