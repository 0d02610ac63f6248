use Rattle.std.proofs.Common.{◌≡◌}
use Rattle.cr_sequence.specs.Kept.{repeated}
use Rattle.cr_sequence.proofs.times.times_over.Given as goal

abbrev pub invariant-loop-turn : goal.invariant-loop-turn
invariant-loop-turn g l = l.all.items ≡ repeated l._turn l.one.items
