use Rattle.std.proofs.Common.{◌≡◌, drop}
use Rattle.cr_meaning.specs.Turns.{item_at}
use Rattle.cr_exec_turns.proofs.lists.item_at.Given as goal

abbrev pub invariant-loop-target : goal.invariant-loop-target
invariant-loop-target l = item_at (drop l.target-index l.labels) l.label ≡ item_at l.labels l.label
