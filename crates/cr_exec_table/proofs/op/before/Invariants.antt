use Rattle.std.proofs.Common.{◌≡◌, ◌∷◌, take}
use Rattle.cr_exec_table.proofs.op.before.Given as goal

abbrev pub invariant-loop-item : goal.invariant-loop-item
invariant-loop-item l = l.parts.items ≡ l.first ∷ take l.item-index l.items
