use Rattle.std.proofs.Common.{◌≡◌, false, take, drop}
use Rattle.std.specs.List.{list_any}
use Rattle.cr_memory.specs.Access.{is_literal}
use Rattle.cr_memory.proofs.flat.has_literal_each.Given as goal

abbrev pub invariant-loop-i : goal.invariant-loop-i
invariant-loop-i l = list_any (λ s. is_literal s.1) (take l.i (drop l.from l.shape)) ≡ false
