use Rattle.std.proofs.Common.{◌≡◌, false, take, drop}
use Rattle.std.specs.List.{list_any}
use Rattle.cr_memory.specs.Access.{is_constant}
use Rattle.cr_memory.proofs.flat.has_constant_each.Given as goal

abbrev pub invariant-loop-i : goal.invariant-loop-i
invariant-loop-i l = list_any (λ s. is_constant s.1) (take l.i (drop l.from l.shape)) ≡ false
