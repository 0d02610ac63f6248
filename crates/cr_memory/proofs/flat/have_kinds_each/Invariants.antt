use Rattle.std.proofs.Common.{◌≡◌, ◌+◌, ◌-◌, length, take, drop}
use Rattle.cr_memory.specs.Access.{have_kinds}
use Rattle.cr_memory.proofs.flat.have_kinds_each.Given as goal

abbrev pub invariant-loop-i : goal.invariant-loop-i
invariant-loop-i l =
    have_kinds (take (length l.kinds) (drop l.from l.shape)) l.kinds
    ≡ have_kinds (take (length l.kinds - l.i) (drop (l.from + l.i) l.shape)) (drop l.i l.kinds)
