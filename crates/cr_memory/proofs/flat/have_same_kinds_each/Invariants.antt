use Rattle.std.proofs.Common.{◌≡◌, ◌+◌, ◌-◌, take, drop}
use Rattle.cr_memory.specs.Access.{have_same_kinds}
use Rattle.cr_memory.proofs.flat.have_same_kinds_each.Given as goal

abbrev pub invariant-loop-i : goal.invariant-loop-i
invariant-loop-i l =
    have_same_kinds (take l.count (drop l.left l.shape)) (take l.count (drop l.right l.shape))
    ≡ have_same_kinds (take (l.count - l.i) (drop (l.left + l.i) l.shape)) (take (l.count - l.i) (drop (l.right + l.i) l.shape))
