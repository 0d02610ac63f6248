use Rattle.std.proofs.Common.{◌≡◌, ◌+◌, length}
use Rattle.cr_memory.specs.Flat.{RunHolds}
use Rattle.cr_memory.proofs.flat.each_holds.Given as goal

abbrev pub invariant-loop-left : goal.invariant-loop-left
invariant-loop-left l = record {
  count : l.count + length l.left ≡ length l.values;
  holds : RunHolds l.spans l.shape (l.first + l.count) l.left → RunHolds l.spans l.shape l.first l.values;
}

abbrev pub decreases-loop-left : goal.decreases-loop-left
decreases-loop-left l = length l.left
