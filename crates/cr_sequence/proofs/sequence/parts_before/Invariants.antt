use Rattle.std.proofs.Common.{◌≤◌, length}
use Rattle.cr_sequence.specs.Stretches.{BeginsFrom}
use Rattle.cr_sequence.proofs.sequence.parts_before.Given as goal

abbrev pub invariant-loop-count : goal.invariant-loop-count
invariant-loop-count g l = record {
  within : l.count ≤ length l.parts.items;
  behind : BeginsFrom l.parts.items l.count l.index;
}

abbrev pub decreases-loop-count : goal.decreases-loop-count
decreases-loop-count g l = l.count
