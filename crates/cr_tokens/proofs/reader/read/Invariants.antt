use Rattle.std.proofs.Common.{length, ◌-◌, ◌≤◌}
use Rattle.cr_tokens.specs.Tokens.{FallsInto}
use Rattle.cr_tokens.proofs.reader.read.Given as goal

abbrev pub invariant-loop-at : goal.invariant-loop-at
invariant-loop-at l = record {
  inside : l.at ≤ length l.file;
  few : length l.list.items ≤ 262144;
  falls : FallsInto l.file 0 l.at l.list.items;
}

abbrev pub decreases-loop-at : goal.decreases-loop-at
decreases-loop-at l = length l.file - l.at
