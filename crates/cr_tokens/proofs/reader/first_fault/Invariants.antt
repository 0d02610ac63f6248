use Rattle.std.proofs.Common.{length, ◌-◌, ◌≤◌}
use Rattle.cr_tokens.proofs.Comes.{Comes}
use Rattle.cr_tokens.proofs.reader.first_fault.Given as goal

abbrev pub invariant-loop-at : goal.invariant-loop-at
invariant-loop-at l = record {
  inside : l.at ≤ length l.file;
  few : l.count ≤ 262144;
  comes : Comes l.file l.at l.count;
}

abbrev pub decreases-loop-at : goal.decreases-loop-at
decreases-loop-at l = length l.file - l.at
