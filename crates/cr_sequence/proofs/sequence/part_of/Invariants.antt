use Rattle.std.proofs.Common.{◌-◌, ◌<◌, ◌≤◌, length}
use Rattle.cr_sequence.specs.Stretches.{BeginsBy, BeginsBehind}
use Rattle.cr_sequence.proofs.sequence.part_of.Given as goal

abbrev pub invariant-loop-high : goal.invariant-loop-high
invariant-loop-high g l = record {
  ordered : l.low < l.high;
  within : l.high ≤ length l.parts.items;
  from : BeginsBy l.parts.items l.low l.index;
  next : BeginsBehind l.parts.items l.high l.index;
}

abbrev pub decreases-loop-high : goal.decreases-loop-high
decreases-loop-high g l = l.high - l.low
