use Rattle.std.proofs.Common.{◌≡◌, ◌<◌, ℕ, None, length, slice_index_or}
use Rattle.cr_check_enclosing.specs.Above.{above_of}
use Rattle.cr_check_enclosing.proofs.parent.above.Given as goal

abbrev pub invariant-loop-at : goal.invariant-loop-at
invariant-loop-at l = record {
  count : length l.above.items ≡ length l.nodes;
  each : (part : ℕ) → part < length l.nodes → slice_index_or l.above.items part None ≡ above_of l.nodes l.at part;
}
