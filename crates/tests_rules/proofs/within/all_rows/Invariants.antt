use Rattle.std.proofs.Common.{◌<◌, ℕ, length, slice_index}
use Rattle.tests_rules.proofs.within.all_rows.Given as goal

abbrev pub invariant-loop-at : goal.invariant-loop-at
invariant-loop-at l = (k : ℕ) → k < l.at → slice_index l.rows k < length l.table
