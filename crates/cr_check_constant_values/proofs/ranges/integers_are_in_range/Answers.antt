use Rattle.cr_check_constant_values.proofs.RangesLemmas.Ranges.{integers}
use Rattle.cr_check_constant_values.proofs.ranges.integers_are_in_range.Goals as goal

pub returns : goal.returns
returns c = integers
