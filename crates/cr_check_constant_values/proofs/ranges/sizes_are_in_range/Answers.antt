use Rattle.cr_check_constant_values.proofs.RangesLemmas.Ranges.{sizes}
use Rattle.cr_check_constant_values.proofs.ranges.sizes_are_in_range.Goals as goal

pub returns : goal.returns
returns c = sizes
