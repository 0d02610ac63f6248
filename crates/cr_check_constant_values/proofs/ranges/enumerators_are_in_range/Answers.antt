use Rattle.cr_check_constant_values.proofs.RangesLemmas.Ranges.{enumerators}
use Rattle.cr_check_constant_values.proofs.ranges.enumerators_are_in_range.Goals as goal

pub returns : goal.returns
returns c = enumerators
