use Rattle.cr_check_constant_values.proofs.RangesLemmas.Ranges.{characters}
use Rattle.cr_check_constant_values.proofs.ranges.characters_are_in_range.Goals as goal

pub returns : goal.returns
returns c = characters
