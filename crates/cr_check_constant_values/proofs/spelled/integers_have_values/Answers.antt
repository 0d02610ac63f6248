use Rattle.cr_check_constant_values.proofs.SpelledLemmas.Integers.{integers}
use Rattle.cr_check_constant_values.proofs.spelled.integers_have_values.Goals as goal

pub returns : goal.returns
returns c = integers
