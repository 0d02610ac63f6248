use Rattle.cr_check_constant_values.proofs.SpelledLemmas.Characters.{characters}
use Rattle.cr_check_constant_values.proofs.spelled.characters_have_values.Goals as goal

pub returns : goal.returns
returns c = characters
