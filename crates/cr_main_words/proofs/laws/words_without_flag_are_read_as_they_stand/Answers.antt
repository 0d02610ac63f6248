use Rattle.cr_main_words.proofs.Asking.{plain_reduction}
use Rattle.cr_main_words.proofs.laws.words_without_flag_are_read_as_they_stand.Goals as goal

pub returns : goal.returns
returns c = plain_reduction
