use Rattle.cr_main_words.proofs.Giving.{one_settings}
use Rattle.cr_main_words.proofs.laws.words_are_read_in_one_way.Goals as goal

pub returns : goal.returns
returns c = one_settings
