use Rattle.cr_main_words.proofs.Asking.{one_request}
use Rattle.cr_main_words.proofs.laws.words_ask_for_one_thing.Goals as goal

pub returns : goal.returns
returns c = one_request
