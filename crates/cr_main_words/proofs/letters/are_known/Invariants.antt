use Rattle.std.proofs.Common.{◌≡◌, true, take}
use Rattle.std.specs.List.{list_all}
use Rattle.cr_main_words.specs.Letters.{has_letter, pass_letters}
use Rattle.cr_main_words.proofs.letters.are_known.Given as goal

abbrev pub invariant-loop-letter : goal.invariant-loop-letter
invariant-loop-letter l = list_all (has_letter pass_letters) (take l.letter-index l.word) ≡ true
