use Rattle.std.proofs.Common.{◌≡◌, length}
use Rattle.cr_main_words.specs.Letters.{are_different}
use Rattle.cr_main_words.proofs.letters.are_different.Given as goal

abbrev pub invariant-loop-rest : goal.invariant-loop-rest
invariant-loop-rest l = are_different l.rest ≡ are_different l.fn.word

abbrev pub decreases-loop-rest : goal.decreases-loop-rest
decreases-loop-rest l = length l.rest
