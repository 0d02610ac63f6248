use Rattle.std.proofs.Common.{◌≡◌, take}
use Rattle.cr_exprs_descent.specs.Source.{words_in}
use Rattle.cr_exprs_descent.proofs.source.words_of.Given as goal

abbrev pub invariant-loop-token : goal.invariant-loop-token
invariant-loop-token l = l.words.items ≡ words_in l.file (take l.token-index l.tokens)
