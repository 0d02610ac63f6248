use Rattle.std.proofs.Common.{◌≡◌, take}
use Rattle.cr_tokens.specs.Runs.{spellings}
use Rattle.cr_formula.proofs.words.words_of.Given as goal

abbrev pub invariant-loop-token : goal.invariant-loop-token
invariant-loop-token l = l.words.items ≡ spellings l.text (take l.token-index l.tokens)
