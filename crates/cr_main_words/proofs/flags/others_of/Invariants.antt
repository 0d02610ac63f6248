use Rattle.std.proofs.Common.{◌≡◌, filter, not, take}
use Rattle.cr_main_words.specs.Flags.{is_flag}
use Rattle.cr_main_words.specs.Words.{texts_of}
use Rattle.cr_main_words.proofs.flags.others_of.Given as goal

abbrev pub invariant-loop-word : goal.invariant-loop-word
invariant-loop-word l = texts_of l.others.items ≡ filter (λ word. not (is_flag word)) (texts_of (take l.word-index l.front))
