use Rattle.std.proofs.Common.{◌≡◌, ◌++◌, take}
use Rattle.cr_main_words.specs.Words.{texts_of}
use Rattle.cr_main_words.proofs.flags.push_all.Given as goal

abbrev pub invariant-loop-word : goal.invariant-loop-word
invariant-loop-word l = texts_of l.rest.items ≡ texts_of l.initial.rest.items ++ texts_of (take l.word-index l.list)
