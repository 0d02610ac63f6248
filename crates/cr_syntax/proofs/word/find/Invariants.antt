use Rattle.std.proofs.Common.{◌≡◌, drop}
use Rattle.cr_syntax.specs.Words.{word_in, entries_of}
use Rattle.cr_syntax.proofs.word.find.Given as goal

-- the entries looked at are of another spelling
abbrev pub invariant-loop-text : goal.invariant-loop-text
invariant-loop-text l = word_in (entries_of l.table) l.spelling ≡ word_in (entries_of (drop l.text-index l.table)) l.spelling
