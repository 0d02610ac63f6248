use Rattle.std.proofs.Common.{◌≡◌, drop}
use Rattle.cr_exprs_descent.specs.Tables.{kind_of_word}
use Rattle.cr_exprs_descent.proofs.tables.find.Given as goal

-- the entries looked at are of other words
abbrev pub invariant-loop-word : goal.invariant-loop-word
invariant-loop-word l = kind_of_word l.table l.found ≡ kind_of_word (drop l.word-index l.table) l.found
