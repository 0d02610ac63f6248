use Rattle.std.proofs.Common.{take}
use Rattle.cr_tokens.specs.Runs.{spellings}
use Rattle.cr_printer.specs.Text.{Prints}
use Rattle.cr_printer.proofs.text.print_tokens.Given as goal

abbrev pub invariant-loop-at : goal.invariant-loop-at
invariant-loop-at l = Prints (take l.at (spellings l.file l.tokens)) l.text.items
