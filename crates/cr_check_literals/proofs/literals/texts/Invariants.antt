use Rattle.std.proofs.Common.{[]}
use Rattle.cr_rows.specs.Columns.{AreOf}
use Rattle.cr_check_literals.specs.Texts.{text_at}
use Rattle.cr_check_literals.proofs.literals.texts.Given as goal

abbrev pub invariant-loop-at : goal.invariant-loop-at
invariant-loop-at l = AreOf (text_at l.file l.tokens l.nodes) [] l.at l.texts.items
