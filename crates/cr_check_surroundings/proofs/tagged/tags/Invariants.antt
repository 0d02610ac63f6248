use Rattle.std.proofs.Common.{None}
use Rattle.cr_rows.specs.Columns.{AreOf}
use Rattle.cr_check_surroundings.specs.Named.{tag_of}
use Rattle.cr_check_surroundings.proofs.tagged.tags.Given as goal

abbrev pub invariant-loop-at : goal.invariant-loop-at
invariant-loop-at l = AreOf (tag_of l.bindings l.names l.nodes l.tokens) None l.at l.column.items
