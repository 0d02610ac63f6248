use Rattle.std.proofs.Common.{length}
use Rattle.cr_scopes_bindings.specs.Last.{AreLast}
use Rattle.cr_scopes_bindings.specs.Nodes.{tag_at}
use Rattle.cr_scopes_bindings.proofs.nodes.specifiers.Given as goal

abbrev pub invariant-loop-at : goal.invariant-loop-at
invariant-loop-at l = AreLast (tag_at l.nodes l.tokens) l.at (length l.tokens) l.column.items
