use Rattle.cr_scopes_bindings.specs.Last.{AreLast}
use Rattle.cr_scopes_bindings.specs.Nodes.{name_at}
use Rattle.cr_scopes_bindings.proofs.nodes.declarers.Given as goal

abbrev pub invariant-loop-at : goal.invariant-loop-at
invariant-loop-at l = AreLast (name_at l.nodes) l.at l.tokens l.column.items
