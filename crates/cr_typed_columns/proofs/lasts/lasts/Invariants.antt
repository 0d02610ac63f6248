use Rattle.cr_scopes_bindings.specs.Last.{AreLast}
use Rattle.cr_typed_columns.specs.Entities.{entity_of}
use Rattle.cr_typed_columns.proofs.lasts.lasts.Given as goal

abbrev pub invariant-loop-at : goal.invariant-loop-at
invariant-loop-at l = AreLast (entity_of l.nodes l.names) l.at l.entities l.column.items
