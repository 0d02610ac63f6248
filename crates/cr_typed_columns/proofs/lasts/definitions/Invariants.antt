use Rattle.cr_scopes_bindings.specs.Last.{AreLast}
use Rattle.cr_typed_columns.specs.Entities.{defined_entity}
use Rattle.cr_typed_columns.proofs.lasts.definitions.Given as goal

abbrev pub invariant-loop-at : goal.invariant-loop-at
invariant-loop-at l = AreLast (defined_entity l.nodes l.names) l.at l.entities l.column.items
