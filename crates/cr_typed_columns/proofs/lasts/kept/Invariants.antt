use Rattle.cr_scopes_bindings.specs.Last.{AreLast}
use Rattle.cr_typed_columns.specs.Entities.{kept_entity}
use Rattle.cr_typed_columns.proofs.lasts.kept.Given as goal

abbrev pub invariant-loop-at : goal.invariant-loop-at
invariant-loop-at l = AreLast (kept_entity l.nodes l.checked) l.at l.entities l.column.items
