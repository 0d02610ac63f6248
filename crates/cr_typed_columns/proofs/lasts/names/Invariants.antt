use Rattle.cr_scopes_bindings.specs.Last.{AreLast}
use Rattle.cr_typed_columns.specs.Entities.{named_token}
use Rattle.cr_typed_columns.proofs.lasts.names.Given as goal

abbrev pub invariant-loop-at : goal.invariant-loop-at
invariant-loop-at l = AreLast (named_token l.nodes) l.at l.tokens l.column.items
