use Rattle.std.proofs.Common.{length}
use Rattle.cr_scopes_bindings.specs.Last.{AreLast}
use Rattle.cr_scopes_bindings.specs.Entities.{content_entity}
use Rattle.cr_scopes_bindings.proofs.nodes.contents.Given as goal

abbrev pub invariant-loop-at : goal.invariant-loop-at
invariant-loop-at l = AreLast (content_entity l.names l.nodes l.tokens) l.at (length l.names.entities) l.column.items
