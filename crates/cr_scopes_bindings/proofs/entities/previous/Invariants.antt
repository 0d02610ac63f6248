use Rattle.std.proofs.Common.{length, None}
use Rattle.cr_scopes_bindings.specs.Last.{AreLast}
use Rattle.cr_scopes_bindings.specs.Entities.{declared_entity, previous_of}
use Rattle.cr_rows.specs.Columns.{AreOf}
use Rattle.cr_scopes_bindings.proofs.entities.previous.Given as goal

abbrev pub invariant-loop-token : goal.invariant-loop-token
invariant-loop-token l = record {
  last : AreLast (declared_entity l.names) l.token (length l.names.entities) l.last.items;
  previous : AreOf (previous_of l.names) None l.token l.previous.items;
}
