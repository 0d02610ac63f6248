use Rattle.std.proofs.Common.{◌≡◌, ◌<◌, length}
use Rattle.cr_check_types.specs.Types.{type_at}
use Rattle.cr_check_types.specs.Relations.{are_compatible}
use Rattle.cr_meaning_operations.specs.Shapes.{unqualified}
use Rattle.cr_exec_shapes.proofs.names.are_alike.Given as goal

abbrev pub invariant-loop-one : goal.invariant-loop-one
invariant-loop-one l = record {
  left : l.left < length l.table;
  right : l.right < length l.table;
  same : are_compatible (unqualified (type_at l.table l.left)) (unqualified (type_at l.table l.right)) ≡ are_compatible (unqualified (type_at l.table l.fn.left)) (unqualified (type_at l.table l.fn.right));
}

abbrev pub decreases-loop-one : goal.decreases-loop-one
decreases-loop-one l = l.left
