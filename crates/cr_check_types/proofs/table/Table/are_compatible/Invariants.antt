use Rattle.std.proofs.Common.{◌≡◌, ◌<◌, length}
use Rattle.cr_check_types.specs.Types.{type_at}
use Rattle.cr_check_types.specs.Relations.{are_compatible}
use Rattle.cr_check_types.proofs.table.Table.are_compatible.Given as goal

abbrev pub invariant-loop-answer : goal.invariant-loop-answer
invariant-loop-answer l = record {
  one : l.one < length l.self;
  other : l.other < length l.self;
  same : are_compatible (type_at l.self l.one) (type_at l.self l.other) ≡ are_compatible (type_at l.self l.fn.left) (type_at l.self l.fn.right);
}

abbrev pub decreases-loop-answer : goal.decreases-loop-answer
decreases-loop-answer l = l.one
