use Rattle.std.proofs.Common.{◌≡◌, ◌<◌, length}
use Rattle.cr_check_types.specs.Types.{type_at, Grows}
use Rattle.cr_check_types.specs.Relations.{turned, composite_of}
use Rattle.cr_check_types.proofs.table.Table.composite.Given as goal

abbrev pub invariant-loop-x : goal.invariant-loop-x
invariant-loop-x l = record {
  one : l.one < length l.self;
  other : l.other < length l.self;
  levels : l.levels < length l.self;
  grows : Grows l.fn.self l.self;
  same : turned (type_at l.self l.levels) (composite_of (type_at l.self l.one) (type_at l.self l.other))
      ≡ composite_of (type_at l.fn.self l.fn.left) (type_at l.fn.self l.fn.right);
}

abbrev pub decreases-loop-x : goal.decreases-loop-x
decreases-loop-x l = l.one
