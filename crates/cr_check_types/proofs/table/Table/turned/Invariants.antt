use Rattle.std.proofs.Common.{◌≡◌, ◌<◌, length}
use Rattle.cr_check_types.specs.Types.{type_at, Grows}
use Rattle.cr_check_types.specs.Relations.{turned}
use Rattle.cr_check_types.proofs.table.Table.turned.Given as goal

abbrev pub invariant-loop-below : goal.invariant-loop-below
invariant-loop-below l = record {
  rest : l.rest < length l.self;
  made : l.made < length l.self;
  grows : Grows l.fn.self l.self;
  same : turned (type_at l.self l.rest) (type_at l.self l.made) ≡ turned (type_at l.fn.self l.fn.derivations) (type_at l.fn.self l.fn.base);
}

abbrev pub decreases-loop-below : goal.decreases-loop-below
decreases-loop-below l = l.rest
