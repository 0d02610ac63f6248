use Rattle.std.proofs.Common.{◌≡◌, ◌<◌, length}
use Rattle.cr_check_types.specs.Types.{type_at}
use Rattle.cr_check_declarators.specs.Declarators.{are_whole}
use Rattle.cr_check_declarators.proofs.declared.are_whole.Given as goal

abbrev pub invariant-loop-below : goal.invariant-loop-below
invariant-loop-below l = record {
  rest : l.rest < length l.table;
  same : are_whole l.whole (type_at l.table l.rest) ≡ are_whole l.fn.complete (type_at l.table l.fn.derivations);
}

abbrev pub decreases-loop-below : goal.decreases-loop-below
decreases-loop-below l = l.rest
