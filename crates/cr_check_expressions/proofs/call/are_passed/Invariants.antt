use Rattle.std.proofs.Common.{◌≡◌, slice_get}
use Rattle.cr_check_types.specs.Types.{type_at}
use Rattle.cr_check_operands.specs.Places.{found_by}
use Rattle.cr_check_expressions.specs.Ruled.{operand, facts_at, are_passed}
use Rattle.cr_check_expressions.proofs.call.are_passed.Given as goal

abbrev pub invariant-loop-k : goal.invariant-loop-k
invariant-loop-k l =
    l.passed ≡ are_passed (λ k. found_by (type_at l.table) (slice_get l.parameters k)) (operand (facts_at l.table l.facts) l.parts) l.k
