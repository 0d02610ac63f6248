use Rattle.std.proofs.Common.{◌≡◌, slice_get}
use Rattle.cr_check_expressions.specs.Breaks.{first_of, argument_faults}
use Rattle.cr_check_declarations.specs.Before.{before_at}
use Rattle.cr_check_declarations.specs.Faults.{parameter_fault}
use Rattle.cr_check_declarations.proofs.definition.parameter_faults.Given as goal

abbrev pub invariant-loop-k : goal.invariant-loop-k
invariant-loop-k l =
    l.first ≡ first_of (argument_faults
    (λ k. parameter_fault (before_at l.table l.columns) l.tree.nodes.now l.at (slice_get l.list.items k)) l.k)
