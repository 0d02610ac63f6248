use Rattle.std.proofs.Common.{◌≡◌}
use Rattle.cr_check_types.specs.Types.{type_at}
use Rattle.cr_check_expressions.specs.Known.{meaning_by}
use Rattle.cr_check_expressions.specs.Ruled.{operand, facts_at}
use Rattle.cr_check_expressions.specs.Breaks.{argument_fault, argument_faults, first_of}
use Rattle.cr_check_expressions.proofs.fault.argument_faults.Given as goal

abbrev pub invariant-loop-k : goal.invariant-loop-k
invariant-loop-k l =
    l.first ≡ first_of (argument_faults
    (argument_fault l.nodes (meaning_by (type_at l.table) l.parameters l.declared) (operand (facts_at l.table l.facts) l.parts) l.parts) l.k)
