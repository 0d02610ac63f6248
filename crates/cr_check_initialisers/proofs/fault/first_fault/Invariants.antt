use Rattle.std.proofs.Common.{◌≡◌, drop}
use Rattle.cr_check_expressions.specs.Breaks.{first_of}
use Rattle.cr_check_initialisers.specs.Known.{known_of}
use Rattle.cr_check_initialisers.specs.Plans.{entries_of}
use Rattle.cr_check_initialisers.specs.Faults.{plan_faults}
use Rattle.cr_check_initialisers.proofs.fault.first_fault.Given as goal

abbrev pub invariant-loop-at : goal.invariant-loop-at
invariant-loop-at l = l.first ≡ first_of (plan_faults (known_of l.source) l.is_static l.equals (entries_of l.source.table.now (drop l.at l.lines)))
