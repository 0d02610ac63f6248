use Rattle.std.proofs.Common.{◌≡◌, drop}
use Rattle.cr_exec_turns.specs.Kept.{value_case}
use Rattle.cr_exec_turns.proofs.cases.value_case.Given as goal

abbrev pub invariant-loop-case : goal.invariant-loop-case
invariant-loop-case l = value_case l.kind (drop l.case-index l.cases) l.other l.control ≡ value_case l.kind l.cases l.other l.control
