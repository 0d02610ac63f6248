use Rattle.std.proofs.Common.{◌≡◌, drop}
use Rattle.cr_meaning_operations.specs.Operations.{part_from}
use Rattle.cr_exec_table.proofs.loops.part_from.Given as goal

abbrev pub invariant-loop-part : goal.invariant-loop-part
invariant-loop-part l = part_from l.types (drop l.part-index l.parts) l.token ≡ part_from l.types l.parts l.token
