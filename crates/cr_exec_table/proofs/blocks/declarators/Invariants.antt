use Rattle.std.proofs.Common.{◌≡◌, take}
use Rattle.std.specs.List.{filter}
use Rattle.cr_meaning_operations.specs.Operations.{is_automatic}
use Rattle.cr_exec_table.proofs.blocks.declarators.Given as goal

abbrev pub invariant-loop-part : goal.invariant-loop-part
invariant-loop-part l = l.declarators.items ≡ filter (is_automatic l.nodes) (take l.part-index l.part-items)
