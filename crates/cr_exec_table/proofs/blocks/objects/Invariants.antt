use Rattle.std.proofs.Common.{◌≡◌, take}
use Rattle.cr_meaning_operations.specs.Operations.{objects_in}
use Rattle.cr_exec_table.proofs.blocks.objects.Given as goal

abbrev pub invariant-loop-item : goal.invariant-loop-item
invariant-loop-item l = l.objects.items ≡ objects_in l.nodes (take l.item-index l.items)
