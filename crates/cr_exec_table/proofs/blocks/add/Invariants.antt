use Rattle.std.proofs.Common.{◌≡◌, ◌++◌, map, take}
use Rattle.std.specs.List.{filter}
use Rattle.cr_meaning_operations.specs.Operations.{is_automatic, name_of}
use Rattle.cr_exec_table.proofs.blocks.add.Given as goal

abbrev pub invariant-loop-part : goal.invariant-loop-part
invariant-loop-part l = l.objects.items ≡ l.initial.objects.items ++ map (name_of l.nodes) (filter (is_automatic l.nodes) (take l.part-index l.part-items))
