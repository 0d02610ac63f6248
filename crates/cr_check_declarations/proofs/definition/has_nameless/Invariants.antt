use Rattle.std.proofs.Common.{◌≡◌, take}
use Rattle.std.specs.List.{list_any}
use Rattle.cr_check_declarations.specs.Faults.{is_nameless}
use Rattle.cr_check_declarations.proofs.definition.has_nameless.Given as goal

abbrev pub invariant-loop-part : goal.invariant-loop-part
invariant-loop-part l = l.nameless ≡ list_any (is_nameless l.tree.nodes.now) (take l.part-index l.list.items)
