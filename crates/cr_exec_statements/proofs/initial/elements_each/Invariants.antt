use Rattle.std.proofs.Common.{◌≡◌, ◌++◌, drop, length}
use Rattle.cr_memory.specs.Memory.{live_object}
use Rattle.cr_memory.specs.Access.{some_object}
use Rattle.cr_meaning.specs.Nodes.{elements_of}
use Rattle.cr_exec_statements.proofs.initial.elements_each.Given as goal

abbrev pub invariant-loop-kinds_left : goal.invariant-loop-kinds_left
invariant-loop-kinds_left l =
    let all = (some_object (live_object l.store l.object)).cells in
    l.cells.items ++ elements_of l.kinds_left (drop (length l.cells.items) all) ≡ elements_of l.kinds all

abbrev pub decreases-loop-kinds_left : goal.decreases-loop-kinds_left
decreases-loop-kinds_left l = length l.kinds_left
