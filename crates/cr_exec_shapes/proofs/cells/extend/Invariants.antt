use Rattle.std.proofs.Common.{◌≡◌, ◌++◌, take}
use Rattle.cr_exec_shapes.proofs.cells.extend.Given as goal

abbrev pub invariant-loop-own : goal.invariant-loop-own
invariant-loop-own l = l.cells.items ≡ l.initial.cells.items ++ take l.own-index l.more.items
