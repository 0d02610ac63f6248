use Rattle.std.proofs.Common.{◌≡◌, ◌++◌, take}
use Rattle.pass_levels.specs.Nodes.{each_becoming}
use Rattle.pass_levels.proofs.node.put_each_becoming.Given as goal

abbrev pub invariant-loop-part : goal.invariant-loop-part
invariant-loop-part l = l.all.items ≡ l.fn.all.items ++ each_becoming l.tokens l.nodes (take l.part-index l.parts) l.text
