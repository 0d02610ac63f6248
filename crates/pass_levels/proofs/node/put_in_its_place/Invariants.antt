use Rattle.std.proofs.Common.{◌≡◌, ◌++◌, take}
use Rattle.pass_levels.specs.Nodes.{in_its_place}
use Rattle.pass_levels.proofs.node.put_in_its_place.Given as goal

abbrev pub invariant-loop-part : goal.invariant-loop-part
invariant-loop-part l = l.all.items ≡ l.fn.all.items ++ in_its_place l.tokens l.nodes l.node (take l.part-index l.parts)
