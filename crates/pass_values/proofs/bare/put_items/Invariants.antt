use Rattle.std.proofs.Common.{◌≡◌, ◌++◌, take}
use Rattle.std.specs.List.{flat_map}
use Rattle.pass_levels.specs.Nodes.{node_at}
use Rattle.pass_values.specs.Declarators.{facts_of}
use Rattle.pass_values.specs.Values.{bared_by}
use Rattle.pass_values.proofs.bare.put_items.Given as goal

abbrev pub invariant-loop-part : goal.invariant-loop-part
invariant-loop-part l = l.all.items ≡ l.fn.all.items ++ flat_map (λ p. bared_by (node_at l.known.nodes.now p).kind (facts_of l.known) (node_at l.known.nodes.now p)) (take l.part-index l.parts)
