use Rattle.std.proofs.Common.{◌≡◌, ◌++◌, take}
use Rattle.std.specs.List.{flat_map}
use Rattle.pass_levels.specs.Nodes.{node_at}
use Rattle.pass_names.specs.Unused.{declaration_by}
use Rattle.pass_names.proofs.removal.put_declarations.Given as goal

abbrev pub invariant-loop-part : goal.invariant-loop-part
invariant-loop-part l = l.all.items ≡ l.fn.all.items ++ flat_map (λ p. declaration_by (node_at l.nodes p).kind l.tokens l.reach.names.now l.mains (node_at l.nodes p)) (take l.part-index l.parts)
