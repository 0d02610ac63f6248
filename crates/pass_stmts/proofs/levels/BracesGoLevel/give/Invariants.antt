use Rattle.std.proofs.Common.{◌≡◌, ◌++◌, take}
use Rattle.std.specs.List.{flat_map}
use Rattle.pass_levels.specs.Nodes.{node_at}
use Rattle.pass_stmts.specs.Statements.{unwrapped_by}
use Rattle.pass_stmts.proofs.levels.BracesGoLevel.give.Given as goal

abbrev pub invariant-loop-item : goal.invariant-loop-item
invariant-loop-item l =
    l.all.items ≡ l.fn.all.items ++ flat_map (λ p. unwrapped_by (node_at l.self.nodes.now p).kind l.self.tokens.now (node_at l.self.nodes.now p)) (take l.item-index l.item-items)
