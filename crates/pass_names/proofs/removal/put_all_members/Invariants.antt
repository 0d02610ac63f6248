use Rattle.std.proofs.Common.{◌≡◌, ◌++◌, take}
use Rattle.std.specs.List.{flat_map}
use Rattle.pass_levels.specs.Nodes.{node_at}
use Rattle.pass_names.specs.Unused.{members_give}
use Rattle.pass_names.proofs.removal.put_all_members.Given as goal

abbrev pub invariant-loop-declaration : goal.invariant-loop-declaration
invariant-loop-declaration l = l.all.items ≡ l.fn.all.items ++ flat_map (λ p. members_give l.file l.tokens l.nodes l.uses l.content (node_at l.nodes p)) (take l.declaration-index l.declarations)
