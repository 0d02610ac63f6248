use Rattle.std.proofs.Common.{◌≡◌, map, take}
use Rattle.cr_check_declarations.specs.Named.{member_of}
use Rattle.cr_check_declarations.proofs.lists.declared_members.Given as goal

abbrev pub invariant-loop-declarator : goal.invariant-loop-declarator
invariant-loop-declarator l =
    l.members ≡ map (member_of l.tree.nodes.now l.tree.names.now l.columns.named.now) (take l.declarator-index l.declarators)
