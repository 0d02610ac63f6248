use Rattle.std.proofs.Common.{◌≡◌, [], take, slice_index_or}
use Rattle.std.specs.List.{flat_map}
use Rattle.cr_check_declarations.proofs.lists.all_members.Given as goal

abbrev pub invariant-loop-declaration : goal.invariant-loop-declaration
invariant-loop-declaration l = l.all ≡ flat_map (λ p. slice_index_or l.columns.members.now p []) (take l.declaration-index l.declarations)
