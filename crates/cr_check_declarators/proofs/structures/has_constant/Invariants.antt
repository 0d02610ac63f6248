use Rattle.std.proofs.Common.{◌≡◌, false, slice_index_or, take, map}
use Rattle.cr_check_types.specs.Types.{type_at}
use Rattle.cr_check_declarators.specs.Structures.{has_constant}
use Rattle.cr_check_declarators.proofs.structures.has_constant.Given as goal

abbrev pub invariant-loop-row : goal.invariant-loop-row
invariant-loop-row l = l.so ≡ has_constant (λ n. slice_index_or l.fixed n false) (map (type_at l.table) (take l.row-index l.members))
