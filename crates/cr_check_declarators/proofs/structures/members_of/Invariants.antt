use Rattle.std.proofs.Common.{◌≡◌, take, map}
use Rattle.cr_check_types.specs.Types.{type_at}
use Rattle.cr_check_declarators.specs.Structures.{members_of}
use Rattle.cr_check_declarators.proofs.structures.members_of.Given as goal

abbrev pub invariant-loop-row : goal.invariant-loop-row
invariant-loop-row l = l.before ≡ members_of l.layouts (map (type_at l.table) (take l.row-index l.members))
