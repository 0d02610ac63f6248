use Rattle.std.proofs.Common.{◌≡◌, drop}
use Rattle.cr_check_expressions.specs.Known.{row_of_name}
use Rattle.cr_check_expressions.proofs.known.row_of_name.Given as goal

abbrev pub invariant-loop-member : goal.invariant-loop-member
invariant-loop-member l = row_of_name l.name (drop l.member-index l.members) ≡ row_of_name l.name l.members
