use Rattle.std.proofs.Common.{◌≡◌, ◌++◌, take}
use Rattle.cr_check_declarations.proofs.lists.append.Given as goal

abbrev pub invariant-loop-member : goal.invariant-loop-member
invariant-loop-member l = l.all ≡ l.initial.all ++ take l.member-index l.members
