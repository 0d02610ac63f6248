use Rattle.std.proofs.Common.{◌≡◌, take}
use Rattle.cr_check_declarations.specs.Before.{rows_of}
use Rattle.cr_check_declarations.proofs.contents.rows_of.Given as goal

abbrev pub invariant-loop-member : goal.invariant-loop-member
invariant-loop-member l = l.rows.items ≡ rows_of (take l.member-index l.members)
