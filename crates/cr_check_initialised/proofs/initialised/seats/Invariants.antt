use Rattle.std.proofs.Common.{◌≡◌, map, take}
use Rattle.cr_check_initialised.specs.Initialised.{seated}
use Rattle.cr_check_initialised.proofs.initialised.seats.Given as goal

abbrev pub invariant-loop-line : goal.invariant-loop-line
invariant-loop-line l = l.all ≡ map (seated l.table) (take l.line-index l.lines)
