use Rattle.std.proofs.Common.{◌≡◌, ◌++◌, drop}
use Rattle.cr_check_initialisers.specs.Plans.{puts_of}
use Rattle.cr_check_initialisers.proofs.lines.puts.Given as goal

abbrev pub invariant-loop-line : goal.invariant-loop-line
invariant-loop-line l = l.puts ++ puts_of (drop l.line-index l.lines) ≡ puts_of l.lines
