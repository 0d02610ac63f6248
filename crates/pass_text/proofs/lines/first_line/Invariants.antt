use Rattle.std.proofs.Common.{◌≡◌, ◌+◌, ◌-◌, ◌≤◌, length, drop}
use Rattle.pass_text.specs.Lines.{first_len}
use Rattle.pass_text.proofs.lines.first_line.Given as goal

-- no line has ended yet
abbrev pub invariant-loop-len : goal.invariant-loop-len
invariant-loop-len l = record { within : l.len ≤ length l.file; whole : first_len l.file ≡ l.len + first_len (drop l.len l.file) }

abbrev pub decreases-loop-len : goal.decreases-loop-len
decreases-loop-len l = length l.file - l.len
