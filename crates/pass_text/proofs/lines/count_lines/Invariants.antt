use Rattle.std.proofs.Common.{◌≡◌, ◌+◌, ◌-◌, ◌≤◌, length, drop}
use Rattle.pass_text.specs.Lines.{lines_of}
use Rattle.pass_text.proofs.lines.count_lines.Given as goal

abbrev pub invariant-loop-at : goal.invariant-loop-at
invariant-loop-at l = record { within : l.at ≤ length l.file; fewer : l.count ≤ l.at; whole : length (lines_of l.file) ≡ l.count + length (lines_of (drop l.at l.file)) }

abbrev pub decreases-loop-at : goal.decreases-loop-at
decreases-loop-at l = length l.file - l.at
