use Rattle.std.proofs.Common.{◌≡◌, ◌+◌, ◌≤◌, length, take, drop}
use Rattle.pass_text.specs.Lines.{lines_of, joined}
use Rattle.pass_text.proofs.lines.skip_lines.Given as goal

abbrev pub invariant-loop-left : goal.invariant-loop-left
invariant-loop-left l = record {
  within : l.at ≤ length l.file;
  whole : length (joined (take l.n (lines_of l.file))) ≡ l.at + length (joined (take l.left (lines_of (drop l.at l.file))));
}

abbrev pub decreases-loop-left : goal.decreases-loop-left
decreases-loop-left l = l.left
