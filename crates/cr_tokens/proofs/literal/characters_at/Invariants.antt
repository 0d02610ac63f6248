use Rattle.std.proofs.Common.{◌-◌, ◌≤◌, length}
use Rattle.cr_tokens.specs.Literals.{Chars}
use Rattle.cr_tokens.proofs.literal.characters_at.Given as goal

abbrev pub invariant-loop-end : goal.invariant-loop-end
invariant-loop-end l = record {
  inside : l.end ≤ length l.file;
  after : l.from ≤ l.end;
  few : l.count ≤ l.end;
  characters : Chars l.file l.quote l.from l.end l.count;
}

abbrev pub decreases-loop-end : goal.decreases-loop-end
decreases-loop-end l = length l.file - l.end
