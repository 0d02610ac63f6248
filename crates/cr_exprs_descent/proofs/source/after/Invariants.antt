use Rattle.std.proofs.Common.{◌≡◌, ℕ, ◌-◌, ◌<◌, ◌≤◌, true, length}
use Rattle.cr_syntax.specs.Reads.{is_word}
use Rattle.cr_exprs_descent.specs.Source.{text_of}
use Rattle.cr_exprs_descent.proofs.source.after.Given as goal

abbrev pub invariant-loop-word : goal.invariant-loop-word
invariant-loop-word l = record {
  from : l.at ≤ l.next;
  to : l.next ≤ length l.source.tokens.now;
  all : (k : ℕ) → l.at ≤ k → k < l.next → is_word (text_of l.source) k l.word ≡ true;
}

abbrev pub decreases-loop-word : goal.decreases-loop-word
decreases-loop-word l = length l.source.tokens.now - l.next
