use Rattle.std.proofs.Common.{◌≡◌, ℕ, ◌-◌, ◌<◌, ◌≤◌, true, length}
use Rattle.cr_syntax.specs.Reads.{is_qualifier}
use Rattle.cr_exprs_descent.specs.Source.{text_of}
use Rattle.cr_exprs_descent.proofs.source.qualifiers.Given as goal

abbrev pub invariant-qualifiers : goal.invariant-qualifiers
invariant-qualifiers l = record {
  from : l.at ≤ l.next;
  to : l.next ≤ length l.source.tokens.now;
  all : (k : ℕ) → l.at ≤ k → k < l.next → is_qualifier (text_of l.source) k ≡ true;
}

abbrev pub decreases-qualifiers : goal.decreases-qualifiers
decreases-qualifiers l = length l.source.tokens.now - l.next
