use Rattle.std.proofs.Common.{ℕ, ◌<◌}
use Rattle.cr_tokens.specs.Numbers.{IsNumberPart}
use Rattle.cr_tokens.proofs.number.number_end.Given as goal

abbrev pub invariant-loop-at : goal.invariant-loop-at
invariant-loop-at l = (k : ℕ) → l.from < k → k < l.at → IsNumberPart l.file k
