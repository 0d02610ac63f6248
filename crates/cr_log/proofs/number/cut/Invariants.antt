use Rattle.std.proofs.Common.{◌≡◌, ℕ, ◌<◌, get_or}
use Rattle.cr_log.proofs.number.cut.Given as goal

-- The byte isn't among those that were passed.
abbrev pub invariant-loop-i : goal.invariant-loop-i
invariant-loop-i l = (k : ℕ) → k < l.i → get_or l.text k 0 ≡ l.byte → ⊥
