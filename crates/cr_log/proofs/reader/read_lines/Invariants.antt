use Rattle.std.proofs.Common.{◌≡◌, ℕ, ◌+◌, ◌≤◌, List, length}
use Rattle.cr_reduce.specs.declared.end.Accepted.{Accepted}
use Rattle.cr_log.specs.Forms.{BeginsWith}
use Rattle.cr_log.proofs.reader.read_lines.Given as goal

-- The lines that were read are those of the acceptances, and each took a byte at least.
pub record HasRead (text : List ℕ) (accepted : List Accepted) (rest : List ℕ) (number : ℕ) : Type 0 where
  pub begins : BeginsWith text accepted rest
  pub counted : number ≡ length accepted + 1
  pub room : length accepted + length rest ≤ length text

abbrev pub invariant-loop-line : goal.invariant-loop-line
invariant-loop-line l = HasRead l.text l.accepted.items l.rest l.number

abbrev pub decreases-loop-line : goal.decreases-loop-line
decreases-loop-line l = length l.rest
