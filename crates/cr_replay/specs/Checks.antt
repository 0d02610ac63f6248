-- Logs that lead from a file to a result.
use Rattle.std.specs.Prelude.{◌≡◌, ℕ, ◌+◌, ◌≤◌, List, length}
use Rattle.cr_log.specs.declared.reader.Log.{Log}
use Rattle.cr_reduce.specs.Sizes.{HasSize}
use Rattle.cr_replay.specs.Chains.{BreaksAt, Chain, Follows}
use Rattle.cr_replay.specs.declared.verdict.Verdict.{Verdict}
use Rattle.cr_replay.specs.declared.verdict.Verdict.TheVariants as verdict

-- The last line is right: its size is the last file's, it has no fewer turns than the last row, and the last file is the
-- result.
pub record IsEnd (log : Log) (wanted last : List ℕ) (turns : ℕ) : Type 0 where
  pub size : HasSize last log.size
  pub enough : turns ≤ log.turns
  pub is : last ≡ wanted

-- The log leads from the file to the result.
pub record Leads (c : Chain) (from : List ℕ) (log : Log) (wanted : List ℕ) : Type 0 where
  pub last : List ℕ
  pub turns : ℕ
  pub follows : Follows c from 0 log.accepted.items last turns
  pub ends : IsEnd log wanted last turns

-- Line k, from 1, is the first that fails.
pub data FailsAt (c : Chain) (from : List ℕ) (log : Log) (wanted : List ℕ) (k : ℕ) : Type 0 where
  a_row : BreaksAt c from 0 log.accepted.items k → FailsAt c from log wanted k
  the_end : (last : List ℕ) (turns : ℕ) → Follows c from 0 log.accepted.items last turns → (IsEnd log wanted last turns → ⊥)
      → k ≡ length log.accepted.items + 1 → FailsAt c from log wanted k

-- The verdict is right.
abbrev pub Says : Chain → List ℕ → Log → List ℕ → Verdict → Type 0
Says c from log wanted verdict.Yes = Leads c from log wanted
Says c from log wanted (verdict.Breaks k) = FailsAt c from log wanted k
Says c from log wanted verdict.NoMemory = Unit {0}
