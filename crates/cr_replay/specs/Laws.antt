-- What always holds of logs.
use Rattle.std.specs.Prelude.{◌≡◌, ℕ, List}
use Rattle.cr_log.specs.declared.reader.Log.{Log}
use Rattle.cr_replay.specs.Chains.{Chain}
use Rattle.cr_replay.specs.Checks.{FailsAt, Leads}

-- No log both leads to the result and fails at a line.
abbrev pub LeadsOrFails : Chain → Type 0
LeadsOrFails c = (from wanted : List ℕ) (log : Log) (k : ℕ) → Leads c from log wanted → FailsAt c from log wanted k → ⊥

-- One line at most is the first that fails.
abbrev pub FailsOnce : Chain → Type 0
FailsOnce c = (from wanted : List ℕ) (log : Log) (k m : ℕ) → FailsAt c from log wanted k → FailsAt c from log wanted m → k ≡ m
