-- What is said of a log whose rows lead to a file.
use Rattle.std.proofs.Common.{◌≡◌, ℕ, ◌+◌, List, length, refl}
use Rattle.cr_replay.specs.Chains.{Chain, Follows}
use Rattle.cr_replay.specs.Checks.{IsEnd, Says}
use Rattle.cr_replay.specs.Checks.FailsAt.{the_end}
use Rattle.cr_log.specs.declared.reader.Log.{Log}
use Rattle.cr_replay.specs.declared.verdict.Verdict.{Verdict}
use Rattle.cr_replay.specs.declared.verdict.Verdict.TheVariants as verdict

pub says_end : (c : Chain) (from : List ℕ) (log : Log) (wanted last : List ℕ) (turns : ℕ) (said : Verdict) → Follows c from 0 log.accepted.items last turns
    → (said ≡ verdict.Yes → IsEnd log wanted last turns)
    → ((k : ℕ) → said ≡ verdict.Breaks k → (k ≡ length log.accepted.items + 1) × (IsEnd log wanted last turns → ⊥)) → Says c from log wanted said
says_end c from log wanted last turns verdict.Yes follows ends breaks = record { last = last; turns = turns; follows = follows; ends = ends refl }
says_end c from log wanted last turns (verdict.Breaks k) follows ends breaks = let it = breaks k refl in the_end last turns follows it.1 it.0
says_end c from log wanted last turns verdict.NoMemory follows ends breaks = tt
