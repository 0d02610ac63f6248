-- What calls answer, as one relation each.
use Rattle.std.proofs.Common.{◌≡◌, ℕ, List, Result, Ok, Err, refl}
use Rattle.std.specs.Prelude.{IfOk}
use Rattle.cr_log.specs.Forms.{IsFirstBadLine, IsLog}
use Rattle.cr_log.specs.Readers.{Reads}
use Rattle.cr_log.specs.declared.reader.Log.{Log}
use Rattle.cr_log.specs.declared.reader.LogFault.{LogFault}
use Rattle.cr_log.specs.declared.reader.LogFault.TheVariants.{NoMemory, Line}
use Rattle.cr_replay.specs.Chains.{Chain}
use Rattle.cr_replay.specs.Checks.{FailsAt, Leads, Says}
use Rattle.cr_replay.specs.declared.verdict.Verdict.{Verdict}
use Rattle.cr_replay.specs.declared.verdict.Verdict.TheVariants as verdict

pub reads_so : (text : List ℕ) (answer : Result Log LogFault) → IfOk answer (λ log. IsLog text log.accepted.items log.why log.size log.turns)
    → ((n : ℕ) → answer ≡ Err (Line n) → IsFirstBadLine text n) → Reads text answer
reads_so text (Ok log) is bad = is
reads_so text (Err NoMemory) is bad = tt
reads_so text (Err (Line n)) is bad = bad n refl

pub says_so : (c : Chain) (from : List ℕ) (log : Log) (wanted : List ℕ) (said : Verdict) → (said ≡ verdict.Yes → Leads c from log wanted)
    → ((k : ℕ) → said ≡ verdict.Breaks k → FailsAt c from log wanted k) → Says c from log wanted said
says_so c from log wanted verdict.Yes leads fails = leads refl
says_so c from log wanted (verdict.Breaks k) leads fails = fails k refl
says_so c from log wanted verdict.NoMemory leads fails = tt
