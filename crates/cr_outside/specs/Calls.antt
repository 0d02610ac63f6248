-- What a call on the files adds to the story, where it is told. A call that found no memory may be missing.
use Rattle.std.specs.Prelude.{◌≡◌, ◌⊎◌, ℕ, Bool, true, List, Option, Result, Ok, Err}
use Rattle.cr_outside.specs.Files.{Names, put_told}
use Rattle.cr_outside.specs.Story.{Story, with_event}
use Rattle.cr_outside.specs.Story.Event.{Read, Wrote}
use Rattle.cr_outside.specs.declared.files.FileFault.{FileFault}
use Rattle.cr_outside.specs.declared.files.FileFault.TheVariants as fault
use Rattle.cr_outside.specs.declared.files.ReadAnswer.{ReadAnswer}
use Rattle.cr_outside.specs.declared.files.ReadAnswer.TheVariants as answer
use Rattle.cr_outside.specs.declared.story.Outcome.{Outcome}
use Rattle.cr_outside.specs.declared.story.Outcome.TheVariants.{Done, Absent, Failed, NoMemory}

-- how a read ended
abbrev pub read_outcome : ReadAnswer → Outcome
read_outcome (answer.Bytes bytes) = Done
read_outcome answer.Absent = Absent
read_outcome answer.Failed = Failed
read_outcome answer.NoMemory = NoMemory

abbrev pub TellsRead : Option Story → Option Story → List ℕ → ℕ → ReadAnswer → Type 0
TellsRead old new name most answer.NoMemory = (new ≡ old) ⊎ (new ≡ with_event (Read name most NoMemory) old)
TellsRead old new name most answer = new ≡ with_event (Read name most (read_outcome answer)) old

-- The pair is put, and after a refusal it may be put.
abbrev pub TellsWrite : Option Story → Option Story → List ℕ → List ℕ → Result (Unit {0}) FileFault → Type 0
TellsWrite old new name bytes (Ok _) = new ≡ with_event (Wrote name bytes Done true) old
TellsWrite old new name bytes (Err fault.Failed) = (is_put : Bool) × (new ≡ with_event (Wrote name bytes Failed is_put) old)
TellsWrite old new name bytes (Err fault.NoMemory) = (new ≡ old) ⊎ ((is_put : Bool) × (new ≡ with_event (Wrote name bytes NoMemory is_put) old))

-- What a write leaves of the map.
abbrev pub Writes : Option Names → Option Names → List ℕ → List ℕ → Result (Unit {0}) FileFault → Type 0
Writes old new name bytes (Ok _) = new ≡ put_told name bytes old
Writes old new name bytes (Err _) = (new ≡ old) ⊎ (new ≡ put_told name bytes old)
