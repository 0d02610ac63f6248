-- The meaning of a typed unit, and what a reader expects of it.
use Rattle.std.specs.Prelude.{◌≡◌}
use Rattle.cr_meaning.specs.Meaning.{Means}
use Rattle.cr_meaning.specs.declared.run.Limits.{Limits}
use Rattle.cr_meaning.specs.declared.run.Run.{Run}
use Rattle.cr_meaning_operations.specs.Operations.{program_of}
use Rattle.cr_typed.specs.declared.typed.Typed.{Typed}

-- a unit comes to what its program comes to
abbrev pub Comes : Typed → Limits → Run → Type 0
Comes t limits outcome = Means (program_of t limits) outcome

-- within the same limits a unit comes to one end at most
abbrev pub OneOutcome : Type 0
OneOutcome = (t : Typed) (limits : Limits) (one other : Run) → Comes t limits one → Comes t limits other → one ≡ other
