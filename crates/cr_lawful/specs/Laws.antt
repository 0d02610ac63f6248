-- Laws of lawful files, and of the reasons against the others.
use Rattle.std.specs.Prelude.{◌≡◌, ℕ, List}
use Rattle.cr_cursor.specs.declared.law.Reason.{Reason}
use Rattle.cr_meaning.specs.declared.run.Limits.{Limits}
use Rattle.cr_lawful.specs.Lawful.{IsLawful, IsReason}

-- within the same limits a lawful file has no reason against it
abbrev pub HasNoReason : Type 0
HasNoReason = (limits : Limits) (file : List ℕ) (reason : Reason) → IsReason limits file reason → IsLawful limits file → ⊥

-- within limits a file has one reason against it at most
abbrev pub HasOneReason : Type 0
HasOneReason = (limits : Limits) (file : List ℕ) (reason other : Reason) → IsReason limits file reason → IsReason limits file other → reason ≡ other
