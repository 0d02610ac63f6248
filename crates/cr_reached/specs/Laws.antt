-- Laws of files whose run reaches a label.
use Rattle.std.specs.Prelude.{◌≡◌, ℕ, Bool, List}
use Rattle.cr_cursor.specs.declared.law.Reason.{Reason}
use Rattle.cr_meaning.specs.declared.run.Limits.{Limits}
use Rattle.cr_lawful.specs.Lawful.{IsLawful}
use Rattle.cr_reached.specs.Reached.{IsLawfulReached, IsReachReason}

-- such a file is lawful
abbrev pub ReachedFilesAreLawful : Type 0
ReachedFilesAreLawful = (any_order : Bool) (limits : Limits) (name file : List ℕ) → IsLawfulReached any_order limits name file → IsLawful limits file

-- and has no reason against it within the same limits
abbrev pub HasNoReachReason : Type 0
HasNoReachReason = (any_order : Bool) (limits : Limits) (name file : List ℕ) (reason : Reason) → IsReachReason any_order limits name file reason
    → IsLawfulReached any_order limits name file → ⊥

-- within limits a file has one reason against it at most
abbrev pub HasOneReachReason : Type 0
HasOneReachReason = (any_order : Bool) (limits : Limits) (name file : List ℕ) (reason other : Reason) → IsReachReason any_order limits name file reason
    → IsReachReason any_order limits name file other → reason ≡ other
