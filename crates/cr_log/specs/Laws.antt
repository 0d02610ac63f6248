-- Laws of the form of a log.
use Rattle.std.specs.Prelude.{◌≡◌, ℕ, List, All}
use Rattle.cr_reduce.specs.declared.end.Accepted.{Accepted}
use Rattle.cr_reduce.specs.declared.end.End.{End}
use Rattle.cr_log.specs.Texts.{log_text_of, why_number}
use Rattle.cr_log.specs.Forms.{IsEnding, IsFirstBadLine, IsLog, IsLoggable}

-- a text is the text of one log at most
abbrev pub OneLog : Type 0
OneLog = (text : List ℕ) (xs ys : List Accepted) (v w s t u x : ℕ) → IsLog text xs v s u → IsLog text ys w t x → (xs ≡ ys) × (v ≡ w) × (s ≡ t) × (u ≡ x)

-- one line at most is the first that isn't in the form
abbrev pub OneBadLine : Type 0
OneBadLine = (text : List ℕ) (m n : ℕ) → IsFirstBadLine text m → IsFirstBadLine text n → m ≡ n

-- and a log has none
abbrev pub LogOrBadLine : Type 0
LogOrBadLine = (text : List ℕ) (accepted : List Accepted) (why size turns n : ℕ) → IsLog text accepted why size turns → IsFirstBadLine text n → ⊥

-- the log text of an end is the text of the log that says this end
abbrev pub ReadsBack : Type 0
ReadsBack = (end : End) (size : ℕ) → All IsLoggable end.accepted.items → IsEnding (why_number end.why) size end.turns
    → IsLog (log_text_of end size) end.accepted.items (why_number end.why) size end.turns
