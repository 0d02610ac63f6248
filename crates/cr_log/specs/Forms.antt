-- The form of a log, and the first line that isn't in it.
use Rattle.std.specs.Prelude.{◌≡◌, ◌≢◌, ℕ, ◌+◌, ◌^◌, ◌<◌, ◌≤◌, ◌⊎◌, List, [], ◌∷◌, ◌++◌, length, map, All}
use Rattle.std.specs.List.{flat_map}
use Rattle.cr_reduce.specs.declared.end.Accepted.{Accepted}
use Rattle.cr_log.specs.Texts.{accepted_line, last_line, line_text}
use Rattle.cr_cursor.specs.Variants.{pass_count}

-- a log can hold this acceptance: its pass has a letter, and its numbers are in their ranges
pub record IsLoggable (one : Accepted) : Type 0 where
  pub pass : one.at.pass < pass_count
  pub level : one.at.level < 2 ^ 8
  pub index : one.at.index < 2 ^ 64
  pub size : one.size < 2 ^ 64
  pub turn : one.turn < 2 ^ 64

-- and this end
pub record IsEnding (why size turns : ℕ) : Type 0 where
  pub known : why ≤ 2
  pub size_fits : size < 2 ^ 64
  pub turns_fit : turns < 2 ^ 64

-- the line, without its LF, is that of an acceptance
pub record IsAcceptedLine (line : List ℕ) (one : Accepted) : Type 0 where
  pub loggable : IsLoggable one
  pub is : line ≡ accepted_line one

-- the line, without its LF, is the last line of a log
pub record IsLastLine (line : List ℕ) (why size turns : ℕ) : Type 0 where
  pub ending : IsEnding why size turns
  pub is : line ≡ last_line why size turns

-- the line, without its LF, is in the form
abbrev pub IsInForm : List ℕ → Type 0
IsInForm line = ((one : Accepted) × IsAcceptedLine line one) ⊎ ((why : ℕ) × (size : ℕ) × (turns : ℕ) × IsLastLine line why size turns)

-- the text begins with a line, ended by LF, in the form
abbrev pub StartsInForm : List ℕ → Type 0
StartsInForm text = (line : List ℕ) × (after : List ℕ) × IsInForm line × (text ≡ line ++ 10 ∷ after)

-- the text is the lines of these acceptances, and then the rest
pub record BeginsWith (text : List ℕ) (accepted : List Accepted) (rest : List ℕ) : Type 0 where
  pub loggable : All IsLoggable accepted
  pub split : text ≡ flat_map line_text (map accepted_line accepted) ++ rest

-- the text is in the form: the lines of these acceptances, then this last line, then the end of the text
pub record IsLog (text : List ℕ) (accepted : List Accepted) (why size turns : ℕ) : Type 0 where
  pub begins : BeginsWith text accepted (line_text (last_line why size turns))
  pub ending : IsEnding why size turns

-- line n of the text, counted from 1, is the first that isn't in the form
pub data IsFirstBadLine (text : List ℕ) (n : ℕ) : Type 0 where
  -- after the lines of acceptances no line in the form stands, be it that the text ends
  out_of_form : (before : List Accepted) (rest : List ℕ) → BeginsWith text before rest → (StartsInForm rest → ⊥) → n ≡ length before + 1 → IsFirstBadLine text n
  -- the text goes on after its last line
  past_the_end : (before : List Accepted) (why size turns : ℕ) (rest : List ℕ) → BeginsWith text before (line_text (last_line why size turns) ++ rest) → IsEnding why size turns → rest ≢ [] → n ≡ length before + 2 → IsFirstBadLine text n
