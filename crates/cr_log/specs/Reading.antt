-- What the parts of the reader find at the front of a text.
use Rattle.std.specs.Prelude.{◌≡◌, ◌≢◌, ℕ, ◌^◌, ◌<◌, ◌≤◌, List, ◌∷◌, ◌++◌, All, codes, decimal}
use Rattle.cr_log.specs.declared.line.Line.{Line}
use Rattle.cr_log.specs.declared.line.Line.TheVariants.{Accepted as AcceptedLine, Last as LastLine}
use Rattle.cr_log.specs.Texts.{letter_of, why_word}
use Rattle.cr_log.specs.Forms.{IsAcceptedLine, IsLastLine}
use Rattle.cr_cursor.specs.Variants.{pass_count}

-- what stands before the first such byte, and after it
pub record IsCut (byte : ℕ) (text before after : List ℕ) : Type 0 where
  pub free : All (λ b. b ≢ byte) before
  pub is : text ≡ before ++ byte ∷ after

-- the field spells no number
abbrev pub SpellsNone : List ℕ → Type 0
SpellsNone field = (n : ℕ) → n < 2 ^ 64 → field ≡ decimal n → ⊥

-- a number and a space stand first, and then the rest
pub record StartsWithNumber (text : List ℕ) (n : ℕ) (rest : List ℕ) : Type 0 where
  pub fits : n < 2 ^ 64
  pub is : text ≡ decimal n ++ 32 ∷ rest

-- the text is two numbers with a space between them
pub record IsPair (text : List ℕ) (first second : ℕ) : Type 0 where
  pub first_fits : first < 2 ^ 64
  pub second_fits : second < 2 ^ 64
  pub is : text ≡ decimal first ++ 32 ∷ decimal second

-- the letter is this pass's
pub record IsLetter (letter pass : ℕ) : Type 0 where
  pub known : pass < pass_count
  pub is : letter ≡ letter_of pass

-- the letter of a pass and a space stand first, and then the rest
pub record StartsWithPass (line : List ℕ) (pass : ℕ) (rest : List ℕ) : Type 0 where
  pub known : pass < pass_count
  pub is : line ≡ letter_of pass ∷ 32 ∷ rest

-- `end`, the word for why and the spaces after them stand first, and then the rest
pub record StartsWithWhy (line : List ℕ) (why : ℕ) (rest : List ℕ) : Type 0 where
  pub known : why ≤ 2
  pub is : line ≡ codes "end" ++ 32 ∷ (why_word why ++ 32 ∷ rest)

-- the line, without its LF, says this
abbrev pub Says : List ℕ → Line → Type 0
Says line (AcceptedLine one) = IsAcceptedLine line one
Says line (LastLine last) = IsLastLine line last.why last.size last.turns

-- a line in the form and its LF stand first, and then the rest
pub record StartsWithLine (text : List ℕ) (line : Line) (rest : List ℕ) : Type 0 where
  pub front : List ℕ
  pub says : Says front line
  pub is : text ≡ front ++ 10 ∷ rest
