-- What may stand between tokens: white space (C11 6.4p3), comments (6.4.9), and skipped lines, which are
-- pragmas (6.10.6) and line markers.
use Rattle.std.specs.Prelude.{◌≡◌, ◌≢◌, ℕ, ◌+◌, ◌≤◌, ◌<◌, ◌⊎◌, List, codes, length, slice_index, slice_range}
use Rattle.cr_tokens.specs.Bytes.{IsDigit, IsIndent, IsSpace, IsWordByte, Each}

-- a line would be spliced at `at`: a backslash, or the trigraph for it, directly before LF
abbrev pub IsSplice : List ℕ → ℕ → Type 0
IsSplice file at =
    ((slice_index file at ≡ 92) × (slice_index file (at + 1) ≡ 10))
    ⊎ ((slice_index file at ≡ 63) × (slice_index file (at + 1) ≡ 63) × (slice_index file (at + 2) ≡ 47)
    × (slice_index file (at + 3) ≡ 10))

-- `to` is where the line on which `from` stands ends: its LF, or the end of the file
pub record EndsLine (file : List ℕ) (from to : ℕ) : Type 0 where
  pub after : from ≤ to
  pub inside : to ≤ length file
  pub each : Each (λ b. b ≢ 10) file from to
  pub end : (to ≡ length file) ⊎ (slice_index file to ≡ 10)

-- /* at `at`
abbrev pub OpensBlock : List ℕ → ℕ → Type 0
OpensBlock file at = (slice_index file at ≡ 47) × (slice_index file (at + 1) ≡ 42)

-- // at `at`
abbrev pub OpensLine : List ℕ → ℕ → Type 0
OpensLine file at = (slice_index file at ≡ 47) × (slice_index file (at + 1) ≡ 47)

-- a comment begins at `at`
abbrev pub OpensComment : List ℕ → ℕ → Type 0
OpensComment file at = OpensBlock file at ⊎ OpensLine file at

-- */ at `at`
abbrev pub ClosesBlock : List ℕ → ℕ → Type 0
ClosesBlock file at = (slice_index file at ≡ 42) × (slice_index file (at + 1) ≡ 47)

-- the bytes from `from` to before `to` are /*, and what follows up to the first */ after it
pub record IsBlockComment (file : List ℕ) (from to : ℕ) : Type 0 where
  pub opens : OpensBlock file from
  pub close : ℕ
  pub after : from + 2 ≤ close
  pub first : (k : ℕ) → from + 2 ≤ k → k < close → ¬ ClosesBlock file k
  pub closed : ClosesBlock file close
  pub end : to ≡ close + 2

-- the bytes from `from` to before `to` are //, and what follows up to the end of the line
pub record IsLineComment (file : List ℕ) (from to : ℕ) : Type 0 where
  pub opens : OpensLine file from
  pub line : EndsLine file from to

-- the bytes from `from` to before `to` are a comment
abbrev pub IsComment : List ℕ → ℕ → ℕ → Type 0
IsComment file from to = IsBlockComment file from to ⊎ IsLineComment file from to

-- only spaces and tabs stand before `at` on its line
pub record StandsFirst (file : List ℕ) (at : ℕ) : Type 0 where
  pub line : ℕ
  pub before : line ≤ at
  pub begins : (line ≡ 0) ⊎ ((last : ℕ) × (line ≡ last + 1) × (slice_index file last ≡ 10))
  pub indents : Each IsIndent file line at

-- the word `pragma` stands at `at`
pub record IsPragma (file : List ℕ) (at : ℕ) : Type 0 where
  pub letters : slice_range file at (at + 6) ≡ codes "pragma"
  pub whole : ¬ IsWordByte (slice_index file (at + 6))

-- a skipped line begins at `at`: its first byte other than space and tab is #, and after spaces and tabs a
-- digit or the word `pragma` follows
pub record BeginsSkipped (file : List ℕ) (at : ℕ) : Type 0 where
  pub hash : slice_index file at ≡ 35
  pub first : StandsFirst file at
  pub next : ℕ
  pub after : at < next
  pub indents : Each IsIndent file (at + 1) next
  pub follows : IsDigit (slice_index file next) ⊎ IsPragma file next

-- the bytes from `from` to before `to` are a byte of white space, a comment in which no line is spliced, or a
-- skipped line
pub data IsBlank (file : List ℕ) (from to : ℕ) : Type 0 where
  space : IsSpace (slice_index file from) → to ≡ from + 1 → IsBlank file from to
  comment : IsComment file from to → ((k : ℕ) → from ≤ k → k < to → ¬ IsSplice file k) → IsBlank file from to
  skipped : BeginsSkipped file from → EndsLine file from to → IsBlank file from to
