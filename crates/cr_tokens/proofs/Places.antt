-- Where the bytes of a class end.
use Rattle.std.proofs.Common.{◌≡◌, inl, inr, ℕ, ◌+◌, ◌≤◌, ◌<◌, List, length, arith}
use Rattle.std.specs.Prelude.{slice_index}
use Rattle.std.proofs.lemmas.Bool.{cases_lt, cases_eq, cases_order}
use Rattle.std.proofs.lemmas.List.{get_or_past}
use Rattle.cr_tokens.specs.Bytes.{Each, IsIndent, IsOctalDigit, IsHexDigit, IsDigit, IsWordByte}

-- a byte past the end is 0
pub past : (file : List ℕ) (at : ℕ) → length file ≤ at → slice_index file at ≡ 0
past file at h = get_or_past file at 0 h

-- what the byte 0 is not, the byte at the end of a run is not
pub not_past : (P : ℕ → Type 0) (file : List ℕ) (at : ℕ) → ¬ P 0 → (at < length file → ¬ P (slice_index file at)) →
    ¬ P (slice_index file at)
not_past P file at none here p =
    elim (cases_lt at (length file)) [ inl lt ↦ here lt p | inr ge ↦ none (rw (past file at ge) at p) ]

-- one more byte
pub each_more : (P : ℕ → Type 0) (from at : ℕ) → ((k : ℕ) → from ≤ k → k < at → P k) → P at →
    (k : ℕ) → from ≤ k → k < at + 1 → P k
each_more P from at below here k a b =
    elim (cases_eq k at) [ inl e ↦ (rw e here) | inr ne ↦ below k a (omega arith) ]

-- a run of bytes of a class ends at one place
pub each_end : (P : ℕ → Type 0) (file : List ℕ) (from a b : ℕ) → Each P file from a → Each P file from b →
    from ≤ a → from ≤ b → ¬ P (slice_index file a) → ¬ P (slice_index file b) → a ≡ b
each_end P file from a b ea eb fa fb na nb =
    elim (cases_order a b) [ inl e ↦ e | inr o ↦ elim o [ inl lt ↦ absurd (na (eb a fa lt)) | inr gt ↦ absurd (nb (ea b fb gt)) ] ]

pub no_indent : ¬ IsIndent 0
no_indent h = grind arith

pub no_octal_digit : ¬ IsOctalDigit 0
no_octal_digit h = grind arith

pub no_digit : ¬ IsDigit 0
no_digit h = grind arith

pub no_hex_digit : ¬ IsHexDigit 0
no_hex_digit h = grind arith

pub no_word_byte : ¬ IsWordByte 0
no_word_byte h = grind arith
