-- A token's first byte tells its kind, so where no kind can begin there is no token.
use Rattle.std.proofs.Common.{◌≡◌, ◌⊎◌, inl, inr, ℕ, ◌+◌, ◌≤◌, ◌<◌, List, length, true, arith, refl, ap, add-zero}
use Rattle.std.specs.Prelude.{slice_index, slice_range, ◌==◌, nat_le, not, Bool, ◌&&◌, ◌||◌}
use Rattle.std.specs.List.{list_all}
use Rattle.cr_tokens.specs.declared.token.Token.{Token}
use Rattle.cr_tokens.specs.declared.token.TokenKind.{TokenKind}
use Rattle.cr_tokens.specs.declared.token.TokenKind.TheVariants.{Keyword, Identifier, Integer, Character, Text, Punctuator}
use Rattle.cr_tokens.specs.Bytes.{IsNondigit, IsSpace, IsDigit, IsIndent, IsWordByte}
use Rattle.cr_tokens.specs.Numbers.{BeginsNumber}
use Rattle.cr_tokens.specs.Punctuators.{IsPunctuator, punctuators}
use Rattle.cr_tokens.specs.Blanks.{IsBlank, BeginsSkipped, IsPragma, OpensComment}
use Rattle.cr_tokens.specs.Blanks.IsBlank.{space, comment, skipped}
use Rattle.cr_tokens.specs.Tokens.{Spells, IsToken}
use Rattle.cr_tokens.specs.Faults.{IsQuote}
use Rattle.cr_tokens.proofs.Tables.{is_among-all}
use Rattle.cr_tokens.proofs.Ranges.{slice_range-at}

-- what a token of the kind begins with
data Begins (file : List ℕ) (from to : ℕ) : Type 0 where
  word : IsNondigit (slice_index file from) → Begins file from to
  number : BeginsNumber file from → Begins file from to
  quote : IsQuote (slice_index file from) → Begins file from to
  sign : IsPunctuator file from to → Begins file from to

begins : (kind : TokenKind) (file : List ℕ) (from to : ℕ) → Spells file kind from to → Begins file from to
begins Keyword file from to s = word s.0.first
begins Identifier file from to s = word s.0.first
begins Integer file from to s = number s.0.first
begins Character file from to s = quote (inl s.open_quote)
begins Text file from to s = quote (inr s.1.open_quote)
begins Punctuator file from to s = sign s

-- no token stands where neither a word, a number, a quote nor a punctuator begins
pub no_token_at : (file : List ℕ) (at : ℕ) → ¬ IsNondigit (slice_index file at) → ¬ BeginsNumber file at →
    ¬ IsQuote (slice_index file at) → ((to : ℕ) → at < to → to ≤ length file → ¬ IsPunctuator file at to) →
    (t : Token) → t.start ≡ at → ¬ IsToken file t
no_token_at file at w n q p t e h =
    elim (rw e at (begins t.kind file t.start t.end h.spells)) as (λ _. ⊥)
    [ word x ↦ w x | number x ↦ n x | quote x ↦ q x | sign x ↦ p t.end (rw e at h.not_empty) h.inside x ]

-- no blank stands where neither white space, a comment nor # begins
pub no_blank_at : (file : List ℕ) (at : ℕ) → ¬ IsSpace (slice_index file at) → ¬ OpensComment file at →
    ¬ BeginsSkipped file at → (to : ℕ) → ¬ IsBlank file at to
no_blank_at file at s c k to (space x e) = s x
no_blank_at file at s c k to (comment x e) = elim x [ inl b ↦ c (inl b.opens) | inr l ↦ c (inr l.opens) ]
no_blank_at file at s c k to (skipped x e) = k x

-- no punctuator begins with #
pub no_hash : (file : List ℕ) (at to : ℕ) → at < to → slice_index file at ≡ 35 → ¬ IsPunctuator file at to
no_hash file at to h e p =
    let first : slice_index (slice_range file at to) 0 ≡ slice_index file (at + 0) = slice_range-at file at to 0 (omega arith) in
    let none : not (slice_index (slice_range file at to) 0 == 35) ≡ true =
    is_among-all (λ s. not (slice_index s 0 == 35)) punctuators (slice_range file at to) p refl in
    let byte : slice_index (slice_range file at to) 0 ≡ 35 = rw (first, add-zero, e) in
    let absurd_test : not (35 == 35) ≡ true = rw byte at none in
    cc

-- what follows the # of a skipped line is neither a space nor a tab
pub no_indent_first : (file : List ℕ) (at : ℕ) → IsDigit (slice_index file at) ⊎ IsPragma file at → ¬ IsIndent (slice_index file at)
no_indent_first file at (inl d) i = grind arith
no_indent_first file at (inr p) i =
    let first : slice_index (slice_range file at (at + 6)) 0 ≡ slice_index file (at + 0) =
    slice_range-at file at (at + 6) 0 (omega arith) in
    let letter : slice_index (slice_range file at (at + 6)) 0 ≡ 112 = ap (λ (s : List ℕ). slice_index s 0) p.letters in
    let byte : slice_index file at ≡ 112 = rw (first, add-zero) at letter in
    grind arith

pub punctuator_first : (p : ℕ → Bool) (file : List ℕ) (at to : ℕ) → list_all (λ s. p (slice_index s 0)) punctuators ≡ true →
    at < to → IsPunctuator file at to → p (slice_index file at) ≡ true
punctuator_first p file at to all h s =
    let first : slice_index (slice_range file at to) 0 ≡ slice_index file (at + 0) = slice_range-at file at to 0 (omega arith) in
    rw (first, add-zero) at (is_among-all (λ s. p (slice_index s 0)) punctuators (slice_range file at to) s all)

-- no punctuator begins with a letter, an underscore, a digit or a quote
is_other : ℕ → Bool
is_other b = nat_le 48 b && nat_le b 57 || nat_le 65 b && nat_le b 90 || nat_le 97 b && nat_le b 122 || b == 95 || b == 34 || b == 39

other : (b : ℕ) → not (is_other b) ≡ true → ¬ (IsWordByte b ⊎ IsQuote b)
unfolding is_other
other b h (inl (inl (inl x))) = grind arith
other b h (inl (inl (inr (inl x)))) = grind arith
other b h (inl (inl (inr (inr x)))) = grind arith
other b h (inl (inr x)) = grind arith
other b h (inr (inl x)) = grind arith
other b h (inr (inr x)) = grind arith

pub punctuator_no_other : (file : List ℕ) (at to : ℕ) → at < to → IsPunctuator file at to →
    ¬ (IsWordByte (slice_index file at) ⊎ IsQuote (slice_index file at))
unfolding is_other
punctuator_no_other file at to h s o =
    let none : not (is_other (slice_index file at)) ≡ true = punctuator_first (λ b. not (is_other b)) file at to refl h s in
    other (slice_index file at) none o
