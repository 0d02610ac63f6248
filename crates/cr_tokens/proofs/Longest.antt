-- Nothing longer than a token that is read to its end could be a token at its start.
use Rattle.std.proofs.Common.{◌≡◌, ◌≢◌, inl, inr, ℕ, ◌+◌, ◌≤◌, ◌<◌, length, List, refl, sym, ◌∙◌, arith, true, false, not, Bool, add-zero}
use Rattle.std.specs.Prelude.{slice_index, slice_range, nat_le, ◌&&◌, ◌==◌, if◌then◌else◌}
use Rattle.std.proofs.lemmas.Bool.{cases_lt, cases_eq, cases_order, eq-eqb, le-leb}
use Rattle.cr_tokens.specs.declared.token.TokenKind.TheVariants.{Keyword, Identifier, Integer, Character, Text, Punctuator}
use Rattle.cr_tokens.specs.declared.token.Token.{Token}
use Rattle.cr_tokens.specs.declared.token.TokenKind.{TokenKind}
use Rattle.cr_tokens.specs.Bytes.{IsNondigit, IsWordByte, IsDigit, is_among}
use Rattle.cr_tokens.specs.Words.{IsWord, keywords, word_kind_of}
use Rattle.cr_tokens.specs.Numbers.{IsNumber, IsNumberPart, BeginsNumber, IsInteger}
use Rattle.cr_tokens.specs.Literals.{IsLiteral}
use Rattle.cr_tokens.specs.Punctuators.{IsPunctuator, punctuators}
use Rattle.cr_tokens.specs.Blanks.{IsBlank, IsSplice, OpensComment}
use Rattle.cr_tokens.specs.Tokens.{IsLexeme, IsToken, Spells}
use Rattle.cr_tokens.specs.Tokens.IsLexeme.{word, number, character, text, punctuator}
use Rattle.cr_tokens.specs.Faults.{IsQuote, FaultAt}
use Rattle.cr_tokens.specs.Faults.FaultAt.{no_token}
use Rattle.cr_tokens.specs.declared.token.TokenFault.TheVariants.{BadByte}
use Rattle.cr_tokens.proofs.Places.{past, no_word_byte}
use Rattle.cr_tokens.proofs.Tables.{is_among-all}
use Rattle.cr_tokens.proofs.Ranges.{slice_range-at}
use Rattle.cr_tokens.proofs.Firsts.{punctuator_no_other, no_blank_at}
use Rattle.cr_tokens.proofs.Chains.{ends-NoChar, Chars-meet}

pub quote_no_backslash : (quote : ℕ) → IsQuote quote → quote ≢ 92
quote_no_backslash quote (inl e) n = omega arith
quote_no_backslash quote (inr e) n = omega arith

pub nondigit_no_quote : (b : ℕ) → IsNondigit b → ¬ IsQuote b
nondigit_no_quote b n q = grind arith

pub number_no_quote : (file : List ℕ) (at : ℕ) → BeginsNumber file at → ¬ IsQuote (slice_index file at)
number_no_quote file at (inl d) q = grind arith
number_no_quote file at (inr d) q = grind arith

pub quote_no_slash : (b : ℕ) → IsQuote b → b ≢ 47
quote_no_slash b (inl e) n = omega arith
quote_no_slash b (inr e) n = omega arith

quote_no_splice : (b : ℕ) → IsQuote b → b ≢ 63
quote_no_splice b (inl e) n = omega arith
quote_no_splice b (inr e) n = omega arith

pub quote_some : (b : ℕ) → IsQuote b → b ≢ 0
quote_some b (inl e) n = omega arith
quote_some b (inr e) n = omega arith

-- a byte that isn't 0 stands within the file
pub byte_inside : (file : List ℕ) (at : ℕ) → slice_index file at ≢ 0 → at < length file
byte_inside file at h = elim (cases_lt at (length file)) [ inl lt ↦ lt | inr ge ↦ absurd (h (past file at ge)) ]

-- no comment and no spliced line begins where the byte is neither a slash, a backslash nor a question mark
pub no_comment_at : (file : List ℕ) (at : ℕ) → slice_index file at ≢ 47 → ¬ OpensComment file at
no_comment_at file at h (inl b) = h b.0
no_comment_at file at h (inr l) = h l.0

pub no_splice_at : (file : List ℕ) (at : ℕ) → slice_index file at ≢ 92 → slice_index file at ≢ 63 → ¬ IsSplice file at
no_splice_at file at h g (inl b) = h b.0
no_splice_at file at h g (inr l) = g l.0

-- two literals at one place end at one place, with as many characters
pub literal_meet : (file : List ℕ) (quote from a b n m : ℕ) → IsQuote quote → IsLiteral file quote from a n →
    IsLiteral file quote from b m → (a ≡ b) × (n ≡ m)
literal_meet file quote from a b n m q x y =
    let no_backslash : quote ≢ 92 = quote_no_backslash quote q in
    let met = Chars-meet x.characters (ends-NoChar file quote x.close no_backslash (inr (inl x.close_quote)))
    y.characters (ends-NoChar file quote y.close no_backslash (inr (inl y.close_quote))) in
    (omega (arith, met.0, x.end, y.end), met.1)

pub literal_longest : (file : List ℕ) (quote at to count : ℕ) → IsQuote quote → IsLiteral file quote at to count → at < to →
    (longer : ℕ) → to < longer → ¬ IsLexeme file at longer
literal_longest file quote at to count q x h longer lt (word w) =
    nondigit_no_quote (slice_index file at) w.first (rw x.open_quote q)
literal_longest file quote at to count q x h longer lt (number n) =
    number_no_quote file at n.first (rw x.open_quote q)
literal_longest file quote at to count q x h longer lt (character m y) =
    let same : quote ≡ 39 = sym x.open_quote ∙ y.open_quote in
    absurd (omega (arith, lt, (literal_meet file quote at to longer count m q x (rw same y)).0))
literal_longest file quote at to count q x h longer lt (text m y) =
    let same : quote ≡ 34 = sym x.open_quote ∙ y.open_quote in
    absurd (omega (arith, lt, (literal_meet file quote at to longer count m q x (rw same y)).0))
literal_longest file quote at to count q x h longer lt (punctuator p) =
    punctuator_no_other file at longer (omega arith) p (inr (rw x.open_quote q))

-- a literal that is read to its closing quote is a token
pub literal_IsToken : (file : List ℕ) (kind : TokenKind) (quote at close count : ℕ) → IsQuote quote →
    IsLiteral file quote at (close + 1) count → slice_index file close ≡ quote → at < close → Spells file kind at (close + 1) →
    IsToken file (record { kind = kind; start = at; end = close + 1 })
literal_IsToken file kind quote at close count q x e h s =
    let first : IsQuote (slice_index file at) = rw x.open_quote q in
    let last : IsQuote (slice_index file close) = rw e q in
    let inside : close < length file = byte_inside file close (quote_some (slice_index file close) last) in
    record {
      not_empty = omega arith;
      inside = omega arith;
      spells = s;
      longest = λ to lt _. literal_longest file quote at (close + 1) count q x (omega arith) to lt;
      no_comment = no_comment_at file at (quote_no_slash (slice_index file at) first);
      no_splice = no_splice_at file at (quote_no_backslash (slice_index file at) first) (quote_no_splice (slice_index file at) first);
    }

-- what spells a token could be one
pub lexeme_of : (kind : TokenKind) (file : List ℕ) (from to : ℕ) → Spells file kind from to → IsLexeme file from to
lexeme_of Keyword file from to s = word s.0
lexeme_of Identifier file from to s = word s.0
lexeme_of Integer file from to s = number s.0
lexeme_of Character file from to s = character 1 s
lexeme_of Text file from to s = text s.0 s.1
lexeme_of Punctuator file from to s = punctuator s

word_spells : (file : List ℕ) (from to : ℕ) (b : Bool) → b ≡ is_among keywords (slice_range file from to) → IsWord file from to →
    Spells file (if b then Keyword else Identifier) from to
word_spells file from to true e w = (w, sym e)
word_spells file from to false e w = (w, sym e)

nondigit_no_number : (file : List ℕ) (at : ℕ) → IsNondigit (slice_index file at) → ¬ BeginsNumber file at
nondigit_no_number file at w (inl d) = grind arith
nondigit_no_number file at w (inr d) = grind arith

nondigit_no_slash : (b : ℕ) → IsNondigit b → (b ≢ 47) × (b ≢ 92) × (b ≢ 63)
nondigit_no_slash b (inl h) = (λ n. omega arith, λ n. omega arith, λ n. omega arith)
nondigit_no_slash b (inr (inl h)) = (λ n. omega arith, λ n. omega arith, λ n. omega arith)
nondigit_no_slash b (inr (inr h)) = (λ n. omega arith, λ n. omega arith, λ n. omega arith)

word_longest : (file : List ℕ) (at end : ℕ) → IsWord file at end → ¬ IsWordByte (slice_index file end) →
    (to : ℕ) → end < to → ¬ IsLexeme file at to
word_longest file at end w stop to lt (word x) = stop (x.each end (omega (arith, w.not_empty)) lt)
word_longest file at end w stop to lt (number x) = nondigit_no_number file at w.first x.first
word_longest file at end w stop to lt (character m x) = nondigit_no_quote (slice_index file at) w.first (inl x.open_quote)
word_longest file at end w stop to lt (text m x) = nondigit_no_quote (slice_index file at) w.first (inr x.open_quote)
word_longest file at end w stop to lt (punctuator x) =
    punctuator_no_other file at to (omega (arith, w.not_empty)) x (inl (inl w.first))

-- a word that is read to its end is a token
pub word_IsToken : (file : List ℕ) (at end : ℕ) → IsWord file at end → end ≤ length file → ¬ IsWordByte (slice_index file end) →
    IsToken file (record { kind = word_kind_of (slice_range file at end); start = at; end = end })
word_IsToken file at end w inside stop =
    let no = nondigit_no_slash (slice_index file at) w.first in
    record {
      not_empty = w.not_empty;
      inside = inside;
      spells = word_spells file at end (is_among keywords (slice_range file at end)) refl w;
      longest = λ to lt _. word_longest file at end w stop to lt;
      no_comment = no_comment_at file at no.0;
      no_splice = no_splice_at file at no.1 no.2;
    }

pub number_no_word : (file : List ℕ) (at : ℕ) → BeginsNumber file at → ¬ IsNondigit (slice_index file at)
number_no_word file at (inl d) w = grind arith
number_no_word file at (inr d) w = grind arith

number_no_slash : (file : List ℕ) (at : ℕ) → BeginsNumber file at →
    (slice_index file at ≢ 47) × (slice_index file at ≢ 92) × (slice_index file at ≢ 63)
number_no_slash file at (inl h) = (λ n. omega arith, λ n. omega arith, λ n. omega arith)
number_no_slash file at (inr h) = (λ n. omega arith, λ n. omega arith, λ n. omega arith)

-- no punctuator begins with a dot and a digit
no_dot_digit : (a b : ℕ) → not (a == 46 && (nat_le 48 b && nat_le b 57)) ≡ true → a ≡ 46 → ¬ IsDigit b
no_dot_digit a b h e d =
    let dot : (a == 46) ≡ true = eq-eqb a 46 e in
    let low : nat_le 48 b ≡ true = le-leb 48 b d.0 in
    let high : nat_le b 57 ≡ true = le-leb b 57 d.1 in
    let none : not (true && (true && true)) ≡ true = rw (dot, low, high) at h in
    cc

-- no punctuator longer than a dot begins where a number begins
pub punctuator_no_number : (file : List ℕ) (at to : ℕ) → at < to → (slice_index file at ≡ 46 → at + 1 < to) →
    BeginsNumber file at → ¬ IsPunctuator file at to
punctuator_no_number file at to h dot (inl d) p = punctuator_no_other file at to h p (inl (inr d))
punctuator_no_number file at to h dot (inr d) p =
    let first : slice_index (slice_range file at to) 0 ≡ slice_index file (at + 0) = slice_range-at file at to 0 (omega arith) in
    let second : slice_index (slice_range file at to) 1 ≡ slice_index file (at + 1) =
    slice_range-at file at to 1 (dot d.0) in
    let none : not (slice_index (slice_range file at to) 0 == 46 && (nat_le 48 (slice_index (slice_range file at to) 1)
    && nat_le (slice_index (slice_range file at to) 1) 57)) ≡ true =
    is_among-all (λ s. not (slice_index s 0 == 46 && (nat_le 48 (slice_index s 1) && nat_le (slice_index s 1) 57)))
    punctuators (slice_range file at to) p refl in
    no_dot_digit (slice_index (slice_range file at to) 0) (slice_index (slice_range file at to) 1) none
    (rw (first, add-zero) d.0) (rw second d.1)

pub number_longest : (file : List ℕ) (at end : ℕ) → IsNumber file at end → ¬ IsNumberPart file end →
    (to : ℕ) → end < to → ¬ IsLexeme file at to
number_longest file at end n stop to lt (word x) = number_no_word file at n.first x.first
number_longest file at end n stop to lt (number x) = stop (x.each end n.not_empty lt)
number_longest file at end n stop to lt (character m x) = number_no_quote file at n.first (inl x.open_quote)
number_longest file at end n stop to lt (text m x) = number_no_quote file at n.first (inr x.open_quote)
number_longest file at end n stop to lt (punctuator x) =
    punctuator_no_number file at to (omega (arith, n.not_empty)) (λ e. omega (arith, n.not_empty)) n.first x

pub number_IsToken : (file : List ℕ) (at end : ℕ) → IsNumber file at end → end ≤ length file → ¬ IsNumberPart file end →
    IsInteger (slice_range file at end) → IsToken file (record { kind = Integer; start = at; end = end })
number_IsToken file at end n inside stop i =
    let no = number_no_slash file at n.first in
    record {
      not_empty = n.not_empty;
      inside = inside;
      spells = (n, i);
      longest = λ to lt _. number_longest file at end n stop to lt;
      no_comment = no_comment_at file at no.0;
      no_splice = no_splice_at file at no.1 no.2;
    }

number_only : (kind : TokenKind) (file : List ℕ) (at end : ℕ) → IsNumber file at end → ¬ IsInteger (slice_range file at end) →
    ¬ Spells file kind at end
number_only Keyword file at end n i s = number_no_word file at n.first s.0.first
number_only Identifier file at end n i s = number_no_word file at n.first s.0.first
number_only Integer file at end n i s = i s.1
number_only Character file at end n i s = number_no_quote file at n.first (inl s.open_quote)
number_only Text file at end n i s = number_no_quote file at n.first (inr s.1.open_quote)
number_only Punctuator file at end n i s = punctuator_no_number file at end n.not_empty n.second n.first s

-- where a number that is no integer constant stands there is no token
pub number_no_token : (file : List ℕ) (at end : ℕ) → IsNumber file at end → end ≤ length file → ¬ IsNumberPart file end →
    ¬ IsInteger (slice_range file at end) → (t : Token) → t.start ≡ at → ¬ IsToken file t
number_no_token file at end n inside stop i t e h =
    let spells : Spells file t.kind at t.end = rw e at h.spells in
    elim (cases_order t.end end) [
      | inl same ↦ number_only t.kind file at end n i (rw same at spells)
      | inr o ↦ elim o [
        | inl lt ↦ (rw e at h.longest) end lt inside (number n)
        | inr gt ↦ number_longest file at end n stop t.end gt (lexeme_of t.kind file at t.end spells)
      ]
    ]

no_part : (file : List ℕ) (at : ℕ) → slice_index file at ≡ 0 → ¬ IsNumberPart file at
no_part file at z (inl w) = no_word_byte (rw z at w)
no_part file at z (inr (inl d)) = omega arith
no_part file at z (inr (inr (inl p, e))) = omega arith
no_part file at z (inr (inr (inr m, e))) = omega arith

-- a number ends where the file does
pub number_stop : (file : List ℕ) (at : ℕ) → (at < length file → ¬ IsNumberPart file at) → ¬ IsNumberPart file at
number_stop file at h p = elim (cases_lt at (length file)) [ inl lt ↦ h lt p | inr ge ↦ no_part file at (past file at ge) p ]

-- a number that is read to its end
pub number_whole : (file : List ℕ) (at end : ℕ) → BeginsNumber file at → at < end →
    ((k : ℕ) → at < k → k < end → IsNumberPart file k) → ¬ IsNumberPart file end → IsNumber file at end
number_whole file at end b h each stop = record {
  not_empty = h;
  first = b;
  second = λ dot. elim (cases_eq end (at + 1)) [
    | inl e ↦ elim b [
      | inl d ↦ absurd (omega arith)
      | inr d ↦ absurd (stop (rw e (inl (inr d.1))))
    ]
    | inr n ↦ omega arith
  ];
  each = each;
}

number_no_blank : (file : List ℕ) (at : ℕ) → BeginsNumber file at → (to : ℕ) → ¬ IsBlank file at to
number_no_blank file at (inl d) = no_blank_at file at (λ s. grind arith) (no_comment_at file at (λ e. omega arith)) (λ k. omega (arith, k.hash))
number_no_blank file at (inr d) = no_blank_at file at (λ s. grind arith) (no_comment_at file at (λ e. omega arith)) (λ k. omega (arith, k.hash))

-- a number that is no integer constant is a fault
pub number_fault : (file : List ℕ) (at end : ℕ) → IsNumber file at end → at < length file → end ≤ length file →
    ¬ IsNumberPart file end → ¬ IsInteger (slice_range file at end) → FaultAt file at (BadByte at)
number_fault file at end n lt inside stop i =
    no_token lt (no_comment_at file at (number_no_slash file at n.first).0) (number_no_quote file at n.first)
    (number_no_blank file at n.first) (number_no_token file at end n inside stop i)
