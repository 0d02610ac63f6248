-- No token holds the end of a line, and no punctuator a space.
use Rattle.std.proofs.Common.{◌≡◌, ◌≢◌, inl, inr, ℕ, zero, suc, ◌+◌, ◌-◌, ◌≤◌, ◌<◌, List, [], ◌∷◌, ◌++◌, length, true, not, refl, sym, ◌∙◌, ap, arith}
use Rattle.std.specs.Prelude.{slice_index, slice_range, ◌==◌}
use Rattle.std.specs.List.{list_all}
use Rattle.std.proofs.lemmas.Bool.{cases_eq, cases_lt, eq-eqb}
use Rattle.std.proofs.lemmas.List.{get_or_append_left, get_or-append-add}
use Rattle.std.proofs.lemmas.List.Folds.{list_all_at}
use Rattle.cr_tokens.specs.declared.token.TokenKind.{TokenKind}
use Rattle.cr_tokens.specs.declared.token.TokenKind.TheVariants.{Keyword, Identifier, Integer, Character, Text, Punctuator}
use Rattle.cr_tokens.specs.Bytes.{IsWordByte, is_byte_of}
use Rattle.cr_tokens.specs.Numbers.{IsNumberPart, BeginsNumber}
use Rattle.cr_tokens.specs.Literals.{IsLiteral, Chars, IsUnit, simple_escapes}
use Rattle.cr_tokens.specs.Literals.Chars.{none, more}
use Rattle.cr_tokens.specs.Punctuators.{IsPunctuator, punctuators}
use Rattle.cr_tokens.specs.Tokens.{Spells}
use Rattle.cr_tokens.specs.Faults.{IsQuote}
use Rattle.cr_tokens.proofs.Places.{past}
use Rattle.cr_tokens.proofs.Tables.{is_among-all, is_byte_of-all}
use Rattle.cr_tokens.proofs.Ranges.{slice_range-at, slice_range-length}

-- a byte that no punctuator has
pub punctuator_lacks : (v : ℕ) (file : List ℕ) (at to k : ℕ) → list_all (λ s. list_all (λ c. not (c == v)) s) punctuators ≡ true →
    to ≤ length file → IsPunctuator file at to → at ≤ k → k < to → slice_index file k ≢ v
punctuator_lacks v file at to k table inside p low high e =
    let all : list_all (λ c. not (c == v)) (slice_range file at to) ≡ true =
    is_among-all (λ s. list_all (λ c. not (c == v)) s) punctuators (slice_range file at to) p table in
    let size : length (slice_range file at to) ≡ to - at = slice_range-length file at to inside in
    let there : slice_index (slice_range file at to) (k - at) ≡ slice_index file (at + (k - at)) =
    slice_range-at file at to (k - at) (omega arith) in
    let same : at + (k - at) ≡ k = omega arith in
    let is_v : slice_index (slice_range file at to) (k - at) ≡ v = there ∙ ap (λ i. slice_index file i) same ∙ e in
    let test : (slice_index (slice_range file at to) (k - at) == v) ≡ true = eq-eqb (slice_index (slice_range file at to) (k - at)) v is_v in
    let none = list_all_at (λ c. not (c == v)) (slice_range file at to) (k - at) 0 (omega arith) (ap not test) in
    cc

word_byte : (b : ℕ) → IsWordByte b → b ≢ 10
word_byte b (inl (inl h)) e = omega arith
word_byte b (inl (inr (inl h))) e = omega arith
word_byte b (inl (inr (inr h))) e = omega arith
word_byte b (inr h) e = omega arith

number_part : (file : List ℕ) (k : ℕ) → IsNumberPart file k → slice_index file k ≢ 10
number_part file k (inl w) e = word_byte (slice_index file k) w e
number_part file k (inr (inl d)) e = omega arith
number_part file k (inr (inr (inl p, x))) e = omega arith
number_part file k (inr (inr (inr p, x))) e = omega arith

number_first : (file : List ℕ) (k : ℕ) → BeginsNumber file k → slice_index file k ≢ 10
number_first file k (inl d) e = omega arith
number_first file k (inr d) e = omega arith

letter : (b : ℕ) → is_byte_of simple_escapes b ≡ true → b ≢ 10
letter b h e =
    let differs : not (b == 10) ≡ true = is_byte_of-all (λ c. not (c == 10)) simple_escapes b h refl in
    let test : (b == 10) ≡ true = eq-eqb b 10 e in
    cc

unit : (file : List ℕ) (quote at to k : ℕ) → IsUnit file quote at to → at ≤ k → k < to → slice_index file k ≢ 10
unit file quote at to k (inl (p, end)) low high e =
    let same : k ≡ at = omega arith in
    let here : slice_index file at ≡ 10 = rw same at e in
    grind (arith, p.range)
unit file quote at to k (inr (p, inl s)) low high e = elim (cases_eq k at) [
  | inl same ↦ let here : slice_index file at ≡ 10 = rw same at e in omega arith
  | inr ne ↦
      let same : k ≡ at + 1 = omega (arith, s.end) in
      letter (slice_index file (at + 1)) s.letter (rw same at e)
]
unit file quote at to k (inr (p, inr (inl o))) low high e = elim (cases_eq k at) [
  | inl same ↦ let here : slice_index file at ≡ 10 = rw same at e in omega arith
  | inr ne ↦ let d = o.digits k (omega arith) high in omega (arith, d.0)
]
unit file quote at to k (inr (p, inr (inr h))) low high e = elim (cases_eq k at) [
  | inl same ↦ let here : slice_index file at ≡ 10 = rw same at e in omega arith
  | inr ne ↦ elim (cases_eq k (at + 1)) [
    | inl next ↦ let here : slice_index file (at + 1) ≡ 10 = rw next at e in omega (arith, h.letter)
    | inr far ↦ grind (arith, h.digits k (omega arith) high)
  ]
]

chars : {file : List ℕ} {quote at to count : ℕ} (k : ℕ) → Chars file quote at to count → at ≤ k → k < to → slice_index file k ≢ 10
chars k none low high = absurd (omega arith)
chars {file} {quote} {at} k (more {to = to} i cs) low high = elim (cases_lt k to) [
  | inl lt ↦ unit file quote at to k i.unit low lt
  | inr ge ↦ chars k cs ge high
]

literal : (file : List ℕ) (quote at to count k : ℕ) → IsQuote quote → IsLiteral file quote at to count → at ≤ k → k < to → slice_index file k ≢ 10
literal file quote at to count k q l low high e = elim (cases_eq k at) [
  | inl same ↦ let here : slice_index file at ≡ 10 = rw same at e in elim q [ inl x ↦ omega (arith, l.open_quote) | inr x ↦ omega (arith, l.open_quote) ]
  | inr ne ↦ elim (cases_eq k l.close) [
    | inl same ↦ let here : slice_index file l.close ≡ 10 = rw same at e in elim q [ inl x ↦ omega (arith, l.close_quote) | inr x ↦ omega (arith, l.close_quote) ]
    | inr far ↦ chars k l.characters (omega arith) (omega (arith, l.end)) e
  ]
]

-- no token holds the end of a line
pub spelled : (kind : TokenKind) (file : List ℕ) (at to k : ℕ) → to ≤ length file → Spells file kind at to → at ≤ k → k < to →
    slice_index file k ≢ 10
spelled Keyword file at to k inside s low high = word_byte (slice_index file k) (s.0.each k low high)
spelled Identifier file at to k inside s low high = word_byte (slice_index file k) (s.0.each k low high)
spelled Integer file at to k inside s low high = elim (cases_eq k at) [
  | inl same ↦ rw same (number_first file at s.0.first)
  | inr ne ↦ number_part file k (s.0.each k (omega arith) high)
]
spelled Character file at to k inside s low high = literal file 39 at to 1 k (inl refl) s low high
spelled Text file at to k inside s low high = literal file 34 at to s.0 k (inr refl) s.1 low high
spelled Punctuator file at to k inside s low high = punctuator_lacks 10 file at to k refl inside s low high

-- texts without the end of a line
pub record OneLine (file : List ℕ) : Type 0 where
  pub each : (k : ℕ) → slice_index file k ≢ 10

pub one_line-append : (a b : List ℕ) → OneLine a → OneLine b → OneLine (a ++ b)
one_line-append a b x y = record {
  each = λ k e. elim (cases_lt k (length a)) [
    | inl lt ↦ x.each k (sym (get_or_append_left a b 0 k lt) ∙ e)
    | inr ge ↦
        let same : length a + (k - length a) ≡ k = omega arith in
        y.each (k - length a) (sym (get_or-append-add a b (k - length a) 0) ∙ ap (λ i. slice_index (a ++ b) i) same ∙ e)
  ];
}

pub one_line-nil : OneLine []
one_line-nil = record { each = λ k e. let zero : slice_index [] k ≡ 0 = past [] k (omega arith) in omega arith }

pub one_line-space : (a : List ℕ) → OneLine a → OneLine (32 ∷ a)
one_line-space a x =
    let space : OneLine (32 ∷ []) = record { each = one } in
    one_line-append (32 ∷ []) a space x
  where
    one : (k : ℕ) → slice_index (32 ∷ []) k ≢ 10
    one zero e = omega arith
    one (suc k) e = omega arith
