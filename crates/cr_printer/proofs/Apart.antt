-- Whether two spellings of tokens stay apart is a matter of the bytes where they meet: for each kind of the first one its two halves.
use Rattle.std.proofs.Common.{◌≡◌, ◌≢◌, ◌⊎◌, inl, inr, ℕ, ◌+◌, ◌-◌, ◌≤◌, ◌<◌, List, [], ◌∷◌, ◌++◌, length, true, false, not, Bool, refl, sym, ◌∙◌, ap, subst, arith, zero-add, add-zero, length-append}
use Rattle.std.specs.Prelude.{slice_index, slice_range, IsTrue, ◌↔◌}
use Rattle.std.proofs.lemmas.Bool.{cases_eq}
use Rattle.std.proofs.lemmas.List.{get_or_append_left, get_or-append-add}
use Rattle.cr_tokens.specs.declared.token.TokenKind.{TokenKind}
use Rattle.cr_tokens.specs.declared.token.TokenKind.TheVariants.{Keyword, Identifier, Integer, Character, Text, Punctuator}
use Rattle.cr_tokens.specs.Bytes.{IsWordByte, IsDigit, is_among}
use Rattle.cr_tokens.specs.Words.{IsWord, word_kind_of}
use Rattle.cr_tokens.specs.Numbers.{IsNumber, IsNumberPart, IsInteger, BeginsNumber, IsSign, IsExponent}
use Rattle.cr_tokens.specs.Punctuators.{IsPunctuator, punctuators}
use Rattle.cr_tokens.specs.Blanks.{OpensComment}
use Rattle.cr_tokens.specs.Tokens.{IsToken, IsLexeme, Spells, FallsInto}
use Rattle.cr_tokens.specs.Tokens.IsLexeme.{word, number, character, text, punctuator}
use Rattle.cr_tokens.specs.Tokens.FallsInto.{nothing, token}
use Rattle.cr_tokens.specs.Faults.{IsQuote}
use Rattle.cr_tokens.specs.Places.{StaysApart}
use Rattle.cr_tokens.proofs.Ranges.{slice_range-two, slice_range-three}
use Rattle.cr_tokens.proofs.Firsts.{punctuator_no_other}
use Rattle.cr_tokens.proofs.Longest.{word_IsToken, number_IsToken, no_comment_at, quote_no_slash, byte_inside, punctuator_no_number}
use Rattle.cr_printer.specs.Pieces.{Piece, IsOneToken}
use Rattle.cr_printer.specs.Seams.{IsSpelling}
use Rattle.cr_printer.proofs.Moves.{Agree, spells_moved, word_moved, number_moved}
use Rattle.cr_printer.proofs.LineEnds.{OneLine, one_line-append}
use Rattle.cr_printer.proofs.Stands.{token_at, token_cut, comment_back, splice_line_end, quoted_longest, three_two, sign_short, Dots}
use Rattle.cr_printer.proofs.Alone.{alone, apart_some, front, one_line, not_empty}

-- a byte goes on with a number that ends in `last` (C11 6.4.8)
abbrev pub GoesOn : ℕ → ℕ → Type 0
GoesOn last next = IsWordByte next ⊎ (next ≡ 46) ⊎ (IsSign next × IsExponent last)

-- a punctuator of one byte and the two bytes behind it begin a longer punctuator, a number or a comment
abbrev pub Grows : ℕ → ℕ → ℕ → Type 0
Grows sign next after =
    (is_among punctuators (sign ∷ next ∷ []) ≡ true)
    ⊎ ((sign ≡ 46) × (IsDigit next ⊎ ((next ≡ 46) × (after ≡ 46))))
    ⊎ ((sign ≡ 47) × ((next ≡ 47) ⊎ (next ≡ 42)))

abbrev pub piece : TokenKind → List ℕ → Piece
piece kind s = record { kind = kind; spelling = s }

-- a test that is turned
pub turns : {P Q : Type 0} (b : Bool) → IsTrue b ↔ P → (P → ¬ Q) → (¬ P → Q) → IsTrue (not b) ↔ Q
turns true d f g = (λ h. absurd (cc h), λ q. absurd (f (d.0 refl) q))
turns false d f g = (λ h. g (λ p. absurd (cc (d.1 p))), λ q. refl)

-- the second of two spellings
back : (s t : List ℕ) → Agree t 0 (s ++ t) (length s) (length t)
back s t = record {
  left = omega arith;
  right = simp length-append (omega arith);
  each = λ k lt. rw (zero-add k) (sym (get_or-append-add s t k 0));
}

pub spelling_some : (s : List ℕ) → IsSpelling s → 0 < length s
spelling_some s h = not_empty (piece h.0 s) h.1

-- where the first is a token they stay apart
pub apart_from : (s t : List ℕ) (kind : TokenKind) → IsSpelling t → length s + length t ≤ 1048576 →
    IsToken (s ++ t) (record { kind = kind; start = 0; end = length s }) → StaysApart s t
apart_from s t kind h short first =
    let size : length (s ++ t) ≡ length s + length t = length-append s t in
    let second : IsToken (s ++ t) (token_at h.0 (length s) (length t)) =
    token_cut h.0 t 0 (s ++ t) (length s) (length t) (length t) (back s t) (omega arith) size (alone (piece h.0 t) h.1) in
    let P : ℕ → Type 0 = λ i. FallsInto (s ++ t) (length s + length t) i [] in (
      kind,
      h.0,
      record {
        short = omega arith;
        few = omega arith;
        falls = token (record { kind = kind; start = 0; end = length s }) refl first
            (token (token_at h.0 (length s) (length t)) refl second (subst P (sym size) nothing));
      },
    )

-- nothing longer than the first stands at its place
pub no_longer : (s t : List ℕ) (to : ℕ) → StaysApart s t → length s < to → to ≤ length s + length t → ¬ IsLexeme (s ++ t) 0 to
no_longer s t to a lt inside x =
    let size : length (s ++ t) ≡ length s + length t = length-append s t in
    (apart_some s t a).1.longest to (omega arith) (omega arith) x

at_seam : (s t : List ℕ) → slice_index (s ++ t) (length s) ≡ slice_index t 0
at_seam s t = ap (λ i. slice_index (s ++ t) i) (sym (add-zero (length s))) ∙ get_or-append-add s t 0 0

-- words

as_word : (s t : List ℕ) → IsWord s 0 (0 + length s) → IsWord (s ++ t) 0 (length s)
as_word s t w = let P : ℕ → Type 0 = λ i. IsWord (s ++ t) 0 i in subst P (zero-add (length s)) (word_moved s 0 (s ++ t) 0 (length s) (front s t) w)

pub word_apart : (s t : List ℕ) → IsWord s 0 (0 + length s) → IsSpelling t → length s + length t ≤ 1048576 →
    ¬ IsWordByte (slice_index t 0) → StaysApart s t
word_apart s t w h short stop =
    let P : ℕ → Type 0 = λ b. ¬ IsWordByte b in
    apart_from s t (word_kind_of (slice_range (s ++ t) 0 (length s))) h short
    (word_IsToken (s ++ t) 0 (length s) (as_word s t w) (simp length-append (omega arith)) (subst P (sym (at_seam s t)) stop))

pub word_joined : (s t : List ℕ) → IsWord s 0 (0 + length s) → IsSpelling t → IsWordByte (slice_index t 0) → ¬ StaysApart s t
word_joined s t w h next a =
    let v = as_word s t w in
    let P : ℕ → Type 0 = λ b. IsWordByte b in
    let last : IsWordByte (slice_index (s ++ t) (length s)) = subst P (sym (at_seam s t)) next in
    no_longer s t (length s + 1) a (omega arith) (omega (arith, spelling_some t h)) (word (record {
      not_empty = omega arith;
      first = v.first;
      each = λ k from to. elim (cases_eq k (length s)) as (λ _. IsWordByte (slice_index (s ++ t) k)) [
        | inl e ↦ rw e last
        | inr ne ↦ v.each k from (omega arith)
      ];
    }))

-- numbers

as_number : (s t : List ℕ) → IsNumber s 0 (0 + length s) → IsNumber (s ++ t) 0 (length s)
as_number s t w = let P : ℕ → Type 0 = λ i. IsNumber (s ++ t) 0 i in subst P (zero-add (length s)) (number_moved s 0 (s ++ t) 0 (length s) (front s t) w)

-- whether a number goes on is a matter of the bytes at the seam
part_goes : (s t : List ℕ) → 0 < length s → IsNumberPart (s ++ t) (length s) → GoesOn (slice_index s (length s - 1)) (slice_index t 0)
part_goes s t some p =
    let next : slice_index (s ++ t) (length s) ≡ slice_index t 0 = at_seam s t in
    let last : slice_index (s ++ t) (length s - 1) ≡ slice_index s (length s - 1) = get_or_append_left s t 0 (length s - 1) (omega arith) in
    elim p [
      | inl w ↦ inl (rw next at w)
      | inr o ↦ elim o [
        | inl d ↦ inr (inl (rw next at d))
        | inr x ↦ inr (inr (rw next at (x.0), rw last at (x.1)))
      ]
    ]

goes_part : (s t : List ℕ) → 0 < length s → GoesOn (slice_index s (length s - 1)) (slice_index t 0) → IsNumberPart (s ++ t) (length s)
goes_part s t some p =
    let next : slice_index (s ++ t) (length s) ≡ slice_index t 0 = at_seam s t in
    let last : slice_index (s ++ t) (length s - 1) ≡ slice_index s (length s - 1) = get_or_append_left s t 0 (length s - 1) (omega arith) in
    elim p [
      | inl w ↦ inl (rw next w)
      | inr o ↦ elim o [
        | inl d ↦ inr (inl (rw next d))
        | inr x ↦ inr (inr (rw next x.0, rw last x.1))
      ]
    ]

pub number_apart : (s t : List ℕ) → IsOneToken (piece Integer s) → IsSpelling t → length s + length t ≤ 1048576 →
    ¬ GoesOn (slice_index s (length s - 1)) (slice_index t 0) → StaysApart s t
number_apart s t i h short stop =
    let a : IsToken s (token_at Integer 0 (length s)) = alone (piece Integer s) i in
    let some : 0 < length s = not_empty (piece Integer s) i in
    let b : Spells (s ++ t) Integer 0 (0 + length s) = spells_moved Integer s 0 (s ++ t) 0 (length s) (front s t) a.spells in
    let P : ℕ → Type 0 = λ e. IsInteger (slice_range (s ++ t) 0 e) in
    apart_from s t Integer h short
    (number_IsToken (s ++ t) 0 (length s) (as_number s t a.spells.0) (simp length-append (omega arith)) (λ p. stop (part_goes s t some p))
    (subst P (zero-add (length s)) b.1))

pub number_joined : (s t : List ℕ) → IsOneToken (piece Integer s) → IsSpelling t →
    GoesOn (slice_index s (length s - 1)) (slice_index t 0) → ¬ StaysApart s t
number_joined s t i h next a =
    let one : IsToken s (token_at Integer 0 (length s)) = alone (piece Integer s) i in
    let some : 0 < length s = not_empty (piece Integer s) i in
    let v = as_number s t one.spells.0 in
    let last : IsNumberPart (s ++ t) (length s) = goes_part s t some next in
    no_longer s t (length s + 1) a (omega arith) (omega (arith, spelling_some t h)) (number (record {
      not_empty = omega arith;
      first = v.first;
      second = λ e. omega arith;
      each = λ k from to. elim (cases_eq k (length s)) as (λ _. IsNumberPart (s ++ t) k) [
        | inl e ↦ rw e last
        | inr ne ↦ v.each k from (omega arith)
      ];
    }))

-- literals and punctuators

-- a token by itself is the first of two where nothing longer could be one there and no comment begins
first_of : (kind : TokenKind) (s t : List ℕ) → IsOneToken (piece kind s) → IsSpelling t → length s + length t ≤ 1048576 →
    (Spells (s ++ t) kind 0 (0 + length s) → (to : ℕ) → length s < to → to ≤ length s + length t → ¬ IsLexeme (s ++ t) 0 to) →
    ¬ OpensComment (s ++ t) 0 → StaysApart s t
first_of kind s t i h short longest comment =
    let one : IsToken s (token_at kind 0 (length s)) = alone (piece kind s) i in
    let size : length (s ++ t) ≡ length s + length t = length-append s t in
    let spells : Spells (s ++ t) kind 0 (0 + length s) = spells_moved kind s 0 (s ++ t) 0 (length s) (front s t) one.spells in
    let line : OneLine (s ++ t) = one_line-append s t (one_line (piece kind s) i) (one_line (piece h.0 t) h.1) in
    let P : ℕ → Type 0 = λ e. Spells (s ++ t) kind 0 e in
    apart_from s t kind h short (record {
      not_empty = not_empty (piece kind s) i;
      inside = omega arith;
      spells = subst P (zero-add (length s)) spells;
      longest = λ to lt inside. longest spells to lt (omega arith);
      no_comment = comment;
      no_splice = splice_line_end (s ++ t) 0 line;
    })

front_byte : (s t : List ℕ) → 0 < length s → slice_index (s ++ t) 0 ≡ slice_index s 0
front_byte s t some = get_or_append_left s t 0 0 some

pub literal_apart : (kind : TokenKind) (s t : List ℕ) → IsOneToken (piece kind s) → IsQuote (slice_index s 0) → IsSpelling t →
    length s + length t ≤ 1048576 → StaysApart s t
literal_apart kind s t i q h short =
    let some : 0 < length s = not_empty (piece kind s) i in
    let P : ℕ → Type 0 = λ b. IsQuote b in
    let first : IsQuote (slice_index (s ++ t) 0) = subst P (sym (front_byte s t some)) q in
    first_of kind s t i h short
    (λ spells to lt inside. quoted_longest kind (s ++ t) 0 (0 + length s) to (omega arith) (omega arith) first spells)
    (no_comment_at (s ++ t) 0 (quote_no_slash (slice_index (s ++ t) 0) first))

-- a punctuator behind which neither a longer one, a number nor a comment begins
sign_apart : (s t : List ℕ) → IsOneToken (piece Punctuator s) → IsSpelling t → length s + length t ≤ 1048576 →
    ((to : ℕ) → length s < to → to ≤ length (s ++ t) → ¬ IsPunctuator (s ++ t) 0 to) →
    (length s ≡ 1 → ¬ BeginsNumber (s ++ t) 0) → (length s ≡ 1 → ¬ OpensComment (s ++ t) 0) → StaysApart s t
sign_apart s t i h short np nn nc =
    let one : IsToken s (token_at Punctuator 0 (length s)) = alone (piece Punctuator s) i in
    let some : 0 < length s = not_empty (piece Punctuator s) i in
    let size : length (s ++ t) ≡ length s + length t = length-append s t in
    first_of Punctuator s t i h short
    (λ spells to lt inside x. elim x [
      | word w ↦ punctuator_no_other (s ++ t) 0 (0 + length s) (omega arith) spells (inl (inl w.first))
      | number w ↦ elim (cases_eq (length s) 1) [
        | inl e ↦ nn e w.first
        | inr ne ↦ punctuator_no_number (s ++ t) 0 (0 + length s) (omega arith) (λ e. omega arith) w.first spells
      ]
      | character count w ↦ punctuator_no_other (s ++ t) 0 (0 + length s) (omega arith) spells (inr (inl w.open_quote))
      | text count w ↦ punctuator_no_other (s ++ t) 0 (0 + length s) (omega arith) spells (inr (inr w.open_quote))
      | punctuator p ↦ np to lt (omega arith) p
    ])
    (λ c. elim (cases_eq (length s) 1) [
      | inl e ↦ nc e c
      | inr ne ↦ one.no_comment (comment_back s 0 (s ++ t) 0 (length s) (front s t) (omega arith) c)
    ])

-- the bytes behind a spelling of one byte
one_second : (s t : List ℕ) → length s ≡ 1 → slice_index (s ++ t) 1 ≡ slice_index t 0
one_second s t e = ap (λ i. slice_index (s ++ t) i) (sym e) ∙ at_seam s t

one_third : (s t : List ℕ) → length s ≡ 1 → slice_index (s ++ t) 2 ≡ slice_index t 1
one_third s t e =
    let same : 2 ≡ length s + 1 = omega arith in
    ap (λ i. slice_index (s ++ t) i) same ∙ get_or-append-add s t 1 0

-- a punctuator of two or three bytes at the front of a text
two_there : (g : List ℕ) (a b : ℕ) → 1 < length g → slice_index g 0 ≡ a → slice_index g 1 ≡ b → slice_range g 0 2 ≡ a ∷ b ∷ []
two_there g a b lt e f = slice_range-two g 0 lt ∙ rw (e, f) refl

three_there : (g : List ℕ) (a b c : ℕ) → 2 < length g → slice_index g 0 ≡ a → slice_index g 1 ≡ b → slice_index g 2 ≡ c →
    slice_range g 0 3 ≡ a ∷ b ∷ c ∷ []
three_there g a b c lt e f h = slice_range-three g 0 lt ∙ rw (e, f, h) refl

-- of one byte

pub one_joined : (s t : List ℕ) → IsOneToken (piece Punctuator s) → IsSpelling t → length s ≡ 1 →
    Grows (slice_index s 0) (slice_index t 0) (slice_index t 1) → ¬ StaysApart s t
one_joined s t i h one g a =
    let t_some : 0 < length t = spelling_some t h in
    let size : length (s ++ t) ≡ length s + length t = length-append s t in
    let e0 : slice_index (s ++ t) 0 ≡ slice_index s 0 = front_byte s t (omega arith) in
    let e1 : slice_index (s ++ t) 1 ≡ slice_index t 0 = one_second s t one in
    let e2 : slice_index (s ++ t) 2 ≡ slice_index t 1 = one_third s t one in
    let first = (apart_some s t a).1 in
    elim g [
      | inl two ↦
          let bytes = two_there (s ++ t) (slice_index s 0) (slice_index t 0) (omega arith) e0 e1 in
          no_longer s t 2 a (omega arith) (omega arith) (punctuator (rw bytes two))
      | inr o ↦ elim o [
        | inl d ↦ elim d.1 [
          | inl digit ↦
              no_longer s t 2 a (omega arith) (omega arith) (number (record {
                not_empty = omega arith;
                first = inr (e0 ∙ d.0, rw e1 digit);
                second = λ e. omega arith;
                each = λ k from to. let same : k ≡ 1 = omega arith in inl (inr (rw (same, e1) digit));
              }))
          | inr dots ↦
              let wide : 1 < length t = byte_inside t 1 (λ z. omega arith) in
              let bytes = three_there (s ++ t) 46 46 46 (omega arith) (e0 ∙ d.0) (e1 ∙ dots.0) (e2 ∙ dots.1) in
              no_longer s t 3 a (omega arith) (omega arith) (punctuator (rw bytes refl))
        ]
        | inr c ↦ elim c.1 [
          | inl line ↦ first.no_comment (inr (e0 ∙ c.0, e1 ∙ line))
          | inr block ↦ first.no_comment (inl (e0 ∙ c.0, e1 ∙ block))
        ]
      ]
    ]

pub one_apart : (s t : List ℕ) → IsOneToken (piece Punctuator s) → IsSpelling t → length s + length t ≤ 1048576 → length s ≡ 1 →
    ¬ Grows (slice_index s 0) (slice_index t 0) (slice_index t 1) → StaysApart s t
one_apart s t i h short one ng =
    let t_some : 0 < length t = spelling_some t h in
    let size : length (s ++ t) ≡ length s + length t = length-append s t in
    let e0 : slice_index (s ++ t) 0 ≡ slice_index s 0 = front_byte s t (omega arith) in
    let e1 : slice_index (s ++ t) 1 ≡ slice_index t 0 = one_second s t one in
    let e2 : slice_index (s ++ t) 2 ≡ slice_index t 1 = one_third s t one in
    let no_two : 1 < length (s ++ t) → ¬ IsPunctuator (s ++ t) 0 2 = λ lt p.
    let bytes = two_there (s ++ t) (slice_index s 0) (slice_index t 0) lt e0 e1 in
    ng (inl (rw bytes at p)) in
    let no_dots : ¬ Dots (s ++ t) 0 = λ d. ng (inr (inl (sym e0 ∙ d.first, inr (sym e1 ∙ d.second, sym e2 ∙ d.third)))) in
    sign_apart s t i h short
    (λ to lt inside p. elim (cases_eq to 2) [
      | inl e ↦ let P : ℕ → Type 0 = λ x. IsPunctuator (s ++ t) 0 x in no_two (omega arith) (subst P e p)
      | inr ne ↦
          let few : to - 0 ≤ 3 = sign_short (s ++ t) 0 to inside p in
          let e : to ≡ 3 = omega arith in
          let P : ℕ → Type 0 = λ x. IsPunctuator (s ++ t) 0 x in
          no_two (omega arith) (three_two (s ++ t) 0 (omega arith) (subst P e p) no_dots)
    ])
    (λ _ n. elim n [
      | inl d ↦
          let digit : IsDigit (slice_index s 0) = rw e0 at d in
          punctuator_no_other s 0 (0 + length s) (omega arith) (alone (piece Punctuator s) i).spells (inl (inr digit))
      | inr d ↦ ng (inr (inl (sym e0 ∙ d.0, inl (rw e1 at (d.1)))))
    ])
    (λ _ c. elim c [
      | inl b ↦ ng (inr (inr (sym e0 ∙ b.0, inr (sym e1 ∙ b.1))))
      | inr l ↦ ng (inr (inr (sym e0 ∙ l.0, inl (sym e1 ∙ l.1))))
    ])

-- of two bytes

two_third : (s t : List ℕ) → length s ≡ 2 → slice_index (s ++ t) 2 ≡ slice_index t 0
two_third s t e = ap (λ i. slice_index (s ++ t) i) (sym e) ∙ at_seam s t

pub two_joined : (s t : List ℕ) → IsSpelling t → length s ≡ 2 →
    is_among punctuators (slice_index s 0 ∷ slice_index s 1 ∷ slice_index t 0 ∷ []) ≡ true → ¬ StaysApart s t
two_joined s t h two p a =
    let t_some : 0 < length t = spelling_some t h in
    let size : length (s ++ t) ≡ length s + length t = length-append s t in
    let bytes = three_there (s ++ t) (slice_index s 0) (slice_index s 1) (slice_index t 0) (omega arith) (front_byte s t (omega arith))
    (get_or_append_left s t 0 1 (omega arith)) (two_third s t two) in
    no_longer s t 3 a (omega arith) (omega arith) (punctuator (rw bytes p))

pub two_apart : (s t : List ℕ) → IsOneToken (piece Punctuator s) → IsSpelling t → length s + length t ≤ 1048576 → length s ≡ 2 →
    is_among punctuators (slice_index s 0 ∷ slice_index s 1 ∷ slice_index t 0 ∷ []) ≢ true → StaysApart s t
two_apart s t i h short two np =
    let size : length (s ++ t) ≡ length s + length t = length-append s t in
    sign_apart s t i h short
    (λ to lt inside p.
    let few : to - 0 ≤ 3 = sign_short (s ++ t) 0 to inside p in
    let e : to ≡ 3 = omega arith in
    let P : ℕ → Type 0 = λ x. IsPunctuator (s ++ t) 0 x in
    let bytes = three_there (s ++ t) (slice_index s 0) (slice_index s 1) (slice_index t 0) (omega arith) (front_byte s t (omega arith))
    (get_or_append_left s t 0 1 (omega arith)) (two_third s t two) in
    np (rw bytes at (subst P e p)))
    (λ e. absurd (omega arith)) (λ e. absurd (omega arith))

-- of three bytes

pub more_apart : (s t : List ℕ) → IsOneToken (piece Punctuator s) → IsSpelling t → length s + length t ≤ 1048576 →
    length s ≢ 1 → length s ≢ 2 → StaysApart s t
more_apart s t i h short n1 n2 =
    let some : 0 < length s = not_empty (piece Punctuator s) i in
    sign_apart s t i h short
    (λ to lt inside p. let few : to - 0 ≤ 3 = sign_short (s ++ t) 0 to inside p in omega arith)
    (λ e. absurd (n1 e)) (λ e. absurd (n1 e))

-- by kind

pub is_word : (kind : TokenKind) (s : List ℕ) → (kind ≡ Keyword) ⊎ (kind ≡ Identifier) → IsOneToken (piece kind s) → IsWord s 0 (0 + length s)
is_word kind s (inl e) i = let P : TokenKind → Type 0 = λ k. IsOneToken (piece k s) in (alone (piece Keyword s) (subst P e i)).spells.0
is_word kind s (inr e) i = let P : TokenKind → Type 0 = λ k. IsOneToken (piece k s) in (alone (piece Identifier s) (subst P e i)).spells.0

pub is_quote : (kind : TokenKind) (s : List ℕ) → (kind ≡ Character) ⊎ (kind ≡ Text) → IsOneToken (piece kind s) → IsQuote (slice_index s 0)
is_quote kind s (inl e) i = let P : TokenKind → Type 0 = λ k. IsOneToken (piece k s) in inl (alone (piece Character s) (subst P e i)).spells.open_quote
is_quote kind s (inr e) i = let P : TokenKind → Type 0 = λ k. IsOneToken (piece k s) in inr (alone (piece Text s) (subst P e i)).spells.1.open_quote
