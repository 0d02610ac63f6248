-- The longest punctuator at a place is what three bytes begin with.
use Rattle.std.proofs.Common.{◌≡◌, ◌≢◌, ◌⊎◌, inl, inr, ℕ, ◌+◌, ◌-◌, ◌≤◌, ◌<◌, length, List, [], ◌∷◌, refl, sym, arith, true, false, not, Bool}
use Rattle.std.specs.Prelude.{slice_index, slice_range, nat_le, ◌&&◌, ◌==◌, if◌then◌else◌}
use Rattle.std.proofs.lemmas.Bool.{cases_eq, leb-true, eq-eqb}
use Rattle.cr_tokens.specs.declared.token.Token.{Token}
use Rattle.cr_tokens.specs.declared.token.TokenKind.TheVariants.{Punctuator}
use Rattle.cr_tokens.specs.Bytes.{is_among, IsNondigit}
use Rattle.cr_tokens.specs.Numbers.{BeginsNumber}
use Rattle.cr_tokens.specs.Blanks.{IsSplice, OpensComment}
use Rattle.cr_tokens.specs.Tokens.{IsToken}
use Rattle.cr_tokens.specs.Tokens.IsLexeme.{word, number, character, text, punctuator}
use Rattle.cr_tokens.specs.Faults.{IsQuote}
use Rattle.cr_tokens.specs.Punctuators.{IsPunctuator, punctuators, punctuator_len}
use Rattle.cr_tokens.proofs.Tables.{is_among-all}
use Rattle.cr_tokens.proofs.Ranges.{slice_range-length, slice_range-one, slice_range-two, slice_range-three}
use Rattle.cr_tokens.proofs.Longest.{byte_inside}

-- whether the bytes from `at` on are a punctuator of one, two or three bytes
pub One : List ℕ → ℕ → Bool
One file at = is_among punctuators (slice_index file at ∷ [])

pub Two : List ℕ → ℕ → Bool
Two file at = is_among punctuators (slice_index file at ∷ slice_index file (at + 1) ∷ [])

pub Three : List ℕ → ℕ → Bool
Three file at = is_among punctuators (slice_index file at ∷ slice_index file (at + 1) ∷ slice_index file (at + 2) ∷ [])

not_zero : (b : ℕ) → not (b == 0) ≡ true → b ≢ 0
not_zero b h e = let zero : (b == 0) ≡ true = eq-eqb b 0 e in let none : not true ≡ true = rw zero at h in cc

-- the last byte of a punctuator isn't 0
two_inside : (file : List ℕ) (at : ℕ) → Two file at ≡ true → at + 1 < length file
unfolding Two
two_inside file at h = byte_inside file (at + 1) (not_zero (slice_index file (at + 1))
    (is_among-all (λ s. not (nat_le 2 (length s) && slice_index s 1 == 0)) punctuators (slice_index file at ∷ slice_index file (at + 1) ∷ []) h refl))

three_inside : (file : List ℕ) (at : ℕ) → Three file at ≡ true → at + 2 < length file
unfolding Three
three_inside file at h = byte_inside file (at + 2) (not_zero (slice_index file (at + 2))
    (is_among-all (λ s. not (nat_le 3 (length s) && slice_index s 2 == 0)) punctuators
    (slice_index file at ∷ slice_index file (at + 1) ∷ slice_index file (at + 2) ∷ []) h refl))

pub data Found (file : List ℕ) (at to : ℕ) : Type 0 where
  one : to ≡ at + 1 → One file at ≡ true → Found file at to
  two : to ≡ at + 2 → Two file at ≡ true → Found file at to
  three : to ≡ at + 3 → Three file at ≡ true → Found file at to

short : (file : List ℕ) (at to : ℕ) → to ≤ length file → IsPunctuator file at to → to - at ≤ 3
short file at to h p =
    let few : nat_le (length (slice_range file at to)) 3 ≡ true =
    is_among-all (λ s. nat_le (length s) 3) punctuators (slice_range file at to) p refl in
    let size : length (slice_range file at to) ≡ to - at = slice_range-length file at to h in
    leb-true (to - at) 3 (rw size at few)

-- a punctuator has one, two or three bytes
pub punctuator-Found : (file : List ℕ) (at to : ℕ) → at < to → to ≤ length file → IsPunctuator file at to → Found file at to
unfolding One Two Three
punctuator-Found file at to lt inside p =
    let few : to - at ≤ 3 = short file at to inside p in
    elim (cases_eq to (at + 1)) [
      | inl e ↦
          let bytes : slice_range file at (at + 1) ≡ slice_index file at ∷ [] = slice_range-one file at (omega arith) in
          one e (rw bytes at (rw e at p))
      | inr n ↦ elim (cases_eq to (at + 2)) [
        | inl e ↦
            let bytes : slice_range file at (at + 2) ≡ slice_index file at ∷ slice_index file (at + 1) ∷ [] =
            slice_range-two file at (omega arith) in
            two e (rw bytes at (rw e at p))
        | inr m ↦
            let e : to ≡ at + 3 = omega arith in
            let bytes : slice_range file at (at + 3) ≡ slice_index file at ∷ slice_index file (at + 1) ∷ slice_index file (at + 2) ∷ [] =
            slice_range-three file at (omega arith) in
            three e (rw bytes at (rw e at p))
      ]
    ]

-- what the length of the longest punctuator says
pub record Longest (file : List ℕ) (at len : ℕ) : Type 0 where
  pub inside : at + len ≤ length file
  pub punctuator : IsPunctuator file at (at + len)
  pub longest : (to : ℕ) → at + len < to → ¬ Found file at to

choice : (file : List ℕ) (at len : ℕ) (b3 b2 b1 : Bool) → at < length file → b3 ≡ Three file at → b2 ≡ Two file at → b1 ≡ One file at →
    len ≡ (if b3 then 3 else (if b2 then 2 else (if b1 then 1 else 0))) →
    ((len ≡ 0) × ((to : ℕ) → ¬ Found file at to)) ⊎ (((0 < len) × (len ≤ 3)) × Longest file at len)
unfolding One Two Three
choice file at len true b2 b1 h e3 e2 e1 e = inr (
  (omega arith, omega arith),
  rw e record {
    inside = omega (arith, three_inside file at (sym e3));
    punctuator = rw (slice_range-three file at (three_inside file at (sym e3))) (sym e3);
    longest = λ to lt f. elim f [ one x y ↦ omega arith | two x y ↦ omega arith | three x y ↦ omega arith ];
  },
)
choice file at len false true b1 h e3 e2 e1 e = inr (
  (omega arith, omega arith),
  rw e record {
    inside = omega (arith, two_inside file at (sym e2));
    punctuator = rw (slice_range-two file at (two_inside file at (sym e2))) (sym e2);
    longest = λ to lt f. elim f [ one x y ↦ omega arith | two x y ↦ omega arith | three x y ↦ cc ];
  },
)
choice file at len false false true h e3 e2 e1 e = inr (
  (omega arith, omega arith),
  rw e record {
    inside = omega arith;
    punctuator = rw (slice_range-one file at h) (sym e1);
    longest = λ to lt f. elim f [ one x y ↦ omega arith | two x y ↦ cc | three x y ↦ cc ];
  },
)
choice file at len false false false h e3 e2 e1 e =
    inl (e, λ to f. elim f [ one x y ↦ cc | two x y ↦ cc | three x y ↦ cc ])

pub punctuator_len-says : (file : List ℕ) (at len : ℕ) → at < length file →
    len ≡ punctuator_len (slice_index file at) (slice_index file (at + 1)) (slice_index file (at + 2)) →
    ((len ≡ 0) × ((to : ℕ) → ¬ Found file at to)) ⊎ (((0 < len) × (len ≤ 3)) × Longest file at len)
unfolding One Two Three
punctuator_len-says file at len h e = choice file at len (Three file at) (Two file at) (One file at) h refl refl refl e

-- a punctuator that is read to its end is a token
pub punctuator_IsToken : (file : List ℕ) (at len : ℕ) → Longest file at len → 0 < len →
    ¬ IsNondigit (slice_index file at) → ¬ BeginsNumber file at → ¬ IsQuote (slice_index file at) →
    ¬ OpensComment file at → ¬ IsSplice file at →
    IsToken file (record { kind = Punctuator; start = at; end = at + len })
punctuator_IsToken file at len l some w n q c s = record {
  not_empty = omega arith;
  inside = l.inside;
  spells = l.punctuator;
  longest = λ to lt inside x. elim x [
    | word y ↦ w y.first
    | number y ↦ n y.first
    | character m y ↦ q (inl y.open_quote)
    | text m y ↦ q (inr y.open_quote)
    | punctuator y ↦ l.longest to lt (punctuator-Found file at to (omega arith) inside y)
  ];
  no_comment = c;
  no_splice = s;
}

-- a spliced line is no token
pub splice_no_token : (file : List ℕ) (at : ℕ) → IsSplice file at → (t : Token) → t.start ≡ at → ¬ IsToken file t
splice_no_token file at s t e h = h.no_splice (rw e s)
