-- The quick test of two spellings says whether they stay apart, so tokens joined by it are what they print as.
use native.Mathlib.Omega.{arith}
use Rattle.std.proofs.Common.{◌≡◌, ◌≢◌, ◌⊎◌, inl, inr, ℕ, ◌+◌, ◌-◌, ◌≤◌, ◌<◌, List, [], ◌∷◌, ◌++◌, length, true, false, not, Bool, ◌==◌, if◌then◌else◌, refl, sym, ◌∙◌, ap, subst, length-append}
use Rattle.std.specs.Prelude.{slice_index, slice_range, IsTrue, ◌↔◌, All, nat_eq, nat_le, ◌&&◌, ◌||◌}
use Rattle.std.specs.Bool.{Decides}
use Rattle.std.proofs.lemmas.Bool.{cases_eq, le-leb, leb-true}
use Rattle.std.proofs.lemmas.Bool.Decides.{Decides-and, Decides-eqb, Decides-like, Decides-or}
use Rattle.std.proofs.lemmas.List.{append-nil}
use Rattle.std.proofs.lemmas.List.Elements.{All-head, All-tail}
use Rattle.cr_tokens.specs.declared.number.Base.{Base}
use Rattle.cr_tokens.specs.declared.number.Base.TheVariants.{Decimal}
use Rattle.cr_tokens.specs.declared.token.TokenKind.{TokenKind}
use Rattle.cr_tokens.specs.declared.token.TokenKind.TheVariants.{Keyword, Identifier, Integer, Character, Text, Punctuator}
use Rattle.cr_tokens.specs.Bytes.{IsDigit, IsNondigit, IsWordByte, is_among}
use Rattle.cr_tokens.specs.Faults.{IsQuote}
use Rattle.cr_tokens.specs.Numbers.{IsInteger, IsIntegerOf, base_of, body_of}
use Rattle.cr_tokens.specs.Places.{StaysApart}
use Rattle.cr_tokens.specs.Punctuators.{punctuators}
use Rattle.cr_tokens.specs.Words.{IsWord}
use Rattle.cr_tokens.proofs.Firsts.{punctuator_no_other}
use Rattle.cr_tokens.proofs.Ranges.{slice_range-at}
use Rattle.pass_edit.specs.Forms.{after, joined as joined_all}
use Rattle.pass_edit.specs.Glue.{first_byte, is_word_byte, last_byte}
use Rattle.pass_edit.specs.Space.{goes_on, grows, is_digit, needs_space, sign_grows}
use Rattle.cr_printer.specs.Pieces.{Piece, IsOneToken, spellings_of}
use Rattle.cr_printer.specs.Seams.{IsSpelling}
use Rattle.cr_printer.specs.Text.{Prints}
use Rattle.cr_printer.specs.Text.Prints.{nothing, last, joined, spaced}
use Rattle.cr_printer.proofs.Alone.{alone, not_empty}
use Rattle.cr_printer.proofs.Apart.{GoesOn, Grows, piece, turns, is_word, is_quote, word_joined, word_apart, number_joined, number_apart, literal_apart, one_joined, one_apart, two_joined, two_apart, more_apart}
use Rattle.cr_printer.proofs.Neighbours.{prints_one_text}

-- ---- the bytes at the seam

first_at : (s : List ℕ) → first_byte s ≡ slice_index s 0
first_at [] = refl
first_at (b ∷ bs) = refl

last_of : (b : ℕ) (bs : List ℕ) → last_byte (b ∷ bs) ≡ slice_index (b ∷ bs) (length bs)
last_of b [] = refl
last_of b (c ∷ bs) = last_of c bs

last_at : (s : List ℕ) → 0 < length s → last_byte s ≡ slice_index s (length s - 1)
last_at [] some = absurd (omega (arith, some))
last_at (b ∷ bs) some = let same : length (b ∷ bs) - 1 ≡ length bs = omega arith in last_of b bs ∙ ap (slice_index (b ∷ bs)) (sym same)

-- ---- what the tests of bytes decide

le_decides : (a b : ℕ) → Decides (nat_le a b) (a ≤ b)
le_decides a b = (leb-true a b, le-leb a b)

digit_decides : (b : ℕ) → Decides (is_digit b) (IsDigit b)
digit_decides b = Decides-and (nat_le 48 b) (nat_le b 57) (le_decides 48 b) (le_decides b 57)

-- an or of three and of four tests decides one of as many facts
module _ {P Q R : Type 0} where
  or_three : (x y z : Bool) → Decides x P → Decides y Q → Decides z R → Decides (x || y || z) (P ⊎ Q ⊎ R)
  or_three x y z p q r = Decides-like (x || y || z)
      (λ e. elim e [ inl f ↦ elim f [ inl g ↦ inl g | inr g ↦ inr (inl g) ] | inr f ↦ inr (inr f) ])
      (λ e. elim e [ inl f ↦ inl (inl f) | inr f ↦ elim f [ inl g ↦ inl (inr g) | inr g ↦ inr g ] ])
      (Decides-or (x || y) z (Decides-or x y p q) r)

or_four : {P Q R S : Type 0} (x y z w : Bool) → Decides x P → Decides y Q → Decides z R → Decides w S → Decides (x || y || z || w) (P ⊎ Q ⊎ R ⊎ S)
or_four x y z w p q r s = Decides-like (x || y || z || w)
    (λ e. elim e [ inl f ↦ elim f [ inl g ↦ inl g | inr g ↦ elim g [ inl h ↦ inr (inl h) | inr h ↦ inr (inr (inl h)) ] ] | inr f ↦ inr (inr (inr f)) ])
    (λ e. elim e [ inl f ↦ inl (inl f) | inr f ↦ elim f [ inl g ↦ inl (inr (inl g)) | inr g ↦ elim g [ inl h ↦ inl (inr (inr h)) | inr h ↦ inr h ] ] ])
    (Decides-or (x || y || z) w (or_three x y z p q r) s)

word_decides : (b : ℕ) → Decides (is_word_byte b) (IsWordByte b)
word_decides b =
    let lower = Decides-and (nat_le 97 b) (nat_le b 122) (le_decides 97 b) (le_decides b 122) in
    let upper = Decides-and (nat_le 65 b) (nat_le b 90) (le_decides 65 b) (le_decides b 90) in
    Decides-like (is_word_byte b)
    (λ x. elim x [
      | inl l ↦ inl (inl l)
      | inr y ↦ elim y [ inl u ↦ inl (inr (inl u)) | inr z ↦ elim z [ inl d ↦ inr d | inr e ↦ inl (inr (inr e)) ] ]
    ])
    (λ x. elim x [
      | inl n ↦ elim n [ inl l ↦ inl l | inr y ↦ elim y [ inl u ↦ inr (inl u) | inr e ↦ inr (inr (inr e)) ] ]
      | inr d ↦ inr (inr (inl d))
    ])
    (or_four (nat_le 97 b && nat_le b 122) (nat_le 65 b && nat_le b 90) (nat_le 48 b && nat_le b 57) (nat_eq b 95) lower upper (digit_decides b) (Decides-eqb b 95))

goes_decides : (front next : ℕ) → Decides (goes_on front next) (GoesOn front next)
goes_decides front next =
    or_three (is_word_byte next) (next == 46) _ (word_decides next) (Decides-eqb next 46)
    (Decides-and (next == 43 || next == 45) _ (Decides-or (next == 43) (next == 45) (Decides-eqb next 43) (Decides-eqb next 45))
    (or_four (front == 101) (front == 69) (front == 112) (front == 80) (Decides-eqb front 101) (Decides-eqb front 69) (Decides-eqb front 112) (Decides-eqb front 80)))

grows_decides : (sign next behind : ℕ) → Decides (grows sign next behind) (Grows sign next behind)
grows_decides sign next behind =
    or_three (is_among punctuators (sign ∷ next ∷ [])) (sign == 46 && (is_digit next || (next == 46 && behind == 46))) (sign == 47 && (next == 47 || next == 42))
    (λ e. e, λ e. e)
    (Decides-and (sign == 46) _ (Decides-eqb sign 46) (Decides-or (is_digit next) _ (digit_decides next)
    (Decides-and (next == 46) (behind == 46) (Decides-eqb next 46) (Decides-eqb behind 46))))
    (Decides-and (sign == 47) _ (Decides-eqb sign 47) (Decides-or (next == 47) (next == 42) (Decides-eqb next 47) (Decides-eqb next 42)))

fails : {P : Type 0} (b : Bool) → Decides b P → ¬ P → b ≡ false
fails true d none = absurd (none (d.0 refl))
fails false d none = refl

-- ---- what the first byte says

of_word : (s t : List ℕ) → is_digit (first_byte s) ≡ false → is_word_byte (first_byte s) ≡ true → needs_space s t ≡ is_word_byte (first_byte t)
unfolding needs_space
of_word s t digit word = rw (word, digit) refl

of_number : (s t : List ℕ) → is_digit (first_byte s) ≡ true → needs_space s t ≡ goes_on (last_byte s) (first_byte t)
unfolding needs_space
of_number s t digit = rw digit refl

of_quote : (s t : List ℕ) → IsQuote (first_byte s) → needs_space s t ≡ false
unfolding needs_space
of_quote s t (inl e) = rw e refl
of_quote s t (inr e) = rw e refl

of_sign : (s t : List ℕ) → is_digit (first_byte s) ≡ false → is_word_byte (first_byte s) ≡ false → (first_byte s == 34 || first_byte s == 39) ≡ false →
    needs_space s t ≡ sign_grows s t
unfolding needs_space
of_sign s t digit word quote = rw (word, digit, quote) refl

-- an integer constant begins with a digit
no_dot : (spelling : List ℕ) → slice_index spelling 0 ≡ 46 → ¬ IsInteger spelling
no_dot spelling e (count, is) =
    let decimal : base_of spelling ≡ Decimal = rw e refl in
    let body : IsIntegerOf Decimal spelling count = subst (λ (b : Base). IsIntegerOf b (body_of b spelling) count) decimal is in
    let digit : IsDigit (slice_index spelling 0) = body.digits 0 (omega arith) body.some in
    omega (arith, digit.0, e)

first_digit : (s : List ℕ) → IsOneToken (piece Integer s) → IsDigit (slice_index s 0)
first_digit s i =
    let some : 0 < length s = not_empty (piece Integer s) i in
    let one = alone (piece Integer s) i in
    elim one.spells.0.first [
      | inl digit ↦ digit
      | inr dot ↦ absurd (no_dot (slice_range s 0 (0 + length s)) (slice_range-at s 0 (0 + length s) 0 (omega arith) ∙ dot.0) one.spells.1)
    ]

-- ---- by the kind of the first

for_word : (s t : List ℕ) → IsWord s 0 (0 + length s) → IsSpelling t → length s + length t ≤ 1048576 → IsTrue (not (needs_space s t)) ↔ StaysApart s t
for_word s t w h short =
    let letter : IsNondigit (first_byte s) = subst IsNondigit (sym (first_at s)) w.first in
    let digit = fails (is_digit (first_byte s)) (digit_decides (first_byte s)) (λ d. omega (arith, letter, d)) in
    let word = (word_decides (first_byte s)).1 (inl letter) in
    subst (λ (b : Bool). IsTrue (not b) ↔ StaysApart s t) (sym (of_word s t digit word ∙ ap is_word_byte (first_at t)))
    (turns (is_word_byte (slice_index t 0)) (word_decides (slice_index t 0)) (word_joined s t w h) (word_apart s t w h short))

for_number : (s t : List ℕ) → IsOneToken (piece Integer s) → IsSpelling t → length s + length t ≤ 1048576 → IsTrue (not (needs_space s t)) ↔ StaysApart s t
for_number s t i h short =
    let digit = (digit_decides (first_byte s)).1 (subst IsDigit (sym (first_at s)) (first_digit s i)) in
    let end = last_at s (not_empty (piece Integer s) i) in
    subst (λ (b : Bool). IsTrue (not b) ↔ StaysApart s t) (sym (of_number s t digit ∙ rw (end, first_at t) refl))
    (turns (goes_on (slice_index s (length s - 1)) (slice_index t 0)) (goes_decides (slice_index s (length s - 1)) (slice_index t 0)) (number_joined s t i h) (number_apart s t i h short))

no_space : (s t : List ℕ) → needs_space s t ≡ false → StaysApart s t → IsTrue (not (needs_space s t)) ↔ StaysApart s t
no_space s t none apart = (λ _. apart, λ _. rw none refl)

for_quote : (kind : TokenKind) (s t : List ℕ) → IsOneToken (piece kind s) → IsQuote (slice_index s 0) → IsSpelling t → length s + length t ≤ 1048576 →
    IsTrue (not (needs_space s t)) ↔ StaysApart s t
for_quote kind s t i q h short = no_space s t (of_quote s t (subst IsQuote (sym (first_at s)) q)) (literal_apart kind s t i q h short)

-- a punctuator, by its length
by_length : (s t : List ℕ) → IsOneToken (piece Punctuator s) → IsSpelling t → length s + length t ≤ 1048576 → IsTrue (not (sign_grows s t)) ↔ StaysApart s t
by_length s t i h short = elim (cases_eq (length s) 1) [
  | inl one ↦
      let test : (length s == 1) ≡ true = ap (λ n. n == 1) one in
      let same : sign_grows s t ≡ grows (slice_index s 0) (slice_index t 0) (slice_index t 1) = rw test refl in
      subst (λ (b : Bool). IsTrue (not b) ↔ StaysApart s t) (sym same)
      (turns (grows (slice_index s 0) (slice_index t 0) (slice_index t 1)) (grows_decides (slice_index s 0) (slice_index t 0) (slice_index t 1))
      (one_joined s t i h one) (one_apart s t i h short one))
  | inr more ↦ longer more (cases_eq (length s) 2)
]
  where
    longer : length s ≢ 1 → (length s ≡ 2) ⊎ (length s ≢ 2) → IsTrue (not (sign_grows s t)) ↔ StaysApart s t
    longer more (inl two) =
        let first : (length s == 1) ≡ false = ap (λ n. n == 1) two in
        let second : (length s == 2) ≡ true = ap (λ n. n == 2) two in
        let same : sign_grows s t ≡ is_among punctuators (slice_index s 0 ∷ slice_index s 1 ∷ slice_index t 0 ∷ []) = rw (first, second) refl in
        subst (λ (b : Bool). IsTrue (not b) ↔ StaysApart s t) (sym same)
        (turns (is_among punctuators (slice_index s 0 ∷ slice_index s 1 ∷ slice_index t 0 ∷ [])) (λ e. e, λ e. e)
        (two_joined s t h two) (two_apart s t i h short two))
    longer more (inr other) =
        let first : (length s == 1) ≡ false = fails (length s == 1) (Decides-eqb (length s) 1) more in
        let second : (length s == 2) ≡ false = fails (length s == 2) (Decides-eqb (length s) 2) other in
        let same : sign_grows s t ≡ false = rw (first, second) refl in
        (λ _. more_apart s t i h short more other, λ _. rw same refl)

for_sign : (s t : List ℕ) → IsOneToken (piece Punctuator s) → IsSpelling t → length s + length t ≤ 1048576 → IsTrue (not (needs_space s t)) ↔ StaysApart s t
for_sign s t i h short =
    let some : 0 < length s = not_empty (piece Punctuator s) i in
    let b = first_byte s in
    let other : ¬ (IsWordByte b ⊎ IsQuote b) = subst (λ x. ¬ (IsWordByte x ⊎ IsQuote x)) (sym (first_at s))
    (punctuator_no_other s 0 (0 + length s) (omega arith) (alone (piece Punctuator s) i).spells) in
    let digit = fails (is_digit b) (digit_decides b) (λ d. other (inl (inr d))) in
    let word = fails (is_word_byte b) (word_decides b) (λ w. other (inl w)) in
    let quote = fails (b == 34 || b == 39) (Decides-or (b == 34) (b == 39) (Decides-eqb b 34) (Decides-eqb b 39))
    (λ q. elim q [ inl e ↦ other (inr (inr e)) | inr e ↦ other (inr (inl e)) ]) in
    subst (λ (x : Bool). IsTrue (not x) ↔ StaysApart s t) (sym (of_sign s t digit word quote)) (by_length s t i h short)

pub apart_without_space : (s t : List ℕ) → IsSpelling s → IsSpelling t → length s + length t ≤ 1048576 → IsTrue (not (needs_space s t)) ↔ StaysApart s t
apart_without_space s t (Keyword, i) h short = for_word s t (is_word Keyword s (inl refl) i) h short
apart_without_space s t (Identifier, i) h short = for_word s t (is_word Identifier s (inr refl) i) h short
apart_without_space s t (Integer, i) h short = for_number s t i h short
apart_without_space s t (Character, i) h short = for_quote Character s t i (is_quote Character s (inl refl) i) h short
apart_without_space s t (Text, i) h short = for_quote Text s t i (is_quote Text s (inr refl) i) h short
apart_without_space s t (Punctuator, i) h short = for_sign s t i h short

-- ---- texts

abbrev gap : Bool → List ℕ
gap space = if space then 32 ∷ [] else []

-- a text behind a spelling, with its space
with_gap : (space : Bool) (s t rest : List ℕ) (ts : List (List ℕ)) → IsTrue (not space) ↔ StaysApart s t → Prints (t ∷ ts) (t ++ rest) →
    Prints (s ∷ t ∷ ts) (s ++ ((gap space ++ t) ++ rest))
with_gap true s t rest ts is prints = spaced (λ apart. let none : false ≡ true = is.1 apart in cc) prints
with_gap false s t rest ts is prints = joined (is.0 refl) prints

-- two spellings are no longer than the text that they stand in
pair_short : (space : Bool) (s t rest : List ℕ) → length (s ++ ((gap space ++ t) ++ rest)) ≤ 1048576 → (length s + length t ≤ 1048576) × (length (t ++ rest) ≤ 1048576)
pair_short true s t rest short =
    let few : length (s ++ 32 ∷ (t ++ rest)) ≤ 1048576 = short in
    let all : length (s ++ 32 ∷ (t ++ rest)) ≡ length s + (length (t ++ rest) + 1) = length-append s (32 ∷ (t ++ rest)) ∙ (omega arith) in
    let some : length (t ++ rest) ≡ length t + length rest = length-append t rest in
    (omega (arith, all, some, few), omega (arith, all, few))
pair_short false s t rest short =
    let few : length (s ++ (t ++ rest)) ≤ 1048576 = short in
    let all : length (s ++ (t ++ rest)) ≡ length s + length (t ++ rest) = length-append s (t ++ rest) in
    let some : length (t ++ rest) ≡ length t + length rest = length-append t rest in
    (omega (arith, all, some, few), omega (arith, all, few))

joined_prints : (ps : List Piece) → All IsOneToken ps → length (joined_all (spellings_of ps)) ≤ 1048576 → Prints (spellings_of ps) (joined_all (spellings_of ps))
joined_prints [] all short = nothing
joined_prints (p ∷ []) all short = subst (Prints (p.spelling ∷ [])) (sym (append-nil p.spelling)) last
joined_prints (p ∷ q ∷ ps) all short =
    let s = p.spelling in
    let t = q.spelling in
    let few = pair_short (needs_space s t) s t (after t (spellings_of ps)) short in
    let rest = All-tail IsOneToken p (q ∷ ps) all in
    let first : IsSpelling s = (p.kind, All-head IsOneToken p (q ∷ ps) all) in
    let second : IsSpelling t = (q.kind, All-head IsOneToken q ps rest) in
    with_gap (needs_space s t) s t (after t (spellings_of ps)) (spellings_of ps)
    (apart_without_space s t first second few.0) (joined_prints (q ∷ ps) rest few.1)

pub joined_is_printed : (ps : List Piece) (text : List ℕ) → All IsOneToken ps → length (joined_all (spellings_of ps)) ≤ 1048576 →
    Prints (spellings_of ps) text ↔ (text ≡ joined_all (spellings_of ps))
joined_is_printed ps text all short =
    let prints = joined_prints ps all short in
    (λ is. prints_one_text (spellings_of ps) text (joined_all (spellings_of ps)) is prints, λ e. subst (Prints (spellings_of ps)) (sym e) prints)
