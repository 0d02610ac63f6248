-- Fields: where they are cut, and the numbers that they spell.
use Rattle.std.proofs.Common.{◌≡◌, ◌≢◌, ℕ, ◌^◌, ◌<◌, List, [], ◌∷◌, ◌++◌, length, get_or, All, Result, Ok, Err, suc, refl, sym, ◌∙◌, ap, subst, arith}
use Rattle.std.specs.Fmt.{decimal}
use Rattle.std.specs.Str.{IsUtf8}
use Rattle.std.specs.Str.Parse.{AllDigits, ParsesUnsigned, digits_value}
use Rattle.std.proofs.lemmas.Fmt.{decimal_digit, decimal_nonempty, decimal-digits_value, first_decimal, parse-decimal, IsAscii-decimal}
use Rattle.std.proofs.lemmas.Str.{IsUtf8-from_ascii}
use Rattle.std.proofs.lemmas.Str.Parse.{IsNumeralModel, numerals_by_value, parse_plain, tells_digits}
use Rattle.cr_log.specs.Reading.{IsCut, IsPair, SpellsNone, StartsWithNumber}
use Rattle.cr_log.proofs.Lines.{decimal_free, same_cut, same_number}

-- a text with such a byte in it isn't free of it
none_in : (byte : ℕ) (front rest : List ℕ) → All (λ b. b ≢ byte) (front ++ byte ∷ rest) → ⊥
none_in byte [] rest free = free 0 0 (omega arith) refl
none_in byte (x ∷ front) rest free = none_in byte front rest (λ k d h. free (suc k) d (omega arith))

pub none_cut : (byte : ℕ) (text front rest : List ℕ) → All (λ b. b ≢ byte) text → text ≡ front ++ byte ∷ rest → ⊥
none_cut byte text front rest free is =
    let P : List ℕ → Type 0 = λ t. All (λ b. b ≢ byte) t in none_in byte front rest (subst P is free)

-- a number in digits has no plus, and no zero before other digits
pub decimal_unsigned : (field : List ℕ) (n : ℕ) → n < 2 ^ 64 → field ≡ decimal n → get_or field 0 0 ≢ 43
decimal_unsigned field n h is plus =
    decimal_free 43 n (omega arith) h 0 0 (decimal_nonempty n h) (ap (λ t. get_or t 0 0) (sym is) ∙ plus)

zero_unpadded : (n : ℕ) → n ≡ 0 → length (decimal n) ≡ 1
zero_unpadded n zero = ap (λ k. length (decimal k)) zero ∙ ap length (decimal_digit 0 (omega arith))

first_not_zero : (n : ℕ) → 0 < n → n < 2 ^ 64 → get_or (decimal n) 0 0 ≡ 48 → ⊥
first_not_zero n some h first = let above = first_decimal n some h in omega arith

unpadded : (n : ℕ) → n < 2 ^ 64 → get_or (decimal n) 0 0 ≡ 48 → length (decimal n) ≡ 1
unpadded n h first = zero_unpadded n (omega (arith, λ (some : 0 < n). first_not_zero n some h first))

pub decimal_unpadded : (field : List ℕ) (n : ℕ) → n < 2 ^ 64 → field ≡ decimal n → get_or field 0 0 ≡ 48 → length field ≡ 1
decimal_unpadded field n h is zero = ap length is ∙ unpadded n h (ap (λ t. get_or t 0 0) (sym is) ∙ zero)

pub decimal_utf8 : (field : List ℕ) (n : ℕ) → n < 2 ^ 64 → field ≡ decimal n → IsUtf8 field
decimal_utf8 field n h is = subst IsUtf8 (sym is) (IsUtf8-from_ascii (decimal n) (IsAscii-decimal n h))

own : IsNumeralModel (AllDigits 10) (digits_value 10)
own = numerals_by_value (AllDigits 10) tells_digits

parsed_text : (E : Type 0) (text : List ℕ) (n : ℕ) → get_or text 0 0 ≢ 43 → (get_or text 0 0 ≡ 48 → length text ≡ 1) → ParsesUnsigned {E = E} 64 10 text (Ok n) → text ≡ decimal n
parsed_text E text n unsigned padded h =
    let plain = parse_plain own {E = E} 64 text (Ok n) h unsigned in
    sym (decimal-digits_value own text plain.0.0 plain.0.1 padded plain.0.2) ∙ ap decimal (sym plain.1)

-- what a plain field parses to is the number that it spells
pub parsed : {E : Type 0} (field text : List ℕ) (n : ℕ) (r : Result ℕ E) → text ≡ field → get_or field 0 0 ≢ 43 → (get_or field 0 0 ≡ 48 → length field ≡ 1) → ParsesUnsigned 64 10 text r → r ≡ Ok n → field ≡ decimal n
parsed {E} field text n r same unsigned padded h is =
    let P : List ℕ → Type 0 = λ t. ParsesUnsigned {E = E} 64 10 t (Ok n) in
    let R : Result ℕ E → Type 0 = λ x. ParsesUnsigned 64 10 text x in
    parsed_text E field n unsigned padded (subst P same (subst R is h))

failed_text : {E : Type 0} (text : List ℕ) (e : E) → ParsesUnsigned {E = E} 64 10 text (Err e) → SpellsNone text
failed_text {E} text e h n fits is =
    let wrong : Err e ≡ Ok n = parse-decimal 64 n text (Err e) fits fits is h in cc

-- a field that doesn't parse spells no number
pub failed : {E : Type 0} (field text : List ℕ) (e : E) → text ≡ field → ParsesUnsigned {E = E} 64 10 text (Err e) → SpellsNone field
failed {E} field text e same h =
    let P : List ℕ → Type 0 = λ t. ParsesUnsigned {E = E} 64 10 t (Err e) in
    failed_text field e (subst P same h)

-- the field before the first space is the number that a text starts with
pub cut_number : (text before after : List ℕ) (n : ℕ) (rest : List ℕ) → IsCut 32 text before after → StartsWithNumber text n rest → before ≡ decimal n
cut_number text before after n rest p q =
    (same_cut 32 before (decimal n) after rest p.free (decimal_free 32 n (omega arith) q.fits) (sym p.is ∙ q.is)).0

-- a text starts with one number at most
pub same_start : (text : List ℕ) (m n : ℕ) (r s : List ℕ) → StartsWithNumber text m r → StartsWithNumber text n s → (m ≡ n) × (r ≡ s)
same_start text m n r s p q = same_number m n r s p.fits q.fits (sym p.is ∙ q.is)

pub pair_start : (text : List ℕ) (m n : ℕ) → IsPair text m n → StartsWithNumber text m (decimal n)
pair_start text m n p = record { fits = p.first_fits; is = p.is }
