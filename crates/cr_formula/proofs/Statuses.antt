-- Words that are statuses in decimal.
use Rattle.std.proofs.Common.{◌≡◌, ◌≢◌, ℕ, zero, suc, ◌+◌, ◌^◌, ◌<◌, ◌≤◌, List, [], ◌∷◌, length, get_or, Result, Ok, Err, refl, sym, ◌∙◌, ap, subst, arith}
use Rattle.std.specs.Fmt.{decimal}
use Rattle.std.specs.Str.{IsUtf8}
use Rattle.std.specs.Str.Parse.{AllDigits, ParsesUnsigned, digits_value}
use Rattle.std.proofs.lemmas.Fmt.{decimal_digit, decimal-digits_value, first_decimal, parse-decimal, IsAscii-decimal}
use Rattle.std.proofs.lemmas.Str.{IsUtf8-from_ascii}
use Rattle.std.proofs.lemmas.Str.Parse.{IsNumeralModel, numerals_by_value, parse_plain, tells_digits}
use Rattle.cr_formula.specs.Forms.{SpellsNoStatus}

zero_is : (n : ℕ) → n ≡ 0 → decimal n ≡ 48 ∷ []
zero_is n none = ap decimal none ∙ decimal_digit 0 (omega arith)

first_high : (n : ℕ) → n ≤ 255 → 48 ≤ get_or (decimal n) 0 0
first_high zero low =
    let is : get_or (decimal 0) 0 0 ≡ 48 = ap (λ (t : List ℕ). get_or t 0 0) (zero_is 0 refl) in
    omega arith
first_high (suc k) low =
    let above : 48 < get_or (decimal (suc k)) 0 0 = first_decimal (suc k) (omega arith) (omega arith) in
    omega arith

alone : (n : ℕ) → n ≤ 255 → get_or (decimal n) 0 0 ≡ 48 → length (decimal n) ≡ 1
alone zero low first = ap (λ (t : List ℕ). length t) (zero_is 0 refl)
alone (suc k) low first =
    let above : 48 < get_or (decimal (suc k)) 0 0 = first_decimal (suc k) (omega arith) (omega arith) in
    absurd (let no : ⊥ = omega (arith, above, first) in no)

-- a number in decimal has no plus, and no zero before other digits
pub status_unsigned : (word : List ℕ) (n : ℕ) → n ≤ 255 → word ≡ decimal n → get_or word 0 0 ≢ 43
status_unsigned word n low is plus =
    let first : get_or (decimal n) 0 0 ≡ 43 = ap (λ (t : List ℕ). get_or t 0 0) (sym is) ∙ plus in
    let high : 48 ≤ get_or (decimal n) 0 0 = first_high n low in
    omega (arith, first, high)

pub status_unpadded : (word : List ℕ) (n : ℕ) → n ≤ 255 → word ≡ decimal n → get_or word 0 0 ≡ 48 → length word ≡ 1
status_unpadded word n low is first =
    ap (λ (t : List ℕ). length t) is ∙ alone n low (ap (λ (t : List ℕ). get_or t 0 0) (sym is) ∙ first)

pub status_utf8 : (word : List ℕ) (n : ℕ) → n ≤ 255 → word ≡ decimal n → IsUtf8 word
status_utf8 word n low is = subst IsUtf8 (sym is) (IsUtf8-from_ascii (decimal n) (IsAscii-decimal n (omega arith)))

own : IsNumeralModel (AllDigits 10) (digits_value 10)
own = numerals_by_value (AllDigits 10) tells_digits

parsed_text : (E : Type 0) (text : List ℕ) (n : ℕ) → get_or text 0 0 ≢ 43 → (get_or text 0 0 ≡ 48 → length text ≡ 1) → ParsesUnsigned {E = E} 8 10 text (Ok n) → text ≡ decimal n
parsed_text E text n unsigned padded h =
    let plain = parse_plain own {E = E} 8 text (Ok n) h unsigned in
    sym (decimal-digits_value own text plain.0.0 plain.0.1 padded (omega (arith, plain.0.2))) ∙ ap decimal (sym plain.1)

-- what a plain word parses to is the number that it spells
pub parsed : {E : Type 0} (word text : List ℕ) (n : ℕ) (r : Result ℕ E) → text ≡ word → get_or word 0 0 ≢ 43 → (get_or word 0 0 ≡ 48 → length word ≡ 1) → ParsesUnsigned 8 10 text r → r ≡ Ok n → word ≡ decimal n
parsed {E} word text n r same unsigned padded h is =
    let P : List ℕ → Type 0 = λ t. ParsesUnsigned {E = E} 8 10 t (Ok n) in
    let R : Result ℕ E → Type 0 = λ x. ParsesUnsigned 8 10 text x in
    parsed_text E word n unsigned padded (subst P same (subst R is h))

failed_text : {E : Type 0} (text : List ℕ) (e : E) → ParsesUnsigned {E = E} 8 10 text (Err e) → SpellsNoStatus text
failed_text {E} text e h n low is =
    let wrong : Err e ≡ Ok n = parse-decimal 8 n text (Err e) (omega arith) (omega arith) is h in cc

-- a word that doesn't parse spells no status
pub failed : {E : Type 0} (word text : List ℕ) (e : E) → text ≡ word → ParsesUnsigned {E = E} 8 10 text (Err e) → SpellsNoStatus word
failed {E} word text e same h =
    let P : List ℕ → Type 0 = λ t. ParsesUnsigned {E = E} 8 10 t (Err e) in
    failed_text word e (subst P same h)
