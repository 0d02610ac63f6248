-- An integer constant of a file's tokens lies below the limit of its list, so the last type of that has its value.
use Rattle.std.proofs.Common.{◌≡◌, ℕ, zero, suc, ◌+◌, ◌-◌, ◌⊎◌, ◌<◌, ◌≤◌, ◌==◌, ◌||◌, ◌&&◌, ◌^◌, not, inl, inr, Bool, true, false, cond, List, [], ◌∷◌, Option, None, Some, length, drop, take, nat_lt, refl, sym, ap, subst, ◌∙◌, if◌then◌else◌, arith}
use Rattle.std.specs.Prelude.{nat_le, slice_index}
use Rattle.std.specs.List.{find, list_any, count_by, prefix_len}
use Rattle.std.specs.Option.{option_or, is_some}
use Rattle.std.proofs.lemmas.Bool.{false≢true, and_from, cases_lt, lt-ltb, le-ltb, le-leb, or_from, or_left, or_right}
use Rattle.std.proofs.lemmas.List.{get_or_past, get_or-drop, length-drop, take_all}
use Rattle.cr_ints.specs.declared.kind.IntKind.{IntKind}
use Rattle.cr_ints.specs.declared.kind.IntKind.TheVariants.{Int, Long, LLong, ULLong}
use Rattle.cr_tokens.specs.declared.number.Base.{Base}
use Rattle.cr_tokens.specs.declared.number.Base.TheVariants.{Decimal, Octal, Hexadecimal}
use Rattle.cr_tokens.specs.Bytes.{IsHexDigit}
use Rattle.cr_tokens.specs.Numbers.{number_of, base_of, body_of, radix_of, is_unsigned, IsDigitOf, IsIntegerOf, limit_of, suffixes}
use Rattle.cr_tokens.proofs.Tables.{is_among-all}
use Rattle.cr_check_constants.specs.declared.constant.Operand.{Operand}
use Rattle.cr_check_constants.specs.Literals.{is_long_letter, is_suffix_letter, before, digits_of, magnitude_of, reaches, first_sign, first_kind, valued}
use Rattle.cr_check_constant_values.specs.Spelled.Laws
use Rattle.cr_check_constant_values.proofs.SpelledLemmas.Characters.{other}

-- ---- digits end where the suffix begins

-- what stands before the first that passes a test
cut : (p : ℕ → Bool) (xs : List ℕ) (n : ℕ) → ((k : ℕ) → k < n → p (slice_index xs k) ≡ false) → n ≤ length xs → (n < length xs → p (slice_index xs n) ≡ true) → prefix_len (λ x. not (p x)) xs ≡ n
cut p [] zero none le stop = refl
cut p [] (suc n) none le stop = absurd (omega (arith, le))
cut p (x ∷ xs) zero none le stop = ap (λ b. cond (not b) (1 + prefix_len (λ x. not (p x)) xs) 0) (stop (omega arith))
cut p (x ∷ xs) (suc n) none le stop =
    let rest = cut p xs n (λ k less. none (suc k) (omega (arith, less))) (omega (arith, le)) (λ less. stop (omega (arith, less))) in
    ap (λ b. cond (not b) (1 + prefix_len (λ x. not (p x)) xs) 0) (none 0 (omega arith)) ∙ omega (arith, rest)

abbrev is_hex : ℕ → Bool
is_hex x = (nat_le 48 x && nat_le x 57) || ((nat_le 65 x && nat_le x 70) || (nat_le 97 x && nat_le x 102))

hex_letter : (b : ℕ) → IsHexDigit b → is_suffix_letter b ≡ false
hex_letter b h = or_from (is_long_letter b) (b == 117 || b == 85) (or_from (b == 108) (b == 76) (none 108 refl) (none 76 refl)) (or_from (b == 117) (b == 85) (none 117 refl) (none 85 refl))
  where
    no_hex : (c : ℕ) → is_hex c ≡ false → IsHexDigit c → ⊥
    no_hex c e (inl x) = false≢true (sym e ∙ or_left (nat_le 48 c && nat_le c 57) _ (and_from (nat_le 48 c) (nat_le c 57) (le-leb 48 c x.0) (le-leb c 57 x.1)))
    no_hex c e (inr (inl x)) =
        false≢true (sym e ∙ or_right (nat_le 48 c && nat_le c 57) _ (or_left (nat_le 65 c && nat_le c 70) _ (and_from (nat_le 65 c) (nat_le c 70) (le-leb 65 c x.0) (le-leb c 70 x.1))))
    no_hex c e (inr (inr x)) =
        false≢true (sym e ∙ or_right (nat_le 48 c && nat_le c 57) _ (or_right (nat_le 65 c && nat_le c 70) _ (and_from (nat_le 97 c) (nat_le c 102) (le-leb 97 c x.0) (le-leb c 102 x.1))))

    none : (c : ℕ) → is_hex c ≡ false → (b == c) ≡ false
    none c e = other b c (λ same. no_hex c e (subst IsHexDigit same h))

no_letter : (base : Base) (b : ℕ) → IsDigitOf base b → is_suffix_letter b ≡ false
no_letter Decimal b h = hex_letter b (inl h)
no_letter Octal b h = hex_letter b (inl (h.0, (let high = h.1 in omega (arith, high))))
no_letter Hexadecimal b h = hex_letter b h

no_end : (base : Base) → IsDigitOf base 0 → ⊥
no_end Decimal h = let low = h.0 in omega (arith, low)
no_end Octal h = let low = h.0 in omega (arith, low)
no_end Hexadecimal (inl h) = let low = h.0 in omega (arith, low)
no_end Hexadecimal (inr (inl h)) = let low = h.0 in omega (arith, low)
no_end Hexadecimal (inr (inr h)) = let low = h.0 in omega (arith, low)

abbrev begins : List ℕ → Bool
begins [] = true
begins (x ∷ xs) = is_suffix_letter x

begins_at : (s : List ℕ) → begins s ≡ true → 0 < length s → is_suffix_letter (slice_index s 0) ≡ true
begins_at [] h low = absurd (omega (arith, low))
begins_at (x ∷ xs) h low = h

module _ (base : Base) (body : List ℕ) (count : ℕ) (h : IsIntegerOf base body count) where
  inside : count ≤ length body
  inside = elim (cases_lt (length body) count) [
    | inl less ↦ absurd (no_end base (subst (IsDigitOf base) (get_or_past body (length body) 0 (omega arith)) (h.digits (length body) (omega arith) less)))
    | inr ge ↦ ge
  ]

  suffix : count < length body → is_suffix_letter (slice_index body count) ≡ true
  suffix less =
      let first : begins (drop count body) ≡ true = is_among-all begins suffixes (drop count body) h.suffix refl in
      let place : slice_index (drop count body) 0 ≡ slice_index body (count + 0) = get_or-drop count body 0 0 in
      let at : slice_index body (count + 0) ≡ slice_index body count = ap (slice_index body) (omega arith) in
      ap is_suffix_letter (sym (place ∙ at)) ∙ begins_at (drop count body) first (omega (arith, less, length-drop count body))

  digits : digits_of body ≡ take count body
  digits = ap (λ n. before (cond (nat_lt n (length body)) (Some n) None) body) place ∙ by (cases_lt count (length body))
    where
      place : prefix_len (λ x. not (is_suffix_letter x)) body ≡ count
      place = cut is_suffix_letter body count (λ k less. no_letter base (slice_index body k) (h.digits k (omega arith) less)) inside suffix

      by : (count < length body) ⊎ (length body ≤ count) → before (cond (nat_lt count (length body)) (Some count) None) body ≡ take count body
      by (inl less) = ap (λ b. before (cond b (Some count) None) body) (lt-ltb count (length body) less)
      by (inr ge) = ap (λ b. before (cond b (Some count) None) body) (le-ltb count (length body) ge) ∙ sym (take_all count body ge)

-- ---- the last type of the list has the value

-- a test that holds of one among others finds something
found_last : (test : IntKind → Bool) (one other : IntKind) → test other ≡ true → is_some (find test (one ∷ other ∷ [])) ≡ true
found_last test one other e = by (test one)
  where
    by : (b : Bool) → is_some (cond b (Some one) (find test (other ∷ []))) ≡ true
    by true = refl
    by false = ap (λ b. is_some (cond b (Some other) None)) e

-- below the limit of a base, with a `u` or without
last_there : (base : Base) (unsigned : Bool) (number : ℕ) → number < limit_of base unsigned → is_some (first_sign (radix_of base) unsigned number LLong) ≡ true
last_there base true number low = ap (λ b. is_some (cond b (Some ULLong) None)) (le-leb number (2 ^ 64 - 1) (by base low))
  where
    by : (base : Base) → number < limit_of base true → number ≤ 2 ^ 64 - 1
    by Decimal low = omega (arith, low)
    by Octal low = omega (arith, low)
    by Hexadecimal low = omega (arith, low)
last_there Decimal false number low = ap (λ b. is_some (cond b (Some LLong) None)) (le-leb number (2 ^ 63 - 1) (omega (arith, low)))
last_there Octal false number low = found_last (reaches number) LLong ULLong (le-leb number (2 ^ 64 - 1) (omega (arith, low)))
last_there Hexadecimal false number low = found_last (reaches number) LLong ULLong (le-leb number (2 ^ 64 - 1) (omega (arith, low)))

or_there : (one other : Option IntKind) → is_some other ≡ true → is_some (option_or one other) ≡ true
or_there None other h = h
or_there (Some kind) other h = refl

either_there : (b : Bool) (one other : Option IntKind) → is_some one ≡ true → is_some other ≡ true → is_some (if b then one else other) ≡ true
either_there true one other h g = h
either_there false one other h g = g

kind_there : (radix : ℕ) (unsigned : Bool) (longs number : ℕ) → is_some (first_sign radix unsigned number LLong) ≡ true → is_some (first_kind radix unsigned longs number) ≡ true
unfolding first_kind
kind_there radix unsigned longs number h =
    let long = or_there (first_sign radix unsigned number Long) _ h in
    either_there (longs == 0) _ _ (or_there (first_sign radix unsigned number Int) _ long) (either_there (longs == 1) _ _ long h)

value_there : (number : ℕ) (o : Option IntKind) → is_some o ≡ true → (x : Operand) × (valued number o ≡ Some x)
value_there number None h = absurd (false≢true h)
value_there number (Some kind) h = (_, refl)

-- ---- a suffix with a `u` stands in the spelling

any_drop : (p : ℕ → Bool) (n : ℕ) (xs : List ℕ) → list_any p (drop n xs) ≡ true → list_any p xs ≡ true
any_drop p zero xs h = h
any_drop p (suc n) [] h = h
any_drop p (suc n) (x ∷ xs) h = or_right (p x) (list_any p xs) (any_drop p n xs h)

signs : (base : Base) (spelling : List ℕ) (count : ℕ) → is_unsigned (drop count (body_of base spelling)) ≡ true → is_unsigned spelling ≡ true
signs Decimal spelling count h = any_drop (λ b. b == 117 || b == 85) count spelling h
signs Octal spelling count h = any_drop (λ b. b == 117 || b == 85) count spelling h
signs Hexadecimal spelling count h = any_drop (λ b. b == 117 || b == 85) 2 spelling (any_drop (λ b. b == 117 || b == 85) count (drop 2 spelling) h)

-- a `u` elsewhere would but raise the limit
under : (base : Base) (a b : Bool) (number : ℕ) → (a ≡ true → b ≡ true) → number < limit_of base a → number < limit_of base b
under base true true number f low = low
under base true false number f low = absurd (false≢true (f refl))
under base false false number f low = low
under Decimal false true number f low = omega (arith, low)
under Octal false true number f low = low
under Hexadecimal false true number f low = low

pub integers : Laws.IntegersHaveValues
integers spelling h =
    let base = base_of spelling in
    let body = body_of base spelling in
    let whole = digits base body h.0 h.1 in
    let number = magnitude_of (radix_of base) (digits_of body) in
    let low : number_of (radix_of base) (digits_of body) < limit_of base (is_unsigned spelling) =
    subst (λ ds. number_of (radix_of base) ds < limit_of base (is_unsigned spelling)) (sym whole)
    (under base (is_unsigned (drop h.0 body)) (is_unsigned spelling) (number_of (radix_of base) (take h.0 body)) (signs base spelling h.0) h.1.typed) in
    value_there number (first_kind (radix_of base) (is_unsigned spelling) (count_by is_long_letter spelling) number)
    (kind_there (radix_of base) (is_unsigned spelling) (count_by is_long_letter spelling) number
    (last_there base (is_unsigned spelling) number (omega (arith, low))))
