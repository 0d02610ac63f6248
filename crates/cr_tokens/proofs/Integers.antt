-- An integer constant has its digits in one way.
use Rattle.std.proofs.Common.{◌≡◌, inl, inr, ℕ, ◌+◌, ◌<◌, length, List, refl, arith, true, not, Bool, add-zero, get_or-drop}
use Rattle.std.specs.Prelude.{slice_index, drop, nat_le, ◌&&◌, ◌||◌}
use Rattle.cr_tokens.specs.declared.number.Base.{Base}
use Rattle.cr_tokens.specs.declared.number.Base.TheVariants.{Decimal, Octal, Hexadecimal}
use Rattle.cr_tokens.specs.Bytes.{IsHexDigit, Each, is_among}
use Rattle.cr_tokens.specs.Numbers.{IsDigitOf, IsIntegerOf, suffixes}
use Rattle.cr_tokens.proofs.Tables.{is_among-all}
use Rattle.cr_tokens.proofs.Places.{each_end, not_past, no_hex_digit}

is_hex : ℕ → Bool
is_hex b = nat_le 48 b && nat_le b 57 || nat_le 65 b && nat_le b 70 || nat_le 97 b && nat_le b 102

no_hex : (b : ℕ) → not (is_hex b) ≡ true → ¬ IsHexDigit b
unfolding is_hex
no_hex b h (inl x) = grind arith
no_hex b h (inr (inl x)) = grind arith
no_hex b h (inr (inr x)) = grind arith

hex_of : (base : Base) (b : ℕ) → IsDigitOf base b → IsHexDigit b
hex_of Decimal b d = inl d
hex_of Octal b d = inl (d.0, omega (arith, d.1))
hex_of Hexadecimal b d = d

no_zero : (base : Base) → ¬ IsDigitOf base 0
no_zero base d = no_hex_digit (hex_of base 0 d)

-- no suffix begins with a digit
suffix_first : (base : Base) (body : List ℕ) (count : ℕ) → is_among suffixes (drop count body) ≡ true →
    ¬ IsDigitOf base (slice_index body count)
unfolding is_hex
suffix_first base body count h d =
    let none : not (is_hex (slice_index (drop count body) 0)) ≡ true =
    is_among-all (λ s. not (is_hex (slice_index s 0))) suffixes (drop count body) h refl in
    let first : slice_index (drop count body) 0 ≡ slice_index body (count + 0) = get_or-drop count body 0 0 in
    no_hex (slice_index body count) (rw (first, add-zero) at none) (hex_of base (slice_index body count) d)

pub digits_meet : (base : Base) (body : List ℕ) (count end : ℕ) → IsIntegerOf base body count →
    Each (IsDigitOf base) body 0 end → (end < length body → ¬ IsDigitOf base (slice_index body end)) → count ≡ end
digits_meet base body count end i each stop =
    each_end (IsDigitOf base) body 0 count end i.digits each (omega arith) (omega arith)
    (suffix_first base body count i.suffix)
    (not_past (IsDigitOf base) body end (no_zero base) stop)
