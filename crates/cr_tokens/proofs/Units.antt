-- One character of a literal ends at one place.
use Rattle.std.proofs.Common.{◌≡◌, ◌≢◌, ◌⊎◌, inl, inr, ℕ, ◌+◌, ◌≤◌, ◌<◌, List, length, arith, true, not, refl}
use Rattle.std.specs.Prelude.{slice_index, ◌==◌, nat_le, ◌&&◌}
use Rattle.std.proofs.lemmas.Bool.{cases_lt, cases_order}
use Rattle.cr_tokens.specs.Bytes.{Each, IsOctalDigit, IsHexDigit, is_byte_of}
use Rattle.cr_tokens.specs.Literals.{IsSimpleEscape, IsOctalEscape, IsHexEscape, IsUnit, simple_escapes}
use Rattle.cr_tokens.proofs.Places.{each_end, past}
use Rattle.cr_tokens.proofs.Tables.{is_byte_of-all}

pub octal_end : (file : List ℕ) (at a b : ℕ) → at + 1 ≤ a → at + 1 ≤ b → a ≤ at + 4 → b ≤ at + 4 →
    Each IsOctalDigit file (at + 1) a → Each IsOctalDigit file (at + 1) b →
    (a < at + 4 → ¬ IsOctalDigit (slice_index file a)) → (b < at + 4 → ¬ IsOctalDigit (slice_index file b)) → a ≡ b
octal_end file at a b fa fb ma mb da db sa sb =
    elim (cases_order a b) [
      | inl e ↦ e
      | inr o ↦ elim o [ inl lt ↦ absurd (sa (omega arith) (db a fa lt)) | inr gt ↦ absurd (sb (omega arith) (da b fb gt)) ]
    ]

-- no simple escape sequence begins as an octal or a hexadecimal one
simple_octal : (b : ℕ) → is_byte_of simple_escapes b ≡ true → ¬ IsOctalDigit b
simple_octal b h o =
    let none : not (nat_le 48 b && nat_le b 55) ≡ true = is_byte_of-all (λ c. not (nat_le 48 c && nat_le c 55)) simple_escapes b h refl in
    grind arith

simple_hex : (b : ℕ) → is_byte_of simple_escapes b ≡ true → b ≢ 120
simple_hex b h o =
    let none : not (b == 120) ≡ true = is_byte_of-all (λ c. not (c == 120)) simple_escapes b h refl in
    grind arith

octal_first : (file : List ℕ) (at to : ℕ) → IsOctalEscape file at to → IsOctalDigit (slice_index file (at + 1))
octal_first file at to o = o.digits (at + 1) (omega arith) (omega (arith, o.some))

octal_hex : (b : ℕ) → IsOctalDigit b → b ≢ 120
octal_hex b o e = omega arith

rest_unique : (file : List ℕ) (at a b : ℕ) → IsSimpleEscape file at a ⊎ IsOctalEscape file at a ⊎ IsHexEscape file at a →
    IsSimpleEscape file at b ⊎ IsOctalEscape file at b ⊎ IsHexEscape file at b → a ≡ b
rest_unique file at a b (inl s) (inl t) = omega (arith, s.end, t.end)
rest_unique file at a b (inl s) (inr (inl o)) = absurd (simple_octal (slice_index file (at + 1)) s.letter (octal_first file at b o))
rest_unique file at a b (inl s) (inr (inr x)) = absurd (simple_hex (slice_index file (at + 1)) s.letter x.letter)
rest_unique file at a b (inr (inl o)) (inl s) = absurd (simple_octal (slice_index file (at + 1)) s.letter (octal_first file at a o))
rest_unique file at a b (inr (inl o)) (inr (inl q)) =
    octal_end file at a b (omega (arith, o.some)) (omega (arith, q.some)) o.most q.most o.digits q.digits o.longest q.longest
rest_unique file at a b (inr (inl o)) (inr (inr x)) = absurd (octal_hex (slice_index file (at + 1)) (octal_first file at a o) x.letter)
rest_unique file at a b (inr (inr x)) (inl s) = absurd (simple_hex (slice_index file (at + 1)) s.letter x.letter)
rest_unique file at a b (inr (inr x)) (inr (inl o)) = absurd (octal_hex (slice_index file (at + 1)) (octal_first file at b o) x.letter)
rest_unique file at a b (inr (inr x)) (inr (inr y)) =
    each_end IsHexDigit file (at + 2) a b x.digits y.digits (omega (arith, x.some)) (omega (arith, y.some)) x.longest y.longest

pub unit_unique : (file : List ℕ) (quote at a b : ℕ) → IsUnit file quote at a → IsUnit file quote at b → a ≡ b
unit_unique file quote at a b (inl p) (inl q) = omega (arith, p.1, q.1)
unit_unique file quote at a b (inl p) (inr e) = absurd (p.0.no_backslash e.0)
unit_unique file quote at a b (inr e) (inl p) = absurd (p.0.no_backslash e.0)
unit_unique file quote at a b (inr e) (inr f) = rest_unique file at a b e.1 f.1

-- a unit is neither its quote nor the end of the line, and a unit is not empty
pub unit_no_quote : (file : List ℕ) (quote at to : ℕ) → IsUnit file quote at to → quote ≢ 92 → slice_index file at ≢ quote
unit_no_quote file quote at to (inl p) n e = p.0.no_quote e
unit_no_quote file quote at to (inr u) n e = n (cc)

pub unit_no_line_end : (file : List ℕ) (quote at to : ℕ) → IsUnit file quote at to → slice_index file at ≢ 10
unit_no_line_end file quote at to (inl p) e = grind (arith, p.0.range)
unit_no_line_end file quote at to (inr u) e = cc

-- past the end no unit stands
no_unit : (file : List ℕ) (quote at to : ℕ) → slice_index file at ≡ 0 → ¬ IsUnit file quote at to
no_unit file quote at to z (inl p) = grind (arith, p.0.range)
no_unit file quote at to z (inr u) = cc

pub unit_inside : (file : List ℕ) (quote at to : ℕ) → IsUnit file quote at to → at < length file
unit_inside file quote at to u = elim (cases_lt at (length file)) [
  | inl lt ↦ lt
  | inr ge ↦ absurd (no_unit file quote at to (past file at ge) u)
]
