-- A character constant of a file's tokens is one byte.
use Rattle.std.proofs.Common.{◌≡◌, ℕ, zero, suc, ◌+◌, ◌-◌, ◌<◌, ◌≤◌, ◌==◌, ◌&&◌, ◌⊎◌, not, inl, inr, Bool, true, false, List, [], ◌∷◌, None, Some, pos, length, drop, take, refl, sym, ap, subst, ◌∙◌, if◌then◌else◌, arith}
use Rattle.std.specs.Prelude.{nat_le, slice_index, slice_range}
use Rattle.std.proofs.lemmas.Bool.{false≢true, and_from, and_parts, eqb-true, le-leb, leb-true, not-true}
use Rattle.std.proofs.lemmas.List.{get_or-drop, length-drop}
use Rattle.cr_tokens.specs.Numbers.{number_of}
use Rattle.cr_tokens.specs.Literals.{simple_escapes, IsSimpleEscape, IsOctalEscape, IsHexEscape, IsEscape, IsPlain, IsChar, Chars, none, more}
use Rattle.cr_ints.specs.declared.kind.IntKind.TheVariants.{Char, Int}
use Rattle.cr_check_constants.specs.Constants.{in_kind}
use Rattle.cr_check_constants.specs.declared.constant.Constant.TheVariants.{Value}
use Rattle.cr_check_constants.specs.declared.constant.Operand.{Operand}
use Rattle.cr_check_constants.specs.Literals.{magnitude_of, inside_of, simple_escape_of, escape_of, code_of, character_of_code}
use Rattle.cr_tokens.proofs.Tables.{is_byte_of-all}
use Rattle.cr_check_constant_values.specs.Spelled.Laws

-- ---- parts of lists

length_taken : (n : ℕ) (xs : List ℕ) → n ≤ length xs → length (take n xs) ≡ n
length_taken zero xs le = refl
length_taken (suc n) [] le = absurd (omega (arith, le))
length_taken (suc n) (x ∷ xs) le = ap suc (length_taken n xs (omega (arith, le)))

take_again : (k : ℕ) (xs : List ℕ) → take k (take (suc k) xs) ≡ take k xs
take_again zero xs = refl
take_again (suc k) [] = refl
take_again (suc k) (x ∷ xs) = ap (λ l. x ∷ l) (take_again k xs)

drop_taken : (n : ℕ) (xs : List ℕ) → drop 1 (take (suc n) xs) ≡ take n (drop 1 xs)
drop_taken zero [] = refl
drop_taken (suc n) [] = refl
drop_taken n (x ∷ xs) = refl

drop_one : (n : ℕ) (xs : List ℕ) → drop 1 (drop n xs) ≡ drop (suc n) xs
drop_one zero xs = refl
drop_one (suc n) [] = refl
drop_one (suc n) (x ∷ xs) = drop_one n xs

taken_first : (n : ℕ) (xs : List ℕ) → slice_index (take (suc n) xs) 0 ≡ slice_index xs 0
taken_first n [] = refl
taken_first n (x ∷ xs) = refl

-- what stands between the first byte and the last
middle : (k : ℕ) (xs : List ℕ) → suc (suc k) ≤ length xs → inside_of (take (suc (suc k)) xs) ≡ take k (drop 1 xs)
middle k xs le =
    ap (λ n. take (n - 2) (drop 1 (take (suc (suc k)) xs))) (length_taken (suc (suc k)) xs le)
    ∙ ap (λ n. take n (drop 1 (take (suc (suc k)) xs))) (omega arith)
    ∙ ap (take k) (drop_taken (suc k) xs)
    ∙ take_again k (drop 1 xs)

module _ (file : List ℕ) where
  head_range : (a b : ℕ) → a < b → slice_index (slice_range file a b) 0 ≡ slice_index file a
  head_range a b low =
      let one : b - a ≡ suc (b - a - 1) = omega (arith, low) in
      let place : slice_index (drop a file) 0 ≡ slice_index file (a + 0) = get_or-drop a file 0 0 in
      ap (λ n. slice_index (take n (drop a file)) 0) one ∙ taken_first (b - a - 1) (drop a file) ∙ place ∙ ap (slice_index file) (omega arith)

  tail_range : (a b : ℕ) → a < b → drop 1 (slice_range file a b) ≡ slice_range file (a + 1) b
  tail_range a b low =
      let one : b - a ≡ suc (b - (a + 1)) = omega (arith, low) in
      let next : suc a ≡ a + 1 = omega arith in
      ap (λ n. drop 1 (take n (drop a file))) one ∙ drop_taken (b - (a + 1)) (drop a file) ∙ ap (take (b - (a + 1))) (drop_one a file ∙ ap (λ m. drop m file) next)

  inside_range : (from to close : ℕ) → to ≤ length file → to ≡ close + 1 → from + 1 ≤ close → inside_of (slice_range file from to) ≡ slice_range file (from + 1) close
  inside_range from to close le end low =
      let two : to - from ≡ suc (suc (close - (from + 1))) = omega (arith, end, low) in
      let next : suc from ≡ from + 1 = omega arith in
      ap (λ n. inside_of (take n (drop from file))) two
      ∙ middle (close - (from + 1)) (drop from file) (omega (arith, le, end, low, length-drop from file))
      ∙ ap (take (close - (from + 1))) (drop_one from file ∙ ap (λ m. drop m file) next)

-- ---- escape sequences

pub other : (b c : ℕ) → (b ≡ c → ⊥) → (b == c) ≡ false
other b c f = by (b == c) refl
  where
    by : (x : Bool) → (b == c) ≡ x → x ≡ false
    by true e = absurd (f (eqb-true b c e))
    by false e = refl

-- by its letter, and by what stands behind the backslash
abbrev escape_by : ℕ → List ℕ → ℕ
escape_by c behind = if c == 120 then magnitude_of 16 (drop 1 behind) else (if nat_le 48 c && nat_le c 55 then magnitude_of 8 behind else simple_escape_of c)

abbrev is_simple : ℕ → Bool
is_simple c = not (c == 120) && (not (nat_le 48 c && nat_le c 55) && nat_le (simple_escape_of c) 255)

simple_small : (c : ℕ) (behind : List ℕ) → is_simple c ≡ true → escape_by c behind ≤ 255
simple_small c behind h =
    let both = and_parts (not (c == 120)) _ h in
    let rest = and_parts (not (nat_le 48 c && nat_le c 55)) (nat_le (simple_escape_of c) 255) both.1 in
    let is : escape_by c behind ≡ simple_escape_of c =
    ap (λ x. if x then magnitude_of 16 (drop 1 behind) else (if nat_le 48 c && nat_le c 55 then magnitude_of 8 behind else simple_escape_of c)) (not-true (c == 120) both.0)
    ∙ ap (λ x. if x then magnitude_of 8 behind else simple_escape_of c) (not-true (nat_le 48 c && nat_le c 55) rest.0) in
    subst (λ n. n ≤ 255) (sym is) (leb-true (simple_escape_of c) 255 rest.1)

octal_small : (c : ℕ) (behind : List ℕ) → 48 ≤ c → c ≤ 55 → number_of 8 behind ≤ 255 → escape_by c behind ≤ 255
octal_small c behind low high small =
    let is : escape_by c behind ≡ magnitude_of 8 behind =
    ap (λ x. if x then magnitude_of 16 (drop 1 behind) else (if nat_le 48 c && nat_le c 55 then magnitude_of 8 behind else simple_escape_of c)) (other c 120 (λ e. omega (arith, e, high)))
    ∙ ap (λ x. if x then magnitude_of 8 behind else simple_escape_of c) (and_from (nat_le 48 c) (nat_le c 55) (le-leb 48 c low) (le-leb c 55 high)) in
    subst (λ n. n ≤ 255) (sym is) (omega (arith, small))

hex_small : (c : ℕ) (behind : List ℕ) → c ≡ 120 → number_of 16 (drop 1 behind) ≤ 255 → escape_by c behind ≤ 255
hex_small c behind e small =
    let is : escape_by c behind ≡ magnitude_of 16 (drop 1 behind) = ap (λ x. escape_by x behind) e in
    subst (λ n. n ≤ 255) (sym is) (omega (arith, small))

module _ (file : List ℕ) (at close : ℕ) where
  -- what is read of the bytes from the place on
  abbrev body : List ℕ
  body = slice_range file at close

  escaped : slice_index file at ≡ 92 → at < close → code_of body ≡ escape_by (slice_index (slice_range file (at + 1) close) 0) (slice_range file (at + 1) close)
  escaped e low = ap (λ c. if c == 92 then escape_of (drop 1 body) else c) (head_range file at close low ∙ e) ∙ ap escape_of (tail_range file at close low)

  letter : at + 1 < close → slice_index (slice_range file (at + 1) close) 0 ≡ slice_index file (at + 1)
  letter low = head_range file (at + 1) close low

  escape_small : IsEscape file at close → code_of body ≤ 255
  escape_small e = by e.1
    where
      with_letter : at + 1 < close → escape_by (slice_index file (at + 1)) (slice_range file (at + 1) close) ≤ 255 → code_of body ≤ 255
      with_letter low small = subst (λ n. n ≤ 255) (sym (escaped e.0 (omega (arith, low)) ∙ ap (λ c. escape_by c (slice_range file (at + 1) close)) (letter low))) small

      by : IsSimpleEscape file at close ⊎ (IsOctalEscape file at close ⊎ IsHexEscape file at close) → code_of body ≤ 255
      by (inl x) =
          let end = x.end in
          with_letter (omega (arith, end)) (simple_small (slice_index file (at + 1)) (slice_range file (at + 1) close) (is_byte_of-all is_simple simple_escapes (slice_index file (at + 1)) x.letter refl))
      by (inr (inl x)) =
          let low = x.some in
          let digit = x.digits (at + 1) (omega arith) low in
          with_letter low (octal_small (slice_index file (at + 1)) (slice_range file (at + 1) close) digit.0 digit.1 x.small)
      by (inr (inr x)) =
          let low = x.some in
          let less : at + 1 < close = omega (arith, low) in
          let next : at + 1 + 1 ≡ at + 2 = omega arith in
          let digits : drop 1 (slice_range file (at + 1) close) ≡ slice_range file (at + 2) close = tail_range file (at + 1) close less ∙ ap (λ n. slice_range file n close) next in
          with_letter less (hex_small (slice_index file (at + 1)) (slice_range file (at + 1) close) x.letter (subst (λ ds. number_of 16 ds ≤ 255) (sym digits) x.small))

  plain_small : IsPlain 39 (slice_index file at) → at < close → code_of body ≤ 255
  plain_small p low = subst (λ n. n ≤ 255) (sym is) (high p.range)
    where
      is : code_of body ≡ slice_index file at
      is =
          ap (λ c. if c == 92 then escape_of (drop 1 body) else c) (head_range file at close low)
          ∙ ap (λ x. if x then escape_of (drop 1 body) else slice_index file at) (other (slice_index file at) 92 p.no_backslash)

      high : ((32 ≤ slice_index file at) × (slice_index file at ≤ 126)) ⊎ ((◌≡◌ {A = ℕ} 39 34) × (128 ≤ slice_index file at)) → slice_index file at ≤ 255
      high (inl x) = let most = x.1 in omega (arith, most)
      high (inr x) = let never = x.0 in absurd (omega (arith, never))

  char_small : IsChar file 39 at close → (at < close) × (code_of body ≤ 255)
  char_small h = by h.unit
    where
      longer : IsSimpleEscape file at close ⊎ (IsOctalEscape file at close ⊎ IsHexEscape file at close) → at < close
      longer (inl x) = let end = x.end in omega (arith, end)
      longer (inr (inl x)) = let some = x.some in omega (arith, some)
      longer (inr (inr x)) = let some = x.some in omega (arith, some)

      by : (IsPlain 39 (slice_index file at) × (close ≡ at + 1)) ⊎ IsEscape file at close → (at < close) × (code_of body ≤ 255)
      by (inl x) = let end = x.1 in let low : at < close = omega (arith, end) in (low, plain_small x.0 low)
      by (inr x) = (longer x.1, escape_small x)

one_char : (file : List ℕ) (at close : ℕ) → Chars file 39 at close 1 → IsChar file 39 at close
one_char file at close (more c none) = c

there_if : (b : Bool) (x : Operand) → b ≡ true → (y : Operand) × ((if b then Some x else None) ≡ Some y)
there_if true x e = (x, refl)
there_if false x e = absurd (false≢true e)

code_there : (code : ℕ) → code ≤ 255 → (x : Operand) × (character_of_code code ≡ Some x)
code_there code le = there_if (nat_le code 255) (record { kind = Int; constant = Value (in_kind Char (pos code)) }) (le-leb code 255 le)

pub characters : Laws.CharactersHaveValues
characters file from to le h =
    let char = char_small file (from + 1) h.close (one_char file (from + 1) h.close h.characters) in
    let low = char.0 in
    let code : code_of (inside_of (slice_range file from to)) ≤ 255 = subst (λ l. code_of l ≤ 255) (sym (inside_range file from to h.close le h.end (omega (arith, low)))) char.1 in
    code_there (code_of (inside_of (slice_range file from to))) code
