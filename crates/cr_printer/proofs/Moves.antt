-- What is said of a span of one text holds of a span of another with the same bytes.
use Rattle.std.proofs.Common.{◌≡◌, ◌≢◌, inl, inr, ℕ, ◌+◌, ◌-◌, ◌≤◌, ◌<◌, List, length, refl, sym, ◌∙◌, ap, subst, arith}
use Rattle.std.specs.Prelude.{slice_index, slice_range}
use Rattle.std.proofs.lemmas.List.{ext_get_or}
use Rattle.std.proofs.lemmas.Bool.{cases_eq}
use Rattle.cr_tokens.specs.declared.token.TokenKind.{TokenKind}
use Rattle.cr_tokens.specs.declared.token.TokenKind.TheVariants.{Keyword, Identifier, Integer, Character, Text, Punctuator}
use Rattle.cr_tokens.specs.Bytes.{Each, IsWordByte, IsOctalDigit, IsHexDigit}
use Rattle.cr_tokens.specs.Words.{IsWord}
use Rattle.cr_tokens.specs.Numbers.{IsNumber, IsNumberPart, BeginsNumber, IsInteger}
use Rattle.cr_tokens.specs.Literals.{IsLiteral, Chars, IsChar, IsUnit, IsBroken}
use Rattle.cr_tokens.specs.Literals.Chars.{none, more}
use Rattle.cr_tokens.specs.Punctuators.{IsPunctuator}
use Rattle.cr_tokens.specs.Tokens.{IsLexeme, Spells}
use Rattle.cr_tokens.specs.Tokens.IsLexeme.{word, number, character, text, punctuator}
use Rattle.cr_tokens.specs.Faults.{IsQuote}
use Rattle.cr_tokens.proofs.Ranges.{slice_range-at, slice_range-length}

-- the n bytes of f from a on are those of g from b on
pub record Agree (f : List ℕ) (a : ℕ) (g : List ℕ) (b n : ℕ) : Type 0 where
  pub left : a + n ≤ length f
  pub right : b + n ≤ length g
  pub each : (k : ℕ) → k < n → slice_index f (a + k) ≡ slice_index g (b + k)

pub turned : (f : List ℕ) (a : ℕ) (g : List ℕ) (b n : ℕ) → Agree f a g b n → Agree g b f a n
turned f a g b n m = record { left = m.right; right = m.left; each = λ k h. sym (m.each k h) }

-- a shorter span
pub shorter : (f : List ℕ) (a : ℕ) (g : List ℕ) (b n m : ℕ) → m ≤ n → Agree f a g b n → Agree f a g b m
shorter f a g b n m h s = record { left = omega (arith, s.left); right = omega (arith, s.right); each = λ k lt. s.each k (omega arith) }

-- the byte at x of f is that at y of g
pub byte : (f : List ℕ) (a : ℕ) (g : List ℕ) (b n x y : ℕ) → Agree f a g b n → a ≤ x → x < a + n → x + b ≡ y + a →
    slice_index f x ≡ slice_index g y
byte f a g b n x y m low high e =
    let p : a + (x - a) ≡ x = omega arith in
    let q : b + (x - a) ≡ y = omega arith in
    rw (p, q) at (m.each (x - a) (omega arith))

-- a span of f is a span of g
pub span : (f : List ℕ) (a : ℕ) (g : List ℕ) (b n x y u v : ℕ) → Agree f a g b n → a ≤ x → x ≤ y → y ≤ a + n → x + b ≡ u + a →
    y + b ≡ v + a → slice_range f x y ≡ slice_range g u v
span f a g b n x y u v m low mid high e d =
    let long : length (slice_range f x y) ≡ y - x = slice_range-length f x y (omega (arith, m.left)) in
    let wide : length (slice_range g u v) ≡ v - u = slice_range-length g u v (omega (arith, m.right)) in
    ext_get_or 0 (slice_range f x y) (slice_range g u v) (omega arith) (λ i lt.
    let below : x + i < y = omega arith in
    slice_range-at f x y i below ∙ byte f a g b n (x + i) (u + i) m (omega arith) (omega arith) (omega arith)
    ∙ sym (slice_range-at g u v i (omega arith)))

each_moved : (P : ℕ → Type 0) (f : List ℕ) (a : ℕ) (g : List ℕ) (b n x y u v : ℕ) → Agree f a g b n → a ≤ x → y ≤ a + n →
    x + b ≡ u + a → y + b ≡ v + a → Each P f x y → Each P g u v
each_moved P f a g b n x y u v m low high e d h k from to =
    let same : slice_index f ((k + a) - b) ≡ slice_index g k = byte f a g b n ((k + a) - b) k m (omega arith) (omega arith) (omega arith) in
    rw same at (h ((k + a) - b) (omega arith) (omega arith))

-- words, numbers and punctuators

pub word_moved : (f : List ℕ) (a : ℕ) (g : List ℕ) (b n : ℕ) → Agree f a g b n → IsWord f a (a + n) → IsWord g b (b + n)
word_moved f a g b n m w =
    let first : slice_index f a ≡ slice_index g b = byte f a g b n a b m (omega arith) w.not_empty (omega arith) in
    record {
      not_empty = omega (arith, w.not_empty);
      first = rw first at w.first;
      each = each_moved IsWordByte f a g b n a (a + n) b (b + n) m (omega arith) (omega arith) (omega arith) (omega arith) w.each;
    }

part_moved : (f : List ℕ) (a : ℕ) (g : List ℕ) (b n k j : ℕ) → Agree f a g b n → a < k → k < a + n → k + b ≡ j + a →
    IsNumberPart f k → IsNumberPart g j
part_moved f a g b n k j m low high e p =
    let here : slice_index f k ≡ slice_index g j = byte f a g b n k j m (omega arith) high e in
    let before : slice_index f (k - 1) ≡ slice_index g (j - 1) = byte f a g b n (k - 1) (j - 1) m (omega arith) (omega arith) (omega arith) in
    elim p [
      | inl w ↦ inl (rw here at w)
      | inr o ↦ elim o [
        | inl d ↦ inr (inl (rw here at d))
        | inr s ↦ inr (inr (rw here at (s.0), rw before at (s.1)))
      ]
    ]

begins_moved : (f : List ℕ) (a : ℕ) (g : List ℕ) (b n : ℕ) → Agree f a g b n → 0 < n → (slice_index f a ≡ 46 → 1 < n) →
    BeginsNumber f a → BeginsNumber g b
begins_moved f a g b n m some two (inl d) =
    let here : slice_index f a ≡ slice_index g b = byte f a g b n a b m (omega arith) (omega arith) (omega arith) in
    inl (rw here at d)
begins_moved f a g b n m some two (inr d) =
    let here : slice_index f a ≡ slice_index g b = byte f a g b n a b m (omega arith) (omega arith) (omega arith) in
    let next : slice_index f (a + 1) ≡ slice_index g (b + 1) =
    byte f a g b n (a + 1) (b + 1) m (omega arith) (omega (arith, two d.0)) (omega arith) in
    inr (rw here at (d.0), rw next at (d.1))

pub number_moved : (f : List ℕ) (a : ℕ) (g : List ℕ) (b n : ℕ) → Agree f a g b n → IsNumber f a (a + n) → IsNumber g b (b + n)
number_moved f a g b n m w =
    let here : slice_index f a ≡ slice_index g b = byte f a g b n a b m (omega arith) w.not_empty (omega arith) in
    record {
      not_empty = omega (arith, w.not_empty);
      first = begins_moved f a g b n m (omega (arith, w.not_empty)) (λ e. omega (arith, w.second e)) w.first;
      second = λ e. omega (arith, w.second (here ∙ e));
      each = λ k from to. part_moved f a g b n ((k + a) - b) k m (omega arith) (omega arith) (omega arith)
          (w.each ((k + a) - b) (omega arith) (omega arith));
    }

whole : (f : List ℕ) (a : ℕ) (g : List ℕ) (b n : ℕ) → Agree f a g b n → slice_range f a (a + n) ≡ slice_range g b (b + n)
whole f a g b n m = span f a g b n a (a + n) b (b + n) m (omega arith) (omega arith) (omega arith) (omega arith) (omega arith)

pub punctuator_moved : (f : List ℕ) (a : ℕ) (g : List ℕ) (b n : ℕ) → Agree f a g b n → IsPunctuator f a (a + n) → IsPunctuator g b (b + n)
punctuator_moved f a g b n m p = rw (whole f a g b n m) at p

-- literals: z is the place of the closing quote

unit_grows : (f : List ℕ) (q x to : ℕ) → IsUnit f q x to → x < to
unit_grows f q x to (inl p) = omega (arith, p.1)
unit_grows f q x to (inr (e, inl s)) = omega (arith, s.end)
unit_grows f q x to (inr (e, inr (inl o))) = omega (arith, o.some)
unit_grows f q x to (inr (e, inr (inr h))) = omega (arith, h.some)

pub chars_grow : {f : List ℕ} {q x to count : ℕ} → Chars f q x to count → x ≤ to
chars_grow none = omega arith
chars_grow {f} {q} {x} (more {to = to} i cs) = omega (arith, unit_grows f q x to i.unit, chars_grow cs)

unit_moved : (f : List ℕ) (a : ℕ) (g : List ℕ) (b n q x y to u z : ℕ) → Agree f a g b n → a ≤ x → x + b ≡ y + a → to + b ≡ u + a →
    to ≤ z → z < a + n → IsUnit f q x to → IsUnit g q y u
unit_moved f a g b n q x y to u z m low e d mid high (inl (p, end)) =
    let here : slice_index f x ≡ slice_index g y = byte f a g b n x y m low (omega arith) e in
    inl (rw here at p, omega arith)
unit_moved f a g b n q x y to u z m low e d mid high (inr (p, inl s)) =
    let here : slice_index f x ≡ slice_index g y = byte f a g b n x y m low (omega (arith, s.end)) e in
    let next : slice_index f (x + 1) ≡ slice_index g (y + 1) = byte f a g b n (x + 1) (y + 1) m (omega arith) (omega (arith, s.end)) (omega arith) in
    inr (rw here at p, inl (record { letter = rw next at (s.letter); end = omega (arith, s.end) }))
unit_moved f a g b n q x y to u z m low e d mid high (inr (p, inr (inl o))) =
    let here : slice_index f x ≡ slice_index g y = byte f a g b n x y m low (omega (arith, o.some)) e in
    let stop : slice_index f to ≡ slice_index g u = byte f a g b n to u m (omega (arith, o.some)) (omega arith) d in
    let digits : slice_range f (x + 1) to ≡ slice_range g (y + 1) u =
    span f a g b n (x + 1) to (y + 1) u m (omega arith) (omega (arith, o.some)) (omega arith) (omega arith) d in
    inr (
      rw here at p,
      inr (inl (record {
        some = omega (arith, o.some);
        most = omega (arith, o.most);
        digits = each_moved IsOctalDigit f a g b n (x + 1) to (y + 1) u m (omega arith) (omega arith) (omega arith) d o.digits;
        longest = λ lt i. o.longest (omega arith) (rw stop i);
        small = rw digits at (o.small);
      })),
    )
unit_moved f a g b n q x y to u z m low e d mid high (inr (p, inr (inr h))) =
    let here : slice_index f x ≡ slice_index g y = byte f a g b n x y m low (omega (arith, h.some)) e in
    let next : slice_index f (x + 1) ≡ slice_index g (y + 1) = byte f a g b n (x + 1) (y + 1) m (omega arith) (omega (arith, h.some)) (omega arith) in
    let stop : slice_index f to ≡ slice_index g u = byte f a g b n to u m (omega (arith, h.some)) (omega arith) d in
    let digits : slice_range f (x + 2) to ≡ slice_range g (y + 2) u =
    span f a g b n (x + 2) to (y + 2) u m (omega arith) (omega (arith, h.some)) (omega arith) (omega arith) d in
    inr (
      rw here at p,
      inr (inr (record {
        letter = rw next at (h.letter);
        some = omega (arith, h.some);
        digits = each_moved IsHexDigit f a g b n (x + 2) to (y + 2) u m (omega arith) (omega arith) (omega arith) d h.digits;
        longest = λ i. h.longest (rw stop i);
        small = rw digits at (h.small);
      })),
    )

-- a byte that is no quote doesn't stand at the closing one
before_close : (f : List ℕ) (q z k v : ℕ) → IsQuote q → slice_index f z ≡ q → slice_index f k ≡ v → v ≢ 39 → v ≢ 34 → k ≤ z → k < z
before_close f q z k v iq close is ns nd le = elim (cases_eq k z) [
  | inl e ↦
      let same : v ≡ q = sym is ∙ ap (λ i. slice_index f i) e ∙ close in
      elim iq [ inl x ↦ absurd (ns (same ∙ x)) | inr x ↦ absurd (nd (same ∙ x)) ]
  | inr ne ↦ omega arith
]

-- what no literal holds isn't in the other one either
broken_back : (f : List ℕ) (a : ℕ) (g : List ℕ) (b n q k j z : ℕ) → Agree f a g b n → a ≤ k → k < z → z < a + n → k + b ≡ j + a →
    IsQuote q → slice_index f z ≡ q → IsBroken g j → IsBroken f k
broken_back f a g b n q k j z m low lt high e iq close (inl (t, u, v)) =
    let p : slice_index f k ≡ slice_index g j = byte f a g b n k j m low (omega arith) e in
    let p1 : slice_index f (k + 1) ≡ slice_index g (j + 1) = byte f a g b n (k + 1) (j + 1) m (omega arith) (omega arith) (omega arith) in
    let far : k + 1 < z = before_close f q z (k + 1) 63 iq close (p1 ∙ u) (λ x. omega arith) (λ x. omega arith) (omega arith) in
    let p2 : slice_index f (k + 2) ≡ slice_index g (j + 2) = byte f a g b n (k + 2) (j + 2) m (omega arith) (omega arith) (omega arith) in
    inl (p ∙ t, p1 ∙ u, rw p2 v)
broken_back f a g b n q k j z m low lt high e iq close (inr (inl (t, u))) =
    let p : slice_index f k ≡ slice_index g j = byte f a g b n k j m low (omega arith) e in
    let p1 : slice_index f (k + 1) ≡ slice_index g (j + 1) = byte f a g b n (k + 1) (j + 1) m (omega arith) (omega arith) (omega arith) in
    inr (inl (p ∙ t, p1 ∙ u))
broken_back f a g b n q k j z m low lt high e iq close (inr (inr (t, u, v, w))) =
    let p : slice_index f k ≡ slice_index g j = byte f a g b n k j m low (omega arith) e in
    let p1 : slice_index f (k + 1) ≡ slice_index g (j + 1) = byte f a g b n (k + 1) (j + 1) m (omega arith) (omega arith) (omega arith) in
    let far : k + 1 < z = before_close f q z (k + 1) 63 iq close (p1 ∙ u) (λ x. omega arith) (λ x. omega arith) (omega arith) in
    let p2 : slice_index f (k + 2) ≡ slice_index g (j + 2) = byte f a g b n (k + 2) (j + 2) m (omega arith) (omega arith) (omega arith) in
    let farther : k + 2 < z = before_close f q z (k + 2) 47 iq close (p2 ∙ v) (λ x. omega arith) (λ x. omega arith) (omega arith) in
    let p3 : slice_index f (k + 3) ≡ slice_index g (j + 3) = byte f a g b n (k + 3) (j + 3) m (omega arith) (omega arith) (omega arith) in
    inr (inr (p ∙ t, p1 ∙ u, p2 ∙ v, p3 ∙ w))

char_moved : (f : List ℕ) (a : ℕ) (g : List ℕ) (b n q x y to u z : ℕ) → Agree f a g b n → a ≤ x → x + b ≡ y + a → to + b ≡ u + a →
    to ≤ z → z < a + n → IsQuote q → slice_index f z ≡ q → IsChar f q x to → IsChar g q y u
char_moved f a g b n q x y to u z m low e d mid high iq close i = record {
  unit = unit_moved f a g b n q x y to u z m low e d mid high i.unit;
  unbroken = λ k from until broken. i.unbroken ((k + a) - b) (omega arith) (omega arith)
      (broken_back f a g b n q ((k + a) - b) k z m (omega arith) (omega arith) high (omega arith) iq close broken);
}

chars_moved : {f : List ℕ} {q x z count : ℕ} (a : ℕ) (g : List ℕ) (b n y w : ℕ) → Agree f a g b n → a ≤ x → x + b ≡ y + a → z + b ≡ w + a →
    z < a + n → IsQuote q → slice_index f z ≡ q → Chars f q x z count → Chars g q y w count
chars_moved a g b n y w m low e d high iq close none = let same : w ≡ y = omega arith in rw same none
chars_moved {f} {q} {x} {z} a g b n y w m low e d high iq close (more {to = to} i cs) =
    let grows : x < to = unit_grows f q x to i.unit in
    let inside : to ≤ z = chars_grow cs in
    let there : to + b ≡ ((to + b) - a) + a = omega arith in
    more {to = (to + b) - a} (char_moved f a g b n q x y to ((to + b) - a) z m low e there inside high iq close i)
    (chars_moved a g b n ((to + b) - a) w m (omega arith) there d high iq close cs)

pub literal_moved : (f : List ℕ) (a : ℕ) (g : List ℕ) (b n q count : ℕ) → Agree f a g b n → IsQuote q → IsLiteral f q a (a + n) count →
    IsLiteral g q b (b + n) count
literal_moved f a g b n q count m iq l =
    let grows : a + 1 ≤ l.close = chars_grow l.characters in
    let first : slice_index f a ≡ slice_index g b = byte f a g b n a b m (omega arith) (omega (arith, l.end)) (omega arith) in
    let final : slice_index f l.close ≡ slice_index g ((l.close + b) - a) =
    byte f a g b n l.close ((l.close + b) - a) m (omega arith) (omega (arith, l.end)) (omega arith) in
    record {
      open_quote = sym first ∙ l.open_quote;
      close = (l.close + b) - a;
      characters = chars_moved a g b n (b + 1) ((l.close + b) - a) m (omega arith) (omega arith) (omega arith) (omega (arith, l.end)) iq l.close_quote l.characters;
      close_quote = sym final ∙ l.close_quote;
      end = omega (arith, l.end);
    }

-- tokens

pub spells_moved : (kind : TokenKind) (f : List ℕ) (a : ℕ) (g : List ℕ) (b n : ℕ) → Agree f a g b n → Spells f kind a (a + n) → Spells g kind b (b + n)
spells_moved Keyword f a g b n m s = (word_moved f a g b n m s.0, rw (whole f a g b n m) at (s.1))
spells_moved Identifier f a g b n m s = (word_moved f a g b n m s.0, rw (whole f a g b n m) at (s.1))
spells_moved Integer f a g b n m s = (number_moved f a g b n m s.0, let P : List ℕ → Type 0 = λ x. IsInteger x in subst P (whole f a g b n m) s.1)
spells_moved Character f a g b n m s = literal_moved f a g b n 39 1 m (inl refl) s
spells_moved Text f a g b n m s = (s.0, literal_moved f a g b n 34 s.0 m (inr refl) s.1)
spells_moved Punctuator f a g b n m s = punctuator_moved f a g b n m s

pub lexeme_moved : (f : List ℕ) (a : ℕ) (g : List ℕ) (b n : ℕ) → Agree f a g b n → IsLexeme f a (a + n) → IsLexeme g b (b + n)
lexeme_moved f a g b n m (word w) = word (word_moved f a g b n m w)
lexeme_moved f a g b n m (number w) = number (number_moved f a g b n m w)
lexeme_moved f a g b n m (character count w) = character count (literal_moved f a g b n 39 count m (inl refl) w)
lexeme_moved f a g b n m (text count w) = text count (literal_moved f a g b n 34 count m (inr refl) w)
lexeme_moved f a g b n m (punctuator w) = punctuator (punctuator_moved f a g b n m w)
