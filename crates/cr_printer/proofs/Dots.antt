-- Three dots come side by side only from three tokens `.`.
use Rattle.std.proofs.Common.{◌≡◌, ◌⊎◌, inl, inr, ℕ, ◌+◌, ◌<◌, List, [], ◌∷◌, ◌++◌, length, true, false, not, Bool, refl, sym, ◌∙◌, ap, subst, arith, length-append}
use Rattle.std.specs.Prelude.{slice_index, slice_range, ◌==◌, ◌||◌, nat_eq, codes, if◌then◌else◌, All}
use Rattle.std.specs.Cmp.Lexicographic.{pointwise, same_text}
use Rattle.std.proofs.lemmas.Bool.{or_cases, eqb-true, eq-eqb}
use Rattle.std.proofs.lemmas.List.{get_or_append_left, get_or-append-add}
use Rattle.std.proofs.lemmas.List.Elements.{All-head, All-tail}
use Rattle.cr_tokens.specs.declared.token.TokenKind.{TokenKind}
use Rattle.cr_tokens.specs.declared.token.TokenKind.TheVariants.{Keyword, Identifier, Integer, Character, Text, Punctuator}
use Rattle.cr_tokens.specs.declared.number.Base.{Base}
use Rattle.cr_tokens.specs.declared.number.Base.TheVariants.{Decimal, Octal, Hexadecimal}
use Rattle.cr_tokens.specs.Bytes.{IsDigit, IsNondigit, is_among}
use Rattle.cr_tokens.specs.Numbers.{IsInteger, IsIntegerOf, body_of}
use Rattle.cr_tokens.specs.Punctuators.{punctuators}
use Rattle.cr_tokens.specs.Tokens.{IsToken}
use Rattle.cr_tokens.specs.Tokens.IsLexeme.{punctuator}
use Rattle.cr_tokens.specs.Places.{StaysApart}
use Rattle.cr_tokens.proofs.Places.{past}
use Rattle.cr_tokens.proofs.Tables.{is_among-all}
use Rattle.cr_printer.specs.Pieces.{Piece, IsOneToken, HasThreeDots, spellings_of, dot}
use Rattle.cr_printer.specs.Text.{Prints}
use Rattle.cr_printer.specs.Text.Prints.{last, joined, spaced}
use Rattle.cr_printer.proofs.Stands.{token_at}
use Rattle.cr_printer.proofs.Alone.{alone, apart_some, not_empty, prints_front, spelling_there}

pub no_word : (b : ℕ) → b ≡ 46 → ¬ IsNondigit b
no_word b e (inl h) = omega arith
no_word b e (inr (inl h)) = omega arith
no_word b e (inr (inr h)) = omega arith

-- a text is all of its bytes
pub whole : (s : List ℕ) → slice_range s 0 (0 + length s) ≡ s
whole s = spelling_there s s 0 (record { left = omega arith; right = omega arith; each = λ k lt. refl })

-- an integer constant begins with a digit
pub integer_first : (s : List ℕ) (b : Bool) → b ≡ (slice_index s 0 == 48) → IsInteger s → IsDigit (slice_index s 0)
integer_first s true e i = let zero : slice_index s 0 ≡ 48 = eqb-true (slice_index s 0) 48 (sym e) in (omega arith, omega arith)
integer_first s false e i =
    let other : Base = if slice_index s 1 == 120 || slice_index s 1 == 88 then Hexadecimal else Octal in
    let F : Bool → Type 0 = λ v. (count : ℕ) × IsIntegerOf (if v then other else Decimal) (body_of (if v then other else Decimal) s) count in
    let decimal : F false = subst F (sym e) i in
    decimal.1.digits 0 (omega arith) decimal.1.some

pub number_no_dot : (s : List ℕ) (n : ℕ) → slice_index s 0 ≡ 46 → n ≡ length s → ¬ IsInteger (slice_range s 0 (0 + n))
number_no_dot s n first size i =
    let same : slice_range s 0 (0 + n) ≡ s = rw size (whole s) in
    let P : List ℕ → Type 0 = λ x. IsInteger x in
    let d = integer_first s (slice_index s 0 == 48) refl (subst P same i) in omega (arith, d.1)

-- a token that begins with a dot is `.` or `...`
dots : (kind : TokenKind) (s : List ℕ) → slice_index s 0 ≡ 46 → IsToken s (token_at kind 0 (length s)) → (s ≡ dot) ⊎ (s ≡ codes "...")
dots Keyword s first t = absurd (no_word (slice_index s 0) first t.spells.0.first)
dots Identifier s first t = absurd (no_word (slice_index s 0) first t.spells.0.first)
dots Integer s first t = absurd (number_no_dot s (length s) first refl t.spells.1)
dots Character s first t = absurd (omega (arith, t.spells.open_quote))
dots Text s first t = absurd (omega (arith, t.spells.1.open_quote))
dots Punctuator s first t =
    let P : List ℕ → Type 0 = λ x. is_among punctuators x ≡ true in
    let p : is_among punctuators s ≡ true = subst P (whole s) t.spells in
    let test : (not (slice_index s 0 == 46) || (pointwise nat_eq dot s || pointwise nat_eq (codes "...") s)) ≡ true =
    is_among-all (λ x. not (slice_index x 0 == 46) || (pointwise nat_eq dot x || pointwise nat_eq (codes "...") x)) punctuators s p refl in
    let begins : (slice_index s 0 == 46) ≡ true = eq-eqb (slice_index s 0) 46 first in
    let one : (pointwise nat_eq dot s || pointwise nat_eq (codes "...") s) ≡ true = rw begins at test in
    elim (or_cases (pointwise nat_eq dot s) (pointwise nat_eq (codes "...") s) one) [
      | inl q ↦ inl (sym (same_text dot s (sym q)))
      | inr q ↦ inr (sym (same_text (codes "...") s (sym q)))
    ]

-- behind a dot from which it stays apart, a token that begins with a dot is one itself
pub dot_apart : (p : Piece) → IsOneToken p → slice_index p.spelling 0 ≡ 46 → StaysApart dot p.spelling → p.spelling ≡ dot
dot_apart p h first a =
    elim (dots p.kind p.spelling first (alone p h)) [
      | inl e ↦ e
      | inr e ↦
          let P : List ℕ → Type 0 = λ x. StaysApart dot x in
          let q : StaysApart dot (codes "...") = subst P e a in
          let t = apart_some dot (codes "...") q in
          absurd (t.1.longest 3 (omega arith) (omega arith) (punctuator refl))
    ]

-- a byte behind one byte
behind : (s r : List ℕ) (k : ℕ) → length s ≡ 1 → slice_index r k ≡ slice_index (s ++ r) (k + 1)
behind s r k one =
    let same : length s + k ≡ k + 1 = omega arith in
    sym (sym (ap (λ i. slice_index (s ++ r) i) same) ∙ get_or-append-add s r k 0)

-- a token of one byte that begins with a dot
one_dot : (p : Piece) → IsOneToken p → slice_index p.spelling 0 ≡ 46 → length p.spelling ≡ 1 → p.spelling ≡ dot
one_dot p h first size = elim (dots p.kind p.spelling first (alone p h)) [
  | inl e ↦ e
  | inr e ↦ let three : length p.spelling ≡ 3 = ap (λ (s : List ℕ). length s) e in absurd (omega arith)
]

stand : (p q u : Piece) (us : List Piece) → p.spelling ≡ dot → q.spelling ≡ dot → u.spelling ≡ dot → HasThreeDots (spellings_of (p ∷ q ∷ u ∷ us))
stand p q u us e f g = ([], spellings_of us, rw (e, f, g) refl)

-- two tokens of one byte each, and a third byte: three dots
pub three_dots : (p q : Piece) (ps : List Piece) (r : List ℕ) → All IsOneToken (p ∷ q ∷ ps) → length p.spelling + length q.spelling ≡ 2 →
    Prints (q.spelling ∷ spellings_of ps) r → slice_index (p.spelling ++ r) 0 ≡ 46 → slice_index (p.spelling ++ r) 1 ≡ 46 →
    slice_index (p.spelling ++ r) 2 ≡ 46 → HasThreeDots (spellings_of (p ∷ q ∷ ps))
three_dots p q [] r all size (last) a b c =
    let z : slice_index (p.spelling ++ q.spelling) 2 ≡ 0 = past (p.spelling ++ q.spelling) 2 (simp length-append (omega arith)) in
    absurd (omega arith)
three_dots p q (u ∷ us) r all size (joined {text = t} apart rest) a b c =
    let hp = All-head IsOneToken p (q ∷ u ∷ us) all in
    let hq = All-head IsOneToken q (u ∷ us) (All-tail IsOneToken p (q ∷ u ∷ us) all) in
    let hu = All-head IsOneToken u us (All-tail IsOneToken q (u ∷ us) (All-tail IsOneToken p (q ∷ u ∷ us) all)) in
    let one : length p.spelling ≡ 1 = omega (arith, not_empty p hp, not_empty q hq) in
    let one_more : length q.spelling ≡ 1 = omega (arith, not_empty p hp, not_empty q hq) in
    let first : slice_index p.spelling 0 ≡ 46 = sym (get_or_append_left p.spelling (q.spelling ++ t) 0 0 (omega arith)) ∙ a in
    let p_dot : p.spelling ≡ dot = one_dot p hp first one in
    let second : slice_index (q.spelling ++ t) 0 ≡ 46 = behind p.spelling (q.spelling ++ t) 0 one ∙ b in
    let q_first : slice_index q.spelling 0 ≡ 46 = sym (get_or_append_left q.spelling t 0 0 (omega arith)) ∙ second in
    let q_dot : q.spelling ≡ dot = one_dot q hq q_first one_more in
    let third : slice_index t 0 ≡ 46 = behind q.spelling t 0 one_more ∙ behind p.spelling (q.spelling ++ t) 1 one ∙ c in
    let f = prints_front u.spelling (spellings_of us) t rest in
    let u_some : 0 < length u.spelling = not_empty u hu in
    let u_first : slice_index u.spelling 0 ≡ 46 =
    sym (get_or_append_left u.spelling f.0 0 0 u_some) ∙ ap (λ (s : List ℕ). slice_index s 0) (sym f.1) ∙ third in
    let P : List ℕ → Type 0 = λ x. StaysApart x u.spelling in
    stand p q u us p_dot q_dot (dot_apart u hu u_first (subst P q_dot apart))
three_dots p q (u ∷ us) r all size (spaced {text = t} apart rest) a b c =
    let hp = All-head IsOneToken p (q ∷ u ∷ us) all in
    let hq = All-head IsOneToken q (u ∷ us) (All-tail IsOneToken p (q ∷ u ∷ us) all) in
    let one : length p.spelling ≡ 1 = omega (arith, not_empty p hp, not_empty q hq) in
    let one_more : length q.spelling ≡ 1 = omega (arith, not_empty p hp, not_empty q hq) in
    let third : slice_index (32 ∷ t) 0 ≡ 46 = behind q.spelling (32 ∷ t) 0 one_more ∙ behind p.spelling (q.spelling ++ 32 ∷ t) 1 one ∙ c in
    absurd (omega arith)
