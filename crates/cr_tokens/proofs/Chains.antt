-- Sequences of characters grow at their end, and end at one place.
use Rattle.std.proofs.Common.{◌≡◌, ◌≢◌, inl, inr, ℕ, suc, List, refl, sym, ap, arith}
use Rattle.cr_tokens.specs.Literals.{Chars, IsChar, EndsCharacters}
use Rattle.cr_tokens.specs.Literals.Chars.{none, more}
use Rattle.cr_tokens.specs.Faults.{IsBadChar}
use Rattle.cr_tokens.specs.Faults.IsBadChar.{no_unit, broken}
use Rattle.cr_tokens.proofs.Units.{unit_unique, unit_no_quote, unit_no_line_end, unit_inside}

pub Chars-snoc : {file : List ℕ} {quote from to after count : ℕ} → Chars file quote from to count → IsChar file quote to after →
    Chars file quote from after (suc count)
Chars-snoc none i = more i none
Chars-snoc (more h cs) i = more h (Chars-snoc cs i)

-- no character of a literal stands at `at`
pub NoChar : List ℕ → ℕ → ℕ → Type 0
NoChar file quote at = (to : ℕ) → ¬ IsChar file quote at to

pub ends-NoChar : (file : List ℕ) (quote at : ℕ) → quote ≢ 92 → EndsCharacters file quote at → NoChar file quote at
unfolding NoChar
ends-NoChar file quote at n (inl past) = λ to i. absurd (omega (arith, unit_inside file quote at to i.unit, past))
ends-NoChar file quote at n (inr (inl q)) = λ to i. absurd (unit_no_quote file quote at to i.unit n q)
ends-NoChar file quote at n (inr (inr l)) = λ to i. absurd (unit_no_line_end file quote at to i.unit l)

pub bad-NoChar : (file : List ℕ) (quote at bad : ℕ) → IsBadChar file quote at bad → NoChar file quote at
unfolding NoChar
bad-NoChar file quote at bad (no_unit a b c d e) = λ to i. d to i.unit
bad-NoChar file quote at bad (broken t u a b r f) = λ to i.
    let same : t ≡ to = unit_unique file quote at t to u i.unit in
    i.unbroken bad a (rw same at b) r

same_count : {file : List ℕ} {quote from a b n : ℕ} → Chars file quote from b n → from ≡ a → NoChar file quote a →
    (a ≡ b) × (0 ≡ n)
unfolding NoChar
same_count none e h = (sym e, refl)
same_count (more {to = to} i cs) e h = absurd (h to (rw e at i))

pub Chars-meet : {file : List ℕ} {quote from a b n m : ℕ} → Chars file quote from a n → NoChar file quote a →
    Chars file quote from b m → NoChar file quote b → (a ≡ b) × (n ≡ m)
unfolding NoChar
Chars-meet none ha cs hb = same_count cs refl ha
Chars-meet (more {to = to} i cs) ha none hb = absurd (hb to i)
Chars-meet {file} {quote} {from} (more {to = to} i cs) ha (more {to = to'} j ds) hb =
    let same : to ≡ to' = unit_unique file quote from to to' i.unit j.unit in
    let rest = Chars-meet cs ha (rw (← same) at ds) hb in
    (rest.0, ap suc rest.1)
