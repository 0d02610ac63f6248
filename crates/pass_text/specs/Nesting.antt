-- Brackets and their partners, by the grammar of nesting.
use Rattle.std.specs.Prelude.{◌≡◌, ℕ, ◌+◌, Bool, true, false, ◌||◌, ◌==◌, List, [], ◌∷◌, ◌++◌, length, if◌then◌else◌}
use Rattle.pass_text.specs.declared.pair.Pair.{Pair}

-- ( [ {
abbrev pub is_open : ℕ → Bool
is_open sign = sign == 40 || sign == 91 || sign == 123

-- ) ] }
abbrev pub is_close : ℕ → Bool
is_close sign = sign == 41 || sign == 93 || sign == 125

-- the bracket that closes an opening one
abbrev pub closer : ℕ → ℕ
closer sign = if sign == 40 then 41 else if sign == 91 then 93 else 125

-- The signs, of which the first is number `at`, nest, and these are the pairs of partners, in the order of the opening brackets: no sign, a
-- sign that is no bracket and what nests behind it, or an opening bracket, what nests between it and its partner, and what nests behind.
pub data Nests : ℕ → List ℕ → List Pair → Type 0 where
  nothing : {at : ℕ} → Nests at [] []
  other : {at : ℕ} {rest : List ℕ} {pairs : List Pair} (sign : ℕ) → is_open sign ≡ false → is_close sign ≡ false →
      Nests (at + 1) rest pairs → Nests at (sign ∷ rest) pairs
  pair : {at : ℕ} {between behind : List ℕ} {inner outer : List Pair} (sign to : ℕ) → is_open sign ≡ true →
      Nests (at + 1) between inner → to ≡ at + 1 + length between → Nests (to + 1) behind outer →
      Nests at (sign ∷ (between ++ closer sign ∷ behind)) (record { from = at; to = to } ∷ (inner ++ outer))

-- the signs don't nest: some bracket has no partner
abbrev pub NestsNot : List ℕ → Type 0
NestsNot signs = (pairs : List Pair) → ¬ Nests 0 signs pairs
