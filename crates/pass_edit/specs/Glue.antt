-- Texts put side by side, so that no two words become one.
use Rattle.std.specs.Prelude.{ℕ, Bool, ◌&&◌, ◌||◌, nat_le, nat_eq, List, [], ◌∷◌, ◌++◌, if◌then◌else◌}

-- a letter, a digit or an underscore
abbrev pub is_word_byte : ℕ → Bool
is_word_byte b = (nat_le 97 b && nat_le b 122) || (nat_le 65 b && nat_le b 90) || (nat_le 48 b && nat_le b 57) || nat_eq b 95

-- the first and the last byte of a text; an empty text has none, for which 0 stands, a byte of no word
abbrev pub first_byte : List ℕ → ℕ
first_byte [] = 0
first_byte (b ∷ bs) = b

abbrev pub last_byte : List ℕ → ℕ
last_byte [] = 0
last_byte (b ∷ []) = b
last_byte (b ∷ c ∷ bs) = last_byte (c ∷ bs)

-- one space where two words would meet
abbrev pub seam : List ℕ → List ℕ → List ℕ
seam front back = if is_word_byte (last_byte front) && is_word_byte (first_byte back) then 32 ∷ [] else []

abbrev pub glued : List ℕ → List ℕ → List ℕ
glued front back = front ++ seam front back ++ back

abbrev pub glued_all : List ℕ → List (List ℕ) → List ℕ
glued_all front [] = front
glued_all front (back ∷ rest) = glued_all (glued front back) rest
