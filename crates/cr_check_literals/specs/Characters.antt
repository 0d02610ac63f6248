-- The characters between the quotes of a literal (C11 6.4.4.4, 6.4.5).
use Rattle.std.specs.Prelude.{ℕ, zero, suc, ◌+◌, ◌==◌, ◌&&◌, ◌||◌, Bool, List, [], ◌∷◌, min, nat_le, drop, take, slice_index, if◌then◌else◌}
use Rattle.std.specs.List.{prefix_len}
use Rattle.cr_check_constants.specs.Literals.{code_of}

abbrev pub is_octal_digit : ℕ → Bool
is_octal_digit b = nat_le 48 b && nat_le b 55

abbrev pub is_hexadecimal_digit : ℕ → Bool
is_hexadecimal_digit b = nat_le 48 b && nat_le b 57 || (nat_le 65 b && nat_le b 70 || nat_le 97 b && nat_le b 102)

-- how many bytes behind its backslash belong to an escape sequence: x and all hexadecimal digits that follow, one to three octal
-- digits, or one letter
abbrev pub escaped_of : List ℕ → ℕ
escaped_of behind =
    if slice_index behind 0 == 120
    then 1 + prefix_len is_hexadecimal_digit (drop 1 behind)
    else (if is_octal_digit (slice_index behind 0) then min 3 (prefix_len is_octal_digit behind) else 1)

-- how many bytes behind its first one belong to a character
abbrev pub further_of : List ℕ → ℕ
further_of inside = if slice_index inside 0 == 92 then escaped_of (drop 1 inside) else 0

-- the first character, as an unsigned char (6.4.5p6). No literal has an escape sequence of a value above 255 (6.4.4.4p9).
abbrev pub byte_of : List ℕ → ℕ
byte_of inside = min (code_of (take (further_of inside + 1) inside)) 255

-- each character's, where so many bytes at the front belong to a character before them
abbrev pub bytes_behind : ℕ → List ℕ → List ℕ
bytes_behind left [] = []
bytes_behind zero (b ∷ inside) = byte_of (b ∷ inside) ∷ bytes_behind (further_of (b ∷ inside)) inside
bytes_behind (suc left) (b ∷ inside) = bytes_behind left inside

abbrev pub bytes_of : List ℕ → List ℕ
bytes_of inside = bytes_behind 0 inside
