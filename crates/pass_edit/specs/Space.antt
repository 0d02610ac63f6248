-- The space between two spellings.
use Rattle.std.specs.Prelude.{ℕ, Bool, false, ◌&&◌, ◌||◌, ◌==◌, nat_le, List, [], ◌∷◌, length, slice_index, if◌then◌else◌}
use Rattle.cr_tokens.specs.Bytes.{is_among}
use Rattle.cr_tokens.specs.Punctuators.{punctuators}
use Rattle.pass_edit.specs.Glue.{first_byte, is_word_byte, last_byte}

abbrev pub is_digit : ℕ → Bool
is_digit b = nat_le 48 b && nat_le b 57

-- a number that ends in `last` goes on with `next` (C11 6.4.8)
abbrev pub goes_on : ℕ → ℕ → Bool
goes_on last next = is_word_byte next || next == 46 || ((next == 43 || next == 45) && (last == 101 || last == 69 || last == 112 || last == 80))

-- a punctuator of one byte and the two bytes behind it begin a longer punctuator, a number or a comment (6.4.6, 6.4.8, 6.4.9)
abbrev pub grows : ℕ → ℕ → ℕ → Bool
grows sign next after = is_among punctuators (sign ∷ next ∷ [])
    || (sign == 46 && (is_digit next || (next == 46 && after == 46)))
    || (sign == 47 && (next == 47 || next == 42))

abbrev pub sign_grows : List ℕ → List ℕ → Bool
sign_grows left right = if length left == 1 then grows (slice_index left 0) (slice_index right 0) (slice_index right 1)
    else if length left == 2 then is_among punctuators (slice_index left 0 ∷ slice_index left 1 ∷ slice_index right 0 ∷ [])
    else false

-- Two spellings side by side would be read otherwise: the first would take bytes of the second. What the first is, its first byte tells: a
-- number, a word, a constant or text in quotes, which takes nothing more, or a punctuator.
unfoldable pub needs_space : List ℕ → List ℕ → Bool
needs_space left right = if is_digit (first_byte left) then goes_on (last_byte left) (first_byte right)
    else if is_word_byte (first_byte left) then is_word_byte (first_byte right)
    else if first_byte left == 34 || first_byte left == 39 then false
    else sign_grows left right
