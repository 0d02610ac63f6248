-- Short names: the texts over the letters a to z by length, and of one length by bytes.
use Rattle.std.specs.Prelude.{ℕ, zero, suc, ◌+◌, ◌-◌, ◌/◌, ◌%◌, Bool, ◌||◌, nat_lt, List, [], ◌∷◌, ◌++◌, Option, None, Some, length, slice_range, if◌then◌else◌}
use Rattle.std.specs.List.{list_any}
use Rattle.std.specs.Str.{bytes_eq}
use Rattle.cr_tokens.specs.declared.token.Token.{Token}
use Rattle.cr_tokens.specs.Bytes.{is_among}
use Rattle.cr_tokens.specs.Words.{keywords}

-- numbers of one, two, three and four letters
abbrev pub one_letter : ℕ → List ℕ
one_letter number = (97 + number) ∷ []

abbrev pub two_letters : ℕ → List ℕ
two_letters number = (97 + number / 26) ∷ one_letter (number % 26)

abbrev pub three_letters : ℕ → List ℕ
three_letters number = (97 + number / 676) ∷ two_letters (number % 676)

abbrev pub four_letters : ℕ → List ℕ
four_letters number = (97 + number / 17576) ∷ three_letters (number % 17576)

-- the name of a number below 475,254: 26 have one letter, 676 two, 17,576 three, and 456,976 four
abbrev pub short_name : ℕ → List ℕ
short_name number = if nat_lt number 26 then one_letter number
    else if nat_lt number 702 then two_letters (number - 26)
    else if nat_lt number 18278 then three_letters (number - 702)
    else four_letters (number - 18278)

-- a keyword, or spelled by a token of the file
abbrev pub is_taken : List ℕ → List Token → List ℕ → Bool
is_taken file tokens name = is_among keywords name || list_any (λ token. bytes_eq (slice_range file token.start token.end) name) tokens

-- the first of so many numbers, from one on, whose name isn't taken
abbrev pub free_from : List ℕ → List Token → ℕ → ℕ → Option ℕ
free_from file tokens number zero = None
free_from file tokens number (suc more) = if is_taken file tokens (short_name number) then free_from file tokens (number + 1) more else Some number

-- The number of the first short name that is no keyword and no identifier of the file. Each token and each of the 44 keywords takes one
-- name at most.
abbrev pub first_free : List ℕ → List Token → Option ℕ
first_free file tokens = free_from file tokens 0 (length tokens + 45)
