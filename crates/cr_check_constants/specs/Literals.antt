-- The values and types of integer constants (C11 6.4.4.1) and of character constants (6.4.4.4), by their spellings.
use Rattle.std.specs.Prelude.{ℕ, pos, ◌-◌, ◌==◌, ◌||◌, ◌&&◌, ◌^◌, min, position, List, [], ◌∷◌, Bool, Option, Some, None, nat_le, int_le, length, drop, take, slice_index, find, count_by, if◌then◌else◌}
use Rattle.std.specs.Option.{option_or}
use Rattle.cr_ints.specs.declared.kind.IntKind.{IntKind}
use Rattle.cr_ints.specs.declared.kind.IntKind.TheVariants.{Char, Int, Long, LLong}
use Rattle.cr_ints.specs.IntKind.{greatest_of, unsigned_of}
use Rattle.cr_tokens.specs.Numbers.{base_of, body_of, radix_of, number_of, is_unsigned}
use Rattle.cr_check_constants.specs.declared.constant.Constant.TheVariants.{Value}
use Rattle.cr_check_constants.specs.declared.constant.Operand.{Operand}
use Rattle.cr_check_constants.specs.Constants.{in_kind}

-- ---- integer constants

-- l or L; and these, u or U: the letters of suffixes, which are no digits
abbrev pub is_long_letter : ℕ → Bool
is_long_letter b = b == 108 || b == 76

abbrev pub is_suffix_letter : ℕ → Bool
is_suffix_letter b = is_long_letter b || (b == 117 || b == 85)

-- what is before the place, if there is one
abbrev pub before : Option ℕ → List ℕ → List ℕ
before (Some at) body = take at body
before None body = body

-- the digits: what is before the suffix
abbrev pub digits_of : List ℕ → List ℕ
digits_of body = before (position is_suffix_letter body) body

-- the number that digits spell; all from 2^64 on are one here, since no kind reaches them
abbrev pub magnitude_of : ℕ → List ℕ → ℕ
magnitude_of radix digits = min (number_of radix digits) (2 ^ 64)

-- the types in the list of a constant (6.4.4.1p5) that stand for one signed kind: with u the unsigned one, else the
-- signed one, and for octal and hexadecimal constants the unsigned one behind it
abbrev pub with_signs : ℕ → Bool → IntKind → List IntKind
with_signs radix unsigned kind =
    if unsigned
    then unsigned_of kind ∷ []
    else (if radix == 10 then kind ∷ [] else kind ∷ unsigned_of kind ∷ [])

-- the kind can represent the number
abbrev pub reaches : ℕ → IntKind → Bool
reaches number kind = int_le (pos number) (greatest_of kind)

-- the first of them that can represent the number
abbrev pub first_sign : ℕ → Bool → ℕ → IntKind → Option IntKind
first_sign radix unsigned number kind = find (reaches number) (with_signs radix unsigned kind)

-- the first of the constant's list: int, long, long long, or those from the one on that so many letters l in the suffix ask for
unfoldable pub first_kind : ℕ → Bool → ℕ → ℕ → Option IntKind
first_kind radix unsigned longs number =
    let int = first_sign radix unsigned number Int in
    let long = first_sign radix unsigned number Long in
    let longest = first_sign radix unsigned number LLong in
    if longs == 0 then option_or int (option_or long longest) else (if longs == 1 then option_or long longest else longest)

-- an integer constant: its type and its value; None where no type of its list has the value
abbrev pub valued : ℕ → Option IntKind → Option Operand
valued number None = None
valued number (Some kind) = Some (record { kind = kind; constant = Value (pos number) })

abbrev pub integer_of : List ℕ → Option Operand
integer_of spelling =
    let radix = radix_of (base_of spelling) in
    let number = magnitude_of radix (digits_of (body_of (base_of spelling) spelling)) in
    valued number (first_kind radix (is_unsigned spelling) (count_by is_long_letter spelling) number)

-- ---- character constants

-- what stands between the quotes
abbrev pub inside_of : List ℕ → List ℕ
inside_of spelling = take (length spelling - 2) (drop 1 spelling)

-- the byte that a simple escape sequence stands for, by its letter (5.2.2p2)
abbrev pub simple_escape_of : ℕ → ℕ
simple_escape_of letter =
    if letter == 97 then 7
    else (if letter == 98 then 8
    else (if letter == 102 then 12
    else (if letter == 110 then 10
    else (if letter == 114 then 13
    else (if letter == 116 then 9
    else (if letter == 118 then 11
    else letter))))))

-- the number that an escape sequence stands for, by what is behind its backslash (6.4.4.4p5 to p7)
abbrev pub escape_of : List ℕ → ℕ
escape_of behind =
    if slice_index behind 0 == 120
    then magnitude_of 16 (drop 1 behind)
    else (if nat_le 48 (slice_index behind 0) && nat_le (slice_index behind 0) 55
    then magnitude_of 8 behind
    else simple_escape_of (slice_index behind 0))

-- the number of a character: its byte, or its escape sequence's
abbrev pub code_of : List ℕ → ℕ
code_of inside = if slice_index inside 0 == 92 then escape_of (drop 1 inside) else slice_index inside 0

-- a character constant: an int, of the value of its byte as a char (6.4.4.4p10); None where it is no byte
abbrev pub character_of_code : ℕ → Option Operand
character_of_code code =
    if nat_le code 255 then Some (record { kind = Int; constant = Value (in_kind Char (pos code)) }) else None

abbrev pub character_of : List ℕ → Option Operand
character_of spelling = character_of_code (code_of (inside_of spelling))
