-- Preprocessing numbers (C11 6.4.8), and the integer constants among them (6.4.4.1).
use Rattle.std.specs.Prelude.{◌≡◌, ℕ, ◌+◌, ◌-◌, ◌*◌, ◌^◌, ◌<◌, ◌⊎◌, ◌||◌, ◌==◌, List, [], ◌∷◌, codes, Bool, true, false, nat_le, fold, slice_index, take, drop, if◌then◌else◌}
use Rattle.std.specs.List.{list_any}
use Rattle.cr_tokens.specs.declared.number.Base.{Base}
use Rattle.cr_tokens.specs.declared.number.Base.TheVariants.{Decimal, Octal, Hexadecimal}
use Rattle.cr_tokens.specs.Bytes.{IsDigit, IsOctalDigit, IsHexDigit, IsWordByte, Each, is_among}

-- a letter before a sign that belongs to the number: e E p P
abbrev pub IsExponent : ℕ → Type 0
IsExponent b = (b ≡ 101) ⊎ (b ≡ 69) ⊎ (b ≡ 112) ⊎ (b ≡ 80)

-- + or -
abbrev pub IsSign : ℕ → Type 0
IsSign b = (b ≡ 43) ⊎ (b ≡ 45)

-- the byte at `at` carries on a number that has begun before it: a digit, a letter, an underscore, a dot, or
-- a sign directly after e, E, p or P
abbrev pub IsNumberPart : List ℕ → ℕ → Type 0
IsNumberPart file at =
    IsWordByte (slice_index file at) ⊎ (slice_index file at ≡ 46)
    ⊎ (IsSign (slice_index file at) × IsExponent (slice_index file (at - 1)))

-- a number begins at `from`: with a digit, or with a dot and a digit
abbrev pub BeginsNumber : List ℕ → ℕ → Type 0
BeginsNumber file from =
    IsDigit (slice_index file from) ⊎ ((slice_index file from ≡ 46) × IsDigit (slice_index file (from + 1)))

-- the bytes from `from` to before `to` are a preprocessing number
pub record IsNumber (file : List ℕ) (from to : ℕ) : Type 0 where
  pub not_empty : from < to
  pub first : BeginsNumber file from
  pub second : slice_index file from ≡ 46 → from + 1 < to
  pub each : (k : ℕ) → from < k → k < to → IsNumberPart file k

-- the value of a digit
abbrev pub digit_value : ℕ → ℕ
digit_value b = if nat_le b 57 then b - 48 else (if nat_le b 70 then b - 55 else b - 87)

-- the number that digits spell in a base
abbrev pub number_of : ℕ → List ℕ → ℕ
number_of base digits = fold (λ n b. n * base + digit_value b) 0 digits

-- an integer constant's base: 0x or 0X stands before hexadecimal digits, octal digits begin with 0
abbrev pub base_of : List ℕ → Base
base_of spelling =
    if slice_index spelling 0 == 48
    then (if slice_index spelling 1 == 120 || slice_index spelling 1 == 88 then Hexadecimal else Octal)
    else Decimal

-- the digits and the suffix
abbrev pub body_of : Base → List ℕ → List ℕ
body_of Decimal spelling = spelling
body_of Octal spelling = spelling
body_of Hexadecimal spelling = drop 2 spelling

abbrev pub radix_of : Base → ℕ
radix_of Decimal = 10
radix_of Octal = 8
radix_of Hexadecimal = 16

abbrev pub IsDigitOf : Base → ℕ → Type 0
IsDigitOf Decimal b = IsDigit b
IsDigitOf Octal b = IsOctalDigit b
IsDigitOf Hexadecimal b = IsHexDigit b

-- the suffixes of integer constants
abbrev pub suffixes : List (List ℕ)
suffixes =
    [] ∷ codes "u" ∷ codes "U" ∷ codes "l" ∷ codes "L" ∷ codes "ll" ∷ codes "LL"
    ∷ codes "ul" ∷ codes "uL" ∷ codes "Ul" ∷ codes "UL" ∷ codes "ull" ∷ codes "uLL" ∷ codes "Ull" ∷ codes "ULL"
    ∷ codes "lu" ∷ codes "lU" ∷ codes "Lu" ∷ codes "LU" ∷ codes "llu" ∷ codes "llU" ∷ codes "LLu" ∷ codes "LLU" ∷ []

-- a suffix with u or U
abbrev pub is_unsigned : List ℕ → Bool
is_unsigned suffix = list_any (λ b. b == 117 || b == 85) suffix

-- the last type in the constant's list of 6.4.4.1p5 is long long for a decimal constant without u, and
-- unsigned long long for every other one. So the constant has a type where its value is below:
abbrev pub limit_of : Base → Bool → ℕ
limit_of Decimal false = 2 ^ 63
limit_of Decimal true = 2 ^ 64
limit_of Octal unsigned = 2 ^ 64
limit_of Hexadecimal unsigned = 2 ^ 64

-- the spelling is an integer constant that has a type: `count` digits of its base, and a suffix
pub record IsIntegerOf (base : Base) (body : List ℕ) (count : ℕ) : Type 0 where
  pub some : 0 < count
  pub digits : Each (IsDigitOf base) body 0 count
  pub suffix : is_among suffixes (drop count body) ≡ true
  pub typed : number_of (radix_of base) (take count body) < limit_of base (is_unsigned (drop count body))

abbrev pub IsInteger : List ℕ → Type 0
IsInteger spelling =
    (count : ℕ) × IsIntegerOf (base_of spelling) (body_of (base_of spelling) spelling) count
