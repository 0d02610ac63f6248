-- The conversion that stands after a `%`, with what follows it, as the contracts of the reader say it.
use Rattle.std.specs.Prelude.{ℕ, ◌&&◌, ◌==◌, if◌then◌else◌, List, [], ◌∷◌, Option, Some, None}
use Rattle.cr_library.specs.declared.piece.Piece.{Piece}
use Rattle.cr_library.specs.declared.piece.Piece.TheVariants.{Signed, Unsigned, Hex, Byte, Text}

-- by the specifier, after the letters of a length modifier
abbrev pub specified : ℕ → List ℕ → Option (Piece × List ℕ)
specified letters [] = None
specified letters (specifier ∷ rest) =
    if specifier == 100 then Some (Signed letters, rest)
    else if specifier == 117 then Some (Unsigned letters, rest)
    else if specifier == 120 then Some (Hex letters, rest)
    else if (specifier == 99) && (letters == 0) then Some (Byte, rest)
    else if (specifier == 115) && (letters == 0) then Some (Text, rest)
    else None

abbrev pub after_letter : List ℕ → Option (Piece × List ℕ)
after_letter [] = None
after_letter (letter ∷ rest) = if letter == 108 then specified 2 rest else specified 1 (letter ∷ rest)

abbrev pub converted : List ℕ → Option (Piece × List ℕ)
converted [] = None
converted (letter ∷ rest) = if letter == 108 then after_letter rest else specified 0 (letter ∷ rest)
