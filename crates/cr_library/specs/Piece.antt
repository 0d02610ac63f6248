-- The pieces of a format of `printf` (C11 7.21.6.1p3, p4), and how each is spelled.
use Rattle.std.specs.Prelude.{ℕ, ◌<◌, ◌≤◌, Bool, true, false, ◌==◌, if◌then◌else◌, List, [], ◌∷◌, ◌++◌, length, replicate, codes, ⊤}
use Rattle.std.specs.List.{flat_map}
use Rattle.cr_library.specs.declared.piece.Piece.{Piece}
use Rattle.cr_library.specs.declared.piece.Piece.TheVariants.{Bytes, Signed, Unsigned, Hex, Byte, Text}

-- a byte of plain text stands for itself, and `%` is spelled `%%` (7.21.6.1p3 and p8)
abbrev pub escaped : ℕ → List ℕ
escaped byte = if byte == 37 then codes "%%" else byte ∷ []

-- a conversion: `%`, the letters `l` of its length modifier (7.21.6.1p7), its specifier (p8)
abbrev pub conversion : ℕ → List ℕ → List ℕ
conversion letters specifier = codes "%" ++ replicate letters 108 ++ specifier

abbrev pub spelling : Piece → List ℕ
spelling (Bytes bytes) = flat_map escaped bytes
spelling (Signed letters) = conversion letters (codes "d")
spelling (Unsigned letters) = conversion letters (codes "u")
spelling (Hex letters) = conversion letters (codes "x")
spelling Byte = codes "%c"
spelling Text = codes "%s"

-- a run has a byte, and a length modifier is nothing, `l` or `ll`
abbrev pub IsInProfile : Piece → Type 0
IsInProfile (Bytes bytes) = 0 < length bytes
IsInProfile (Signed letters) = letters ≤ 2
IsInProfile (Unsigned letters) = letters ≤ 2
IsInProfile (Hex letters) = letters ≤ 2
IsInProfile Byte = ⊤
IsInProfile Text = ⊤

abbrev pub is_run : Piece → Bool
is_run (Bytes _) = true
is_run (Signed _) = false
is_run (Unsigned _) = false
is_run (Hex _) = false
is_run Byte = false
is_run Text = false
