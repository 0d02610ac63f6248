-- The conversions of a format as it is spelled (C11 7.21.6.1p3, p4, p7, p8).
use Rattle.std.specs.Prelude.{ℕ, zero, suc, ◌+◌, ◌-◌, ◌==◌, ◌&&◌, ◌||◌, not, Bool, false, nat_le, List, [], ◌∷◌, drop, length, slice_index, slice_index_or, if◌then◌else◌}
use Rattle.pass_levels.specs.Gathered.{gathered}
use Rattle.pass_output.specs.declared.conversions.Conversion.{Conversion}

-- d, u or x, before which letters l may stand; and c or s, which stand alone (p7, p8)
abbrev pub takes_length : ℕ → Bool
takes_length b = (b == 100) || (b == 117) || (b == 120)

abbrev pub stands_alone : ℕ → Bool
stands_alone b = (b == 99) || (b == 115)

-- how many bytes a conversion has behind its `%`, by the three bytes that follow; none where these begin no conversion
abbrev pub letters_behind_l : ℕ → ℕ → ℕ
letters_behind_l second third = if takes_length second then 2 else if (second == 108) && takes_length third then 3 else 0

abbrev pub letters_by : ℕ → ℕ → ℕ → ℕ
letters_by first second third = if takes_length first || stands_alone first then 1 else if first == 108 then letters_behind_l second third else 0

abbrev pub letters_of : List ℕ → ℕ
letters_of behind = letters_by (slice_index behind 0) (slice_index behind 1) (slice_index behind 2)

-- the byte at a place is the second one of a `%%`: a `%` stands before it that isn't such a second one itself (p8)
abbrev pub is_second : List ℕ → ℕ → Bool
is_second text zero = false
is_second text (suc at) = (slice_index text at == 37) && not (is_second text at)

-- the conversion of a `%` at a place, by what stands behind it
abbrev pub conversion_by : List ℕ → ℕ → List Conversion
conversion_by behind at = if nat_le 1 (letters_of behind)
    then record { start = at; end = at + 1 + letters_of behind; letter = slice_index behind 0 } ∷ [] else []

-- the conversion that begins at a place, where one does
abbrev pub conversion_if : Bool → List ℕ → ℕ → List Conversion
conversion_if second text at = if (slice_index text at == 37) && not second then conversion_by (drop (at + 1) text) at else []

abbrev pub conversion_from : List ℕ → ℕ → List Conversion
conversion_from text at = conversion_if (is_second text at) text at

-- all conversions of a text, in order
abbrev pub conversions_of : List ℕ → List Conversion
conversions_of text = gathered (conversion_from text) (length text)

-- the conversion of a number; one that isn't there has no bytes
abbrev pub conversion_at : List Conversion → ℕ → Conversion
conversion_at conversions at = slice_index_or conversions at (record { start = 0; end = 0; letter = 0 })

-- where the text before a conversion begins: behind the one before it, and at first behind the literal's quote
abbrev pub end_before : List Conversion → ℕ → ℕ
end_before conversions at = if at == 0 then 1 else (conversion_at conversions (at - 1)).end

-- a conversion of an integer other than `%d`: it begins neither with d nor with s
abbrev pub is_other : ℕ → Bool
is_other letter = not (letter == 100) && not (letter == 115)
