-- The texts: the log of a reduction and its summary.
use Rattle.std.specs.Prelude.{ℕ, List, [], ◌∷◌, ◌++◌, ◌==◌, length, map, slice_index, codes, decimal, if◌then◌else◌}
use Rattle.std.specs.List.{flat_map, join_with_byte}
use Rattle.cr_reduce.specs.declared.end.Accepted.{Accepted}
use Rattle.cr_reduce.specs.declared.end.End.{End}
use Rattle.cr_reduce.specs.declared.end.Why.{Why}
use Rattle.cr_reduce.specs.declared.end.Why.TheVariants.{Fixed, Limit, Fault, NoMemory}

-- fields with one space between each two
abbrev pub spaced : List (List ℕ) → List ℕ
spaced fields = join_with_byte 32 fields

-- a line with the LF that ends it
abbrev pub line_text : List ℕ → List ℕ
line_text line = line ++ 10 ∷ []

-- the letters of the passes, in order
abbrev pub letter_of : ℕ → ℕ
letter_of pass = slice_index (codes "ltbusciprfvo") pass

-- the line of an accepted variant: LETTER LEVEL INDEX SIZE TURN
abbrev pub accepted_line : Accepted → List ℕ
accepted_line one =
    spaced ((letter_of one.at.pass ∷ []) ∷ decimal one.at.level ∷ decimal one.at.index ∷ decimal one.size ∷ decimal one.turn ∷ [])

-- why a reduction ended, as a number: 0 at a fixed point, 1 at the limit, 2 at a fault of the test
abbrev pub why_number : Why → ℕ
why_number Fixed = 0
why_number Limit = 1
why_number (Fault turn worker) = 2
why_number NoMemory = 3

-- the word for that number
abbrev pub why_word : ℕ → List ℕ
why_word why = if why == 0 then codes "fixed" else (if why == 1 then codes "limit" else codes "fault")

-- the last line: end WHY SIZE TURNS
abbrev pub last_line : ℕ → ℕ → ℕ → List ℕ
last_line why size turns = spaced (codes "end" ∷ why_word why ∷ decimal size ∷ decimal turns ∷ [])

-- the text of a log: the lines of the accepted variants, in order, and the last line
abbrev pub text_of : List Accepted → ℕ → ℕ → ℕ → List ℕ
text_of accepted why size turns = flat_map line_text (map accepted_line accepted) ++ line_text (last_line why size turns)

-- the log of a reduction whose file has this size at the end
abbrev pub log_text_of : End → ℕ → List ℕ
log_text_of end size = text_of end.accepted.items (why_number end.why) size end.turns

-- the summary: NAME size OLD to NEW accepted COUNT turns TURNS WHY
abbrev pub summary_text_of : List ℕ → ℕ → ℕ → End → List ℕ
summary_text_of name old new end =
    line_text (spaced (name ∷ codes "size" ∷ decimal old ∷ codes "to" ∷ decimal new ∷ codes "accepted" ∷ decimal (length end.accepted.items) ∷ codes "turns" ∷ decimal end.turns ∷ why_word (why_number end.why) ∷ []))
