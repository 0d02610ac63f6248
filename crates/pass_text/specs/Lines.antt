-- The lines pass: 15 levels, of which level 0 removes chunks of 16,384 lines, and each later one chunks half as long.
use Rattle.std.specs.Prelude.{ℕ, ◌+◌, ◌-◌, ◌*◌, ◌^◌, List, [], ◌∷◌, ◌++◌, ◌==◌, nat_le, nat_eq, ◌&&◌, length, take, drop, if◌then◌else◌}
use Rattle.std.specs.Int.{div_ceil}
use Rattle.cr_cursor.specs.declared.passes.Cursor.{Cursor}
use Rattle.cr_cursor.specs.Variants.{Widths}
use Rattle.pass_edit.specs.declared.change.Change.{Change}
use Rattle.pass_edit.specs.declared.change.Text.TheVariants.{Nothing}

-- one byte more before the first line
abbrev pub onto_first : ℕ → List (List ℕ) → List (List ℕ)
onto_first b [] = (b ∷ []) ∷ []
onto_first b (line ∷ lines) = (b ∷ line) ∷ lines

-- the lines of a file: each ends with LF, or with the file
abbrev pub lines_of : List ℕ → List (List ℕ)
lines_of [] = []
lines_of (b ∷ bs) = if b == 10 then (10 ∷ []) ∷ lines_of bs else onto_first b (lines_of bs)

-- lines put together
abbrev pub joined : List (List ℕ) → List ℕ
joined [] = []
joined (line ∷ lines) = line ++ joined lines

-- how many lines a chunk of a level has
abbrev pub chunk_of : ℕ → ℕ
chunk_of level = 2 ^ (14 - level)

-- of so many lines one variant for each chunk, the last one maybe shorter
abbrev pub chunks_of : ℕ → Widths
chunks_of lines pass level = if nat_eq pass 0 && nat_le level 14 then div_ceil lines (chunk_of level) else 0

-- the file without the chunk
abbrev pub lines_bytes : List ℕ → Cursor → List ℕ
lines_bytes file at = joined (take (at.index * chunk_of at.level) (lines_of file)) ++ joined (drop ((at.index + 1) * chunk_of at.level) (lines_of file))

-- the chunk as a change: the bytes from where the lines before it end to where its own last one does
abbrev pub lines_gone : List ℕ → Cursor → Change
lines_gone file at = record {
  start = length (joined (take (at.index * chunk_of at.level) (lines_of file)));
  end = length (joined (take ((at.index + 1) * chunk_of at.level) (lines_of file)));
  text = Nothing;
}

-- how many bytes the first line has
abbrev pub first_len : List ℕ → ℕ
first_len [] = 0
first_len (b ∷ bs) = if b == 10 then 1 else 1 + first_len bs
