-- The variants of a file in order: passes rising, in each pass its levels, in each level its indices from 0.
use Rattle.std.specs.Prelude.{ℕ, zero, suc, ◌+◌, List, [], ◌∷◌, ◌++◌, length, min}
use Rattle.cr_cursor.specs.declared.passes.Cursor.{Cursor}

-- how many passes are numbered, from 0; one that isn't made, or isn't enabled, offers nothing
abbrev pub pass_count : ℕ
pass_count = 12

-- how many variants a pass and a level of it have
abbrev pub Widths : Type 0
Widths = ℕ → ℕ → ℕ

abbrev pub cursor : ℕ → ℕ → ℕ → Cursor
cursor pass level index = record { pass = pass; level = level; index = index }

-- What is offered for a file: how many variants each level has, and the bytes of each.
pub record Offer : Type 0 where
  pub widths : Widths
  pub bytes : Cursor → List ℕ

-- the cursors of one level, with an index below n
unfoldable pub level_cursors : ℕ → ℕ → ℕ → List Cursor
level_cursors pass level zero = []
level_cursors pass level (suc n) = level_cursors pass level n ++ cursor pass level n ∷ []

-- the cursors of a pass, in its levels below n
unfoldable pub pass_cursors : Widths → ℕ → ℕ → List Cursor
pass_cursors width pass zero = []
pass_cursors width pass (suc n) = pass_cursors width pass n ++ level_cursors pass n (width pass n)

-- the cursors of the passes below n, each of 16 levels
unfoldable pub cursors_below : Widths → ℕ → List Cursor
cursors_below width zero = []
cursors_below width (suc n) = cursors_below width n ++ pass_cursors width n 16

-- the cursors of all variants, in all passes
unfoldable pub cursors : Widths → List Cursor
cursors width = cursors_below width pass_count

-- The place of a cursor among all; of a cursor past its level's width, the first place after that level.
abbrev pub place_of : Widths → Cursor → ℕ
place_of width at = length (cursors_below width at.pass) + length (pass_cursors width at.pass at.level) + min at.index (width at.pass at.level)
