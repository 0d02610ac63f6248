-- Changes of a file's bytes.
use Rattle.std.specs.Prelude.{ℕ, List, [], ◌∷◌, length, max, nat_le, slice_range, codes, if◌then◌else◌}
use Rattle.pass_edit.specs.declared.change.Change.{Change}
use Rattle.pass_edit.specs.declared.change.Text.{Text}
use Rattle.pass_edit.specs.declared.change.Text.TheVariants as text
use Rattle.pass_edit.specs.declared.form.Kept.{Kept}
use Rattle.pass_edit.specs.Forms.{filled}
use Rattle.pass_edit.specs.Glue.{glued_all}

-- the bytes that a text stands for; `kept` holds what is no part of the file
abbrev pub text_bytes : List ℕ → Kept → Text → List ℕ
text_bytes file kept text.Nothing = []
text_bytes file kept text.Zero = codes "0"
text_bytes file kept text.One = codes "1"
text_bytes file kept text.Semicolon = codes ";"
text_bytes file kept text.Void = codes "void"
text_bytes file kept (text.Same from to) = slice_range file from to
text_bytes file kept (text.Kept from to) = slice_range kept.bytes from to
text_bytes file kept (text.Filled first form runs) = filled file kept first form runs

-- what stands from a place on: the bytes up to a change, its text, and what stands behind it. A change that begins within an earlier
-- one goes with it
abbrev pub pieces : List ℕ → Kept → ℕ → List Change → List (List ℕ)
pieces file kept at [] = slice_range file at (length file) ∷ []
pieces file kept at (change ∷ changes) = if nat_le at change.start
    then slice_range file at change.start ∷ (text_bytes file kept change.text ∷ pieces file kept change.end changes)
    else pieces file kept (max at change.end) changes

-- the file after an edit
abbrev pub edited : List ℕ → Kept → List Change → List ℕ
edited file kept changes = glued_all [] (pieces file kept 0 changes)
