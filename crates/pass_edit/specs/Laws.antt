-- Laws of edits.
use Rattle.std.specs.Prelude.{ℕ, ◌≡◌, ◌≤◌, ◌<◌, false, List, [], ◌∷◌, ◌++◌, length, map, take, slice_range}
use Rattle.cr_tokens.specs.declared.token.Token.{Token}
use Rattle.pass_edit.specs.declared.change.Change.{Change}
use Rattle.pass_edit.specs.declared.change.Text.TheVariants as text
use Rattle.pass_edit.specs.declared.form.Bit.{Bit}
use Rattle.pass_edit.specs.declared.form.Kept.{Kept}
use Rattle.pass_edit.specs.declared.form.Run.{Run}
use Rattle.pass_edit.specs.Forms.{form_words, without_hole}
use Rattle.pass_edit.specs.Glue.{glued, is_word_byte, last_byte}
use Rattle.pass_edit.specs.Edit.{edited}

-- where texts are put together first makes no difference
abbrev pub GluingIsAssociative : Type 0
GluingIsAssociative = (x y z : List ℕ) → glued (glued x y) z ≡ glued x (glued y z)

-- an edit of no change gives the file
abbrev pub NothingIsTheFile : Type 0
NothingIsTheFile = (file : List ℕ) (kept : Kept) → edited file kept [] ≡ file

-- a range that begins where no word byte stands before it goes without a space: so the lines of a file do
abbrev pub LinesNeedNoSeam : Type 0
LinesNeedNoSeam = (file : List ℕ) (kept : Kept) (from to : ℕ) → is_word_byte (last_byte (take from file)) ≡ false
    → edited file kept (record { start = from; end = to; text = text.Nothing } ∷ []) ≡ take from file ++ slice_range file to (length file)

-- a change within an earlier one makes no difference
abbrev pub NestedGoWithTheOuter : Type 0
NestedGoWithTheOuter = (file : List ℕ) (kept : Kept) (outer inner : Change) (rest : List Change)
    → inner.start < outer.end → inner.end ≤ outer.end
    → edited file kept (outer ∷ inner ∷ rest) ≡ edited file kept (outer ∷ rest)

-- to fill a hole is to have the tokens of its run in its place
abbrev pub HolesAreTheirRuns : Type 0
HolesAreTheirRuns = (file : List ℕ) (tokens : List Token) (runs : List Run) (form : List Bit)
    → form_words file tokens runs form ≡ form_words file tokens [] (map (without_hole runs) form)
