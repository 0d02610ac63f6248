-- What a script answers.
use Rattle.std.specs.Prelude.{ℕ, Bool, true, false, List, [], ◌∷◌, map, if◌then◌else◌, Option, Some}
use Rattle.std.specs.Str.{bytes_eq}
use Rattle.std.specs.Global.{Vec}
use Rattle.cr_outside.specs.declared.judge.Answer.{Answer}
use Rattle.cr_outside.specs.declared.judge.Answer.TheVariants.{Yes}

-- the rows, each a file with its answer, and the other answer
abbrev pub Table : Type 0
Table = List (List ℕ × Answer) × Answer

abbrev pub row_of : (Vec ℕ × Answer) → (List ℕ × Answer)
row_of row = (row.0.items, row.1)

abbrev pub table_of : List (Vec ℕ × Answer) → Answer → Table
table_of rows other = (map row_of rows, other)

-- the answer of the first row with the file, else the other one
abbrev pub first_answer : List (List ℕ × Answer) → Answer → List ℕ → Answer
first_answer [] other file = other
first_answer (row ∷ rows) other file = if bytes_eq row.0 file then row.1 else first_answer rows other file

abbrev pub answer_of : Table → List ℕ → Answer
answer_of table file = first_answer table.0 table.1 file

abbrev pub is_yes : Answer → Bool
is_yes Yes = true
is_yes _ = false

-- yes exactly where the table says Yes
abbrev pub told_of : Table → List ℕ → Option Bool
told_of table file = Some (is_yes (answer_of table file))
