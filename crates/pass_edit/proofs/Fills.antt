-- Spellings put behind one another.
use native.Mathlib.Omega.{arith}
use Rattle.std.proofs.Common.{◌≡◌, ◌<◌, ◌+◌, ℕ, List, [], ◌∷◌, ◌++◌, if◌then◌else◌, length, drop, map, refl, sym, ap, ◌∙◌}
use Rattle.std.proofs.lemmas.List.{append_assoc, drop_more}
use Rattle.std.specs.Prelude.{slice_index_or, slice_range}
use Rattle.cr_tokens.specs.declared.token.Token.{Token}
use Rattle.cr_tokens.specs.Runs.{spellings}
use Rattle.pass_edit.specs.declared.form.Bit.{Bit}
use Rattle.pass_edit.specs.declared.form.Run.{Run}
use Rattle.pass_edit.specs.declared.form.Bit.TheVariants as bit
use Rattle.pass_edit.specs.Forms.{after, bit_words, form_words, without_hole}
use Rattle.pass_edit.specs.Space.{needs_space}
use Rattle.pass_edit.proofs.Glues.{front_grows}

abbrev gap : List ℕ → List ℕ → List ℕ
gap left word = if needs_space left word then 32 ∷ [] else []

-- A spelling, and what comes behind it.
pub one_more : (out left word : List ℕ) (words : List (List ℕ)) → out ++ after left (word ∷ words) ≡ (out ++ gap left word ++ word) ++ after word words
one_more out left word words =
    sym (append_assoc out (gap left word ++ word) (after word words))
    ∙ ap {B = List ℕ} (λ t. t ++ after word words) (sym (append_assoc out (gap left word) word))

-- A text that is too long for its first part alone stays so.
pub longer : (out more : List ℕ) (most : ℕ) → most < length out → most < length (out ++ more)
longer out more most less = let grows = front_grows out more in omega (arith, grows)

-- Where there is no room for the next token of a run, there is none for the run and what comes behind it either.
pub full_run : (file : List ℕ) (tokens : List Token) (i : ℕ) (d : Token) (out left : List ℕ) (most : ℕ) → i < length tokens
    → most < length (out ++ gap left (slice_range file (slice_index_or tokens i d).start (slice_index_or tokens i d).end) ++ slice_range file (slice_index_or tokens i d).start (slice_index_or tokens i d).end)
    → (rest : List (List ℕ)) → most < length (out ++ after left (spellings file (drop i tokens) ++ rest))
full_run file tokens i d out left most below less rest =
    let word : List ℕ = slice_range file (slice_index_or tokens i d).start (slice_index_or tokens i d).end in
    let words = spellings file (drop (i + 1) tokens) ++ rest in
    rw (drop_more tokens i d below) (rw (one_more out left word words) (longer (out ++ gap left word ++ word) (after word words) most less))

-- A form whose holes are filled.
bit_filled : (file : List ℕ) (tokens : List Token) (runs : List Run) (b : Bit) → bit_words file tokens runs b ≡ bit_words file tokens [] (without_hole runs b)
bit_filled file tokens runs (bit.Tokens run) = refl
bit_filled file tokens runs (bit.Put s) = refl
bit_filled file tokens runs (bit.Hole k) = refl

pub form_filled : (file : List ℕ) (tokens : List Token) (runs : List Run) (form : List Bit) → form_words file tokens runs form ≡ form_words file tokens [] (map (without_hole runs) form)
form_filled file tokens runs [] = refl
form_filled file tokens runs (b ∷ bs) = rw (bit_filled file tokens runs b) (rw (form_filled file tokens runs bs) refl)
