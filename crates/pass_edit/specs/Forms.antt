-- Texts that are spelled anew: forms with holes, which runs of tokens fill.
use Rattle.std.specs.Prelude.{ℕ, List, [], ◌∷◌, ◌++◌, slice_index_or, slice_range, if◌then◌else◌}
use Rattle.cr_tokens.specs.declared.token.Token.{Token}
use Rattle.cr_tokens.specs.Runs.{spellings}
use Rattle.pass_edit.specs.declared.form.Bit.{Bit}
use Rattle.pass_edit.specs.declared.form.Bit.TheVariants as bit
use Rattle.pass_edit.specs.declared.form.Kept.{Kept}
use Rattle.pass_edit.specs.declared.form.Run.{Run}
use Rattle.pass_edit.specs.declared.form.Sign.{Sign}
use Rattle.pass_edit.specs.declared.form.Sign.TheVariants as sign
use Rattle.pass_edit.specs.Space.{needs_space}

abbrev pub sign_byte : Sign → ℕ
sign_byte sign.OpenParenthesis = 40
sign_byte sign.CloseParenthesis = 41
sign_byte sign.OpenBrace = 123
sign_byte sign.CloseBrace = 125
sign_byte sign.Equals = 61
sign_byte sign.Semicolon = 59

-- the run with which a hole is filled; one that isn't there is empty
abbrev pub run_at : List Run → ℕ → Run
run_at runs at = slice_index_or runs at (record { from = 0; to = 0 })

abbrev pub spelled : List ℕ → List Token → Run → List (List ℕ)
spelled file tokens run = spellings file (slice_range tokens run.from run.to)

-- the spellings that a bit of a form stands for
abbrev pub bit_words : List ℕ → List Token → List Run → Bit → List (List ℕ)
bit_words file tokens runs (bit.Tokens run) = spelled file tokens run
bit_words file tokens runs (bit.Put s) = (sign_byte s ∷ []) ∷ []
bit_words file tokens runs (bit.Hole k) = spelled file tokens (run_at runs k)

abbrev pub form_words : List ℕ → List Token → List Run → List Bit → List (List ℕ)
form_words file tokens runs [] = []
form_words file tokens runs (b ∷ bs) = bit_words file tokens runs b ++ form_words file tokens runs bs

-- a bit of which a hole is filled
abbrev pub without_hole : List Run → Bit → Bit
without_hole runs (bit.Tokens run) = bit.Tokens run
without_hole runs (bit.Put s) = bit.Put s
without_hole runs (bit.Hole k) = bit.Tokens (run_at runs k)

-- spellings behind another one, with a space wherever two would be read otherwise
abbrev pub after : List ℕ → List (List ℕ) → List ℕ
after left [] = []
after left (word ∷ words) = (if needs_space left word then 32 ∷ [] else []) ++ word ++ after word words

abbrev pub joined : List (List ℕ) → List ℕ
joined [] = []
joined (word ∷ words) = word ++ after word words

-- a sign, and behind it a form whose holes are filled
abbrev pub filled : List ℕ → Kept → Sign → ℕ → ℕ → List ℕ
filled file kept first form runs =
    joined ((sign_byte first ∷ []) ∷ form_words file kept.tokens (slice_index_or kept.runs runs []) (slice_index_or kept.forms form []))

-- nothing is kept
abbrev pub nothing_kept : Kept
nothing_kept = record { bytes = []; tokens = []; forms = []; runs = [] }
