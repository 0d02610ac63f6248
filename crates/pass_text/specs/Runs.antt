-- Pass t: runs of 16, 8, 4, 2 tokens, and single ones.
use Rattle.std.specs.Prelude.{ℕ, ◌+◌, ◌-◌, List, [], ◌∷◌, length, map}
use Rattle.cr_tokens.specs.declared.token.Token.{Token}
use Rattle.pass_edit.specs.declared.change.Change.{Change}
use Rattle.pass_edit.specs.Forms.{nothing_kept}
use Rattle.pass_edit.specs.Menu.{Offering}
use Rattle.pass_levels.specs.Gathered.{gathered}
use Rattle.pass_levels.specs.Places.{gone}

-- a token and so many more behind it go
abbrev pub run_gone : List Token → ℕ → ℕ → List (List Change)
run_gone tokens more at = (gone tokens at (at + more) ∷ []) ∷ []

-- one edit for each run of a token and so many more, in the order of the first ones
abbrev pub runs_gone : List Token → ℕ → List (List Change)
runs_gone tokens more = gathered (run_gone tokens more) (length tokens - more)

-- What pass t offers: at each level one edit for each run, of 16 tokens at level 0, and half as many at each next one.
abbrev pub t_offering : List Token → Offering
t_offering tokens = record { levels = map (runs_gone tokens) (15 ∷ (7 ∷ (3 ∷ (1 ∷ (0 ∷ []))))); kept = nothing_kept }
