-- What contracts read of judges.
use Rattle.std.specs.Prelude.{◌≡◌, ◌<◌, ℕ, List, [], ◌∷◌, Option, None, length, map, slice_index_or}
use Rattle.cr_core.specs.Sound.{total}
use Rattle.cr_outside.specs.declared.judge.Judge.{Ghosts as JudgeGhosts}
use Rattle.cr_outside.specs.Judge.{Call}
use Rattle.cr_outside.specs.Question.{Says}

-- What a judge tells of itself: its calls, how many there were, and how often it failed.
pub record Tally : Type 0 where
  pub calls : Option (List Call)
  pub asked : ℕ
  pub faults : ℕ

abbrev pub tally_of : {J K : Type 0} → JudgeGhosts J K → J → Tally
tally_of judge j = record { calls = judge.calls j; asked = judge.asked j; faults = judge.faults j }

abbrev pub tallies_of : {J K : Type 0} → JudgeGhosts J K → List J → List Tally
tallies_of judge judges = map (tally_of judge) judges

-- the tally of a judge that isn't there
abbrev pub no_tally : Tally
no_tally = record { calls = None; asked = 0; faults = 0 }

-- the tally of the judge of this number
abbrev pub tally_at : List Tally → ℕ → Tally
tally_at tallies worker = slice_index_or tallies worker no_tally

-- how many calls all these judges were asked
abbrev pub asked_in : List Tally → ℕ
asked_in tallies = total (λ (t : Tally). t.asked) tallies

-- what the first judge says at its key
abbrev pub first_says : {J K : Type 0} → (J → K) → (K → Says) → List J → Says
first_says key says [] = λ test name file. None
first_says key says (judge ∷ judges) = says (key judge)

-- any two judges have one key
abbrev pub HaveOneKey : {J K : Type 0} → (J → K) → List J → Type 0
HaveOneKey {J} key judges = (i j : ℕ) (d : J) → i < length judges → j < length judges → key (slice_index_or judges i d) ≡ key (slice_index_or judges j d)
