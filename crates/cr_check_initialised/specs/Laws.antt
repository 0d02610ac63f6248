-- What holds of initialised declarators.
use Rattle.std.specs.Prelude.{◌≡◌, ℕ, List, Option}
use Rattle.cr_check_types.specs.Types.{Qualified}
use Rattle.cr_check_initialisers.specs.Known.{Known}
use Rattle.cr_check_initialisers.specs.Plans.{Entry}
use Rattle.cr_check_initialised.specs.Initialised.{Planned, IsFilled}

-- a node names one type, and has one plan
abbrev pub OneFilling : Type 0
OneFilling = (k : Known) (i : ℕ) (planned : Option Planned) (type one other : Qualified) (xs ys : List Entry)
    → IsFilled k i planned type one xs → IsFilled k i planned type other ys → (one ≡ other) × (xs ≡ ys)
