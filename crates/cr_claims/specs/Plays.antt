-- What a step tells its pass.
use Rattle.std.specs.Prelude.{◌≡◌, ℕ, ◌%◌, ◌<◌, ◌⊎◌, []}
use Rattle.cr_core.specs.declared.marks.Mark.TheVariants.{Hit}
use Rattle.cr_core.specs.Row.{Row, last_position, with_last}
use Rattle.cr_core.specs.State.{kind_of}

-- the number n is above the last position of a list, if that has one
abbrev pub RisesAbove : ℕ → Row → Type 0
RisesAbove n l = (l ≡ []) ⊎ (last_position l < n)

-- the list after a hit with the word w, which holds the kind
abbrev pub hit_list : ℕ → Row → Row
hit_list w l = with_last (Hit (kind_of (w % 4))) l
