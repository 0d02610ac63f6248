-- Objects to be initialised, by the rows of their types.
use Rattle.std.specs.Prelude.{ℕ, Option, None, Some}
use Rattle.cr_check_types.specs.Types.{Qualified}
use Rattle.cr_check_initialised.specs.declared.initialised.Object.{Object}
use Rattle.cr_check_initialised.specs.Initialised.{Planned}

abbrev pub planned_of : (ℕ → Qualified) → Option Object → Option Planned
planned_of look None = None
planned_of look (Some object) = Some (record { type = look object.row; initialiser = object.initialiser })
