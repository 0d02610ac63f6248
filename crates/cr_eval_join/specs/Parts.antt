-- The code's parts, as answers of the meaning: a value, and the footprint of the events.
use Rattle.std.specs.Prelude.{◌≡◌, List, [], ◌∷◌}
use Rattle.cr_footprint.specs.Foot.{sets}
use Rattle.cr_footprint.specs.declared.foot.Foot.{Foot}
use Rattle.cr_meaning.specs.Events.{Event}
use Rattle.cr_meaning.specs.Merged.{sets_of}
use Rattle.cr_meaning.specs.World.{Answer, part}
use Rattle.cr_eval_join.specs.declared.part.Part.{Part}

-- the footprint has the cells of these events, and no others
pub record IsFootOf (foot : Foot) (events : List Event) : Type 0 where
  pub same : sets foot ≡ sets_of events

-- an answer with the part's value, and with events of its footprint
abbrev pub IsPartOf : Part → Answer → Type 0
IsPartOf given (part value events) = (given.value ≡ value) × IsFootOf given.foot events
IsPartOf given other = ⊥

abbrev pub ArePartsOf : List Part → List Answer → Type 0
ArePartsOf [] [] = Unit {0}
ArePartsOf [] (answer ∷ answers) = ⊥
ArePartsOf (given ∷ parts) [] = ⊥
ArePartsOf (given ∷ parts) (answer ∷ answers) = IsPartOf given answer × ArePartsOf parts answers
