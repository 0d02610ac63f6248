-- What a reader expects of evaluations without side effects.
use Rattle.std.specs.Prelude.{ℕ, Bool, Some}
use Rattle.cr_footprint.specs.Cell.{Cell as Place}
use Rattle.cr_meaning.specs.Language.{gave}
use Rattle.cr_meaning.specs.Nodes.{events_of}
use Rattle.cr_meaning.specs.World.{Program, World, Answer}
use Rattle.cr_meaning.specs.Meaning.{body, reach}
use Rattle.cr_meaning_seen.specs.Seen.{Forest, bare, node, Sees}
use Rattle.cr_meaning_frames.specs.Frame.{ArePlain, IsFramed}

-- an evaluation without write, touch and call rests on the cells that it reads and on the objects that live. It is said of one that comes to an
-- answer: where another memory has more objects, no pointer to one of them was used in it
abbrev pub EvaluationsRestOnTheirReads : Type 0
EvaluationsRestOnTheirReads = (p : Program) (cells : Place → Bool) (number : ℕ) (s t : World) (answer : Answer) (forest : Forest)
    → Sees p (body p (reach number)) s (gave answer t) forest → ArePlain p cells (node number forest (Some (events_of answer)) bare)
    → IsFramed p cells (body p (reach number)) s answer t forest
