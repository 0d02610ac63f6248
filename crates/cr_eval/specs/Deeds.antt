-- A node's own events, as the code keeps them.
use Rattle.std.specs.Prelude.{List, [], ◌++◌}
use Rattle.cr_meaning.specs.Events.{Event, Reads, Touches, Writes}
use Rattle.cr_meaning.specs.Work.{events_from, deed_of}
use Rattle.cr_eval.specs.declared.did.Deeds.{Deeds}
use Rattle.cr_eval.specs.declared.did.Deeds.TheVariants.{Nothing, Read, Touch, Write, Update}

abbrev pub events_of : Deeds → List Event
events_of Nothing = []
events_of (Read object first count) = events_from Reads object first count
events_of (Touch object cell) = events_from Touches object cell 1
events_of (Write object first count) = events_from Writes object first count
events_of (Update object cell volatile) = events_from (deed_of volatile) object cell 1 ++ events_from Writes object cell 1
