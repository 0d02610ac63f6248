use Rattle.cr_meaning_objects.proofs.ComposedLemmas.Planned.{planned}
use Rattle.cr_meaning_objects.proofs.composed.planned_declare_objects.Goals as goal

pub returns : goal.returns
returns c = planned
