use Rattle.cr_meaning_objects.proofs.ObjectsLemmas.Objects.{shared}
use Rattle.cr_meaning_objects.proofs.objects.shared_objects_are_linked.Goals as goal

pub returns : goal.returns
returns c = shared
