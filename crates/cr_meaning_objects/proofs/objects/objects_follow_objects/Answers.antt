use Rattle.cr_meaning_objects.proofs.ObjectsLemmas.Objects.{follow}
use Rattle.cr_meaning_objects.proofs.objects.objects_follow_objects.Goals as goal

pub returns : goal.returns
returns c = follow
