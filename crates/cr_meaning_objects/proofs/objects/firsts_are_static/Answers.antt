use Rattle.cr_meaning_objects.proofs.ObjectsLemmas.Statics.{statics}
use Rattle.cr_meaning_objects.proofs.objects.firsts_are_static.Goals as goal

pub returns : goal.returns
returns c = statics
