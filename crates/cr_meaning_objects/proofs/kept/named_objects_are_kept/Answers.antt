use Rattle.cr_meaning_objects.proofs.KeptLemmas.Kept.{keep}
use Rattle.cr_meaning_objects.proofs.kept.named_objects_are_kept.Goals as goal

pub returns : goal.returns
returns c = keep
