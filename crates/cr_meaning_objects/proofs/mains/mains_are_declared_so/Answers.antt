use Rattle.cr_meaning_objects.proofs.MainsLemmas.Mains.{declared_so}
use Rattle.cr_meaning_objects.proofs.mains.mains_are_declared_so.Goals as goal

pub returns : goal.returns
returns c = declared_so
