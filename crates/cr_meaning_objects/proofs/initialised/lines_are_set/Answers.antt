use Rattle.cr_meaning_objects.proofs.InitialisedLemmas.Lines.{lines}
use Rattle.cr_meaning_objects.proofs.initialised.lines_are_set.Goals as goal

pub returns : goal.returns
returns c = lines
