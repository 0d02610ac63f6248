use Rattle.cr_meaning_objects.proofs.ChainedLemmas.Chained.{one_outline}
use Rattle.cr_meaning_objects.proofs.chained.functions_are_of_one_outline.Goals as goal

pub returns : goal.returns
returns c = one_outline
