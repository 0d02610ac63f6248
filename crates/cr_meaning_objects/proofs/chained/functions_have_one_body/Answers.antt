use Rattle.cr_meaning_objects.proofs.ChainedLemmas.Chained.{one_body}
use Rattle.cr_meaning_objects.proofs.chained.functions_have_one_body.Goals as goal

pub returns : goal.returns
returns c = one_body
