use Rattle.cr_meaning_declarations.proofs.LinkedLemmas.Sorts.{values_share}
use Rattle.cr_meaning_declarations.proofs.linked.values_share_entities.Goals as goal

pub returns : goal.returns
returns c = values_share
