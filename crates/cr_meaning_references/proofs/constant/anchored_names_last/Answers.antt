use Rattle.cr_meaning_references.proofs.ConstantLemmas.Names.{last}
use Rattle.cr_meaning_references.proofs.constant.anchored_names_last.Goals as goal

pub returns : goal.returns
returns c = last
