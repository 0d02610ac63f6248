use Rattle.cr_meaning_references.proofs.ConstantLemmas.Once.{once}
use Rattle.cr_meaning_references.proofs.constant.names_are_told_once.Goals as goal

pub returns : goal.returns
returns c = once
