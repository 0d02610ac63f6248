use Rattle.cr_claims.proofs.TheCore.{a_core}
use Rattle.cr_claims.proofs.laws.words_and_passes_are_a_core.Goals as goal

pub returns : goal.returns
returns c = a_core
