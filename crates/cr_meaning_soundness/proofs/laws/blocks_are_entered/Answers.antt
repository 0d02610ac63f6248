use Rattle.cr_meaning_soundness.proofs.Worlds.{block_begins}
use Rattle.cr_meaning_soundness.proofs.laws.blocks_are_entered.Goals as goal

pub returns : goal.returns
returns c = block_begins
