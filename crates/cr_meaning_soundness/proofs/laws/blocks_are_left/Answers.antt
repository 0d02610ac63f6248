use Rattle.cr_meaning_soundness.proofs.Worlds.{block_ends}
use Rattle.cr_meaning_soundness.proofs.laws.blocks_are_left.Goals as goal

pub returns : goal.returns
returns c = block_ends
