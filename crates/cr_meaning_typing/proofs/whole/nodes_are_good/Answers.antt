use Rattle.cr_meaning_typing.proofs.WholeLemmas.Statements.{nodes}
use Rattle.cr_meaning_typing.proofs.whole.nodes_are_good.Goals as goal

pub returns : goal.returns
returns c = nodes
