use Rattle.cr_meaning_typing.proofs.StatementsLemmas.Given.{blocks}
use Rattle.cr_meaning_typing.proofs.statements.blocks_are_good.Goals as goal

pub returns : goal.returns
returns c = blocks
