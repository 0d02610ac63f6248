use Rattle.cr_meaning_typing.proofs.StatementsLemmas.Given.{declarations}
use Rattle.cr_meaning_typing.proofs.statements.declarations_are_good.Goals as goal

pub returns : goal.returns
returns c = declarations
