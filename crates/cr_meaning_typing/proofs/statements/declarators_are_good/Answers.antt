use Rattle.cr_meaning_typing.proofs.StatementsLemmas.Given.{declarators}
use Rattle.cr_meaning_typing.proofs.statements.declarators_are_good.Goals as goal

pub returns : goal.returns
returns c = declarators
