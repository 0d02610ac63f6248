use Rattle.cr_meaning_typing.proofs.StatementsLemmas.Given.{return_statements}
use Rattle.cr_meaning_typing.proofs.statements.returns_are_good.Goals as goal

pub returns : goal.returns
returns c = return_statements
