use Rattle.cr_meaning_typing.proofs.StatementsLemmas.Given.{expression_statements}
use Rattle.cr_meaning_typing.proofs.statements.expression_statements_are_good.Goals as goal

pub returns : goal.returns
returns c = expression_statements
