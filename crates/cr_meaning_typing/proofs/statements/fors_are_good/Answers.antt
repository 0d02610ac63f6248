use Rattle.cr_meaning_typing.proofs.StatementsLemmas.Given.{fors}
use Rattle.cr_meaning_typing.proofs.statements.fors_are_good.Goals as goal

pub returns : goal.returns
returns c = fors
