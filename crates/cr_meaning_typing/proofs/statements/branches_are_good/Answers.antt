use Rattle.cr_meaning_typing.proofs.StatementsLemmas.Given.{branches}
use Rattle.cr_meaning_typing.proofs.statements.branches_are_good.Goals as goal

pub returns : goal.returns
returns c = branches
