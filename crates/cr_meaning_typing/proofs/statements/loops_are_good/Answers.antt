use Rattle.cr_meaning_typing.proofs.StatementsLemmas.Given.{loops}
use Rattle.cr_meaning_typing.proofs.statements.loops_are_good.Goals as goal

pub returns : goal.returns
returns c = loops
