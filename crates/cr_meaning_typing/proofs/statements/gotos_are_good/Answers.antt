use Rattle.cr_meaning_typing.proofs.StatementsLemmas.Given.{gotos}
use Rattle.cr_meaning_typing.proofs.statements.gotos_are_good.Goals as goal

pub returns : goal.returns
returns c = gotos
