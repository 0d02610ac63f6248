use Rattle.cr_meaning_typing.proofs.StatementsLemmas.Given.{switches}
use Rattle.cr_meaning_typing.proofs.statements.switches_are_good.Goals as goal

pub returns : goal.returns
returns c = switches
