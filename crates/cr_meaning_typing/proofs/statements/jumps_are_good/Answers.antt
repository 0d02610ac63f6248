use Rattle.cr_meaning_typing.proofs.StatementsLemmas.Given.{jumps}
use Rattle.cr_meaning_typing.proofs.statements.jumps_are_good.Goals as goal

pub returns : goal.returns
returns c = jumps
