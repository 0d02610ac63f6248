use Rattle.cr_meaning_typing.proofs.StatementsLemmas.Given.{labels}
use Rattle.cr_meaning_typing.proofs.statements.labels_are_good.Goals as goal

pub returns : goal.returns
returns c = labels
