use Rattle.cr_meaning_typing.proofs.ExpressionsLemmas.Joined.{addresses}
use Rattle.cr_meaning_typing.proofs.expressions.addresses_are_good.Goals as goal

pub returns : goal.returns
returns c = addresses
