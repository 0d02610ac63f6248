use Rattle.cr_meaning_typing.proofs.TypedLemmas.Meets.{sums}
use Rattle.cr_meaning_typing.proofs.typed.sums_are_good.Goals as goal

pub returns : goal.returns
returns c = sums
