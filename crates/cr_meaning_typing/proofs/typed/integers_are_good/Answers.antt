use Rattle.cr_meaning_typing.proofs.TypedLemmas.Meets.{integers}
use Rattle.cr_meaning_typing.proofs.typed.integers_are_good.Goals as goal

pub returns : goal.returns
returns c = integers
