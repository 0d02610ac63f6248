use Rattle.cr_meaning_typing.proofs.TypedLemmas.Units.{columns}
use Rattle.cr_meaning_typing.proofs.typed.columns_are_judged.Goals as goal

pub returns : goal.returns
returns c = columns
