use Rattle.cr_meaning_typing.proofs.JudgedLemmas.Judged.{judged}
use Rattle.cr_meaning_typing.proofs.judged.units_are_judged.Goals as goal

pub returns : goal.returns
returns c = judged
