use Rattle.cr_meaning_typing.proofs.SortsLemmas.Expressions.{expressions}
use Rattle.cr_meaning_typing.proofs.sorts.expressions_are_good.Goals as goal

pub returns : goal.returns
returns c = expressions
