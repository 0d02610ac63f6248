use Rattle.cr_meaning_declarations.proofs.LinkedLemmas.Sorts.{one_sort}
use Rattle.cr_meaning_declarations.proofs.linked.tokens_are_of_one_sort.Goals as goal

pub returns : goal.returns
returns c = one_sort
