use Rattle.cr_meaning_declarations.proofs.LinkedLemmas.Columns.{columns_find}
use Rattle.cr_meaning_declarations.proofs.linked.columns_find_the_declaration_before.Goals as goal

pub returns : goal.returns
returns c = columns_find
