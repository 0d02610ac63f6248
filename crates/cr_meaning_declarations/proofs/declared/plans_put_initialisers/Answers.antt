use Rattle.cr_meaning_declarations.proofs.DeclaredLemmas.Plans.{initialisers}
use Rattle.cr_meaning_declarations.proofs.declared.plans_put_initialisers.Goals as goal

pub returns : goal.returns
returns c = initialisers
