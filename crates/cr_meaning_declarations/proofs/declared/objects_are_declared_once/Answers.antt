use Rattle.cr_meaning_declarations.proofs.DeclaredLemmas.Once.{once}
use Rattle.cr_meaning_declarations.proofs.declared.objects_are_declared_once.Goals as goal

pub returns : goal.returns
returns c = once
