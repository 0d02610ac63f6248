use Rattle.cr_meaning_declarations.proofs.DeclaredLemmas.Nodes.{of_unit}
use Rattle.cr_meaning_declarations.proofs.declared.files_are_of_units.Goals as goal

pub returns : goal.returns
returns c = of_unit
