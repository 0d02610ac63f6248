-- The runs of a file's unit in any order.
use Rattle.cr_meaning_declarations.proofs.UnitsLemmas.Owning.{units_run_alike}
use Rattle.cr_meaning_declarations.specs.Declared.Laws
use Rattle.cr_meaning_declarations.proofs.DeclaredLemmas.Nodes.{of_unit}
use Rattle.cr_meaning_declarations.proofs.DeclaredLemmas.Plans.{initialisers}
use Rattle.cr_meaning_declarations.proofs.DeclaredLemmas.Bodies.{bodies}
use Rattle.cr_meaning_declarations.proofs.DeclaredLemmas.Once.{once}

pub files_run_alike : Laws.FilesRunAlike
files_run_alike file t limits sorts it typed few fixed one other comes any =
    units_run_alike t limits sorts (record { of_unit = of_unit file t it; initialisers = initialisers file t it; once = once file t it; bodies = bodies file t it }) typed few fixed one other comes any
