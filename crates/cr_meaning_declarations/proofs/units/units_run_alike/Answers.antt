use Rattle.cr_meaning_declarations.proofs.UnitsLemmas.Owning.{units_run_alike}
use Rattle.cr_meaning_declarations.proofs.units.units_run_alike.Goals as goal

pub returns : goal.returns
returns c = units_run_alike
