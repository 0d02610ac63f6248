use Rattle.cr_meaning_files.proofs.Assembled.{are_typed}
use Rattle.cr_meaning_files.proofs.laws.assembled_units_are_typed.Goals as goal

pub returns : goal.returns
returns c = are_typed
