use Rattle.cr_typed_unit.proofs.OneTypedUnit.{one_typed_unit}
use Rattle.cr_typed_unit.proofs.laws.one_typed_unit.Goals as goal

pub returns : goal.returns
returns c = one_typed_unit
