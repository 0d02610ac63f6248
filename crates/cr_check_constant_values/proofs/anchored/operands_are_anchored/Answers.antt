use Rattle.cr_check_constant_values.proofs.AnchoredLemmas.Anchoring.{operands}
use Rattle.cr_check_constant_values.proofs.anchored.operands_are_anchored.Goals as goal

pub returns : goal.returns
returns c = operands
