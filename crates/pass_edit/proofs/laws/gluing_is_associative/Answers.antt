use Rattle.pass_edit.proofs.Glues.{associative}
use Rattle.pass_edit.proofs.laws.gluing_is_associative.Goals as goal

pub returns : goal.returns
returns c = associative
