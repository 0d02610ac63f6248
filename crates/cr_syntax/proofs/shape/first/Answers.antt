use Rattle.std.proofs.Common.{arith, refl}
use Rattle.cr_syntax.proofs.Arena.{first_is}
use Rattle.cr_syntax.proofs.shape.first.Goals as goal

pub returns-in-len1-up : goal.returns-in-len1-up
returns-in-len1-up c = first_is _ _ _ _ c.requires.parts c.requires.row (omega arith) refl c.index-nodes-k.is
