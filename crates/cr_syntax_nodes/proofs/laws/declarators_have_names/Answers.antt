use Rattle.std.proofs.Common.{length, arith}
use Rattle.cr_syntax_nodes.proofs.Made.{made_in}
use Rattle.cr_syntax_nodes.proofs.Numbers.{occurs}
use Rattle.cr_syntax_nodes.proofs.Declarators.{declares}
use Rattle.cr_syntax_nodes.proofs.laws.declarators_have_names.Goals as goal

pub returns : goal.returns
returns c = λ ts limit nodes items below once are u k n q stands. declares n.kind stands (made_in u.spells (occurs nodes below items once are (length nodes) k n (omega arith) q))
