use Rattle.std.proofs.Common.{[]}
use Rattle.cr_eval_join.proofs.Operands.{nothing_below}
use Rattle.cr_eval_join.proofs.feet.first_reads.Goals as goal

pub returns : goal.returns
returns c = c.with_reads.ensures [] nothing_below (record { same = c.none.ensures })
