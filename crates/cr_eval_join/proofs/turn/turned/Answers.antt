use Rattle.std.proofs.Common.{◌∙◌}
use Rattle.cr_eval_join.proofs.Turning.{turn_at}
use Rattle.cr_eval_join.proofs.turn.turned.Goals as goal

pub returns-in-InTurn : goal.returns-in-InTurn
returns-in-InTurn c = rw c.in-InTurn.is (λ answers are. turn_at c.args.parts.now answers c.args.count c.args.truth are ∙ c.operand.ensures)
