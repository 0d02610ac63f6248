use Rattle.std.proofs.Common.{length, refl}
use Rattle.cr_eval_join.proofs.Turning.{are_answers}
use Rattle.cr_eval_join.proofs.turn.next.Goals as goal

pub returns : goal.returns
returns c = λ answers are expr.
    c.ahead.ensures answers (are_answers c.args.done.now answers (length c.args.done.now) c.first_truth.result are refl c.first_truth.ensures) expr
