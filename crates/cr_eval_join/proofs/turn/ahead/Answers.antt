use Rattle.std.proofs.Common.{sym, ap, ◌∙◌}
use Rattle.cr_eval_join.specs.declared.turn.Manner.{Manner}
use Rattle.cr_eval_join.specs.Turns.{turned}
use Rattle.cr_eval_join.proofs.Turning.{body_by, turned_by}
use Rattle.cr_eval_join.proofs.turn.ahead.Goals as goal

pub returns-in-Some : goal.returns-in-Some
returns-in-Some c = λ answers are expr.
    let op = c.args.op.now in
    body_by op.work op.parts answers c.in-Some.body (sym c.in-Some.ensures)
    ∙ (rw c.as_slice-parts.ensures at (c.body_next.ensures answers are.count_is))

pub returns-in-None : goal.returns-in-None
returns-in-None c = λ answers are expr.
    let op = c.args.op.now in
    turned_by op.work op.parts answers (sym c.in-None.ensures) expr
    ∙ (ap (λ (t : Manner). turned t op.parts answers) (sym c.manner_of.ensures)
    ∙ (rw c.as_slice-parts.ensures at (c.turned.ensures answers are)))
