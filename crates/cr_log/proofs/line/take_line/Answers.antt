use Rattle.cr_log.proofs.Fronts.{cut_formed, none_formed}
use Rattle.cr_log.proofs.line.take_line.Goals as goal

pub returns-in_err-front : goal.returns-in_err-front
returns-in_err-front c = rw c.from_residual.ensures (none_formed c.args.text.now c.in_err-front.ensures)

pub returns-in_err-line : goal.returns-in_err-line
returns-in_err-line c = rw c.from_residual-in_err-line.ensures
    (λ starts. c.in_err-line.ensures (cut_formed c.args.text.now c.in_ok-front.front.now c.in_ok-front.rest.now c.in_ok-front.ensures starts))
