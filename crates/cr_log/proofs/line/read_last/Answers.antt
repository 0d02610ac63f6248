use Rattle.cr_log.proofs.Fronts.{last_pair}
use Rattle.cr_log.proofs.line.read_last.Goals as goal

pub returns-in_err-size : goal.returns-in_err-size
returns-in_err-size c = rw c.from_residual-in_err-size.ensures (λ w s t said.
    c.in_err-size.ensures _ _ (last_pair c.args.line.now c.in_ok-why.why c.in_ok-why.rest.now w s t c.in_ok-why.ensures said))
