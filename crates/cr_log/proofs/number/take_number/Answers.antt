use Rattle.cr_log.proofs.Fields.{cut_number, none_cut}
use Rattle.std.specs.Fmt.{decimal}
use Rattle.cr_log.proofs.number.take_number.Goals as goal

pub returns-in_err-field : goal.returns-in_err-field
returns-in_err-field c = rw c.from_residual.ensures (λ n rest starts. none_cut 32 c.args.text.now (decimal n) rest c.in_err-field.ensures starts.is)

pub returns-in_err-first : goal.returns-in_err-first
returns-in_err-first c = rw c.from_residual-in_err-first.ensures
    (λ n rest starts. c.in_err-first.ensures n starts.fits (cut_number c.args.text.now c.in_ok-field.field.now c.in_ok-field.rest.now n rest c.in_ok-field.ensures starts))
