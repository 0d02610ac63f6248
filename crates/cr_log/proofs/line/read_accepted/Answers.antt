use Rattle.cr_log.proofs.Fronts.{ends_with_pair, is_level, starts_with_index}
use Rattle.std.proofs.Common.{arith}
use Rattle.cr_log.proofs.line.read_accepted.Goals as goal

pub returns-then-level-gt255 : goal.returns-then-level-gt255
returns-then-level-gt255 c = λ one said.
    let fits = is_level c.args.line.now c.in_ok-pass.pass c.in_ok-pass.rest.now c.in_ok-level.level c.in_ok-level.rest.now one c.in_ok-pass.ensures c.in_ok-level.ensures said in
    omega arith

pub returns-in_err-index : goal.returns-in_err-index
returns-in_err-index c = rw c.from_residual-in_err-index.ensures (λ one said.
    c.in_err-index.ensures _ _ (starts_with_index c.args.line.now c.in_ok-pass.pass c.in_ok-pass.rest.now c.in_ok-level.level c.in_ok-level.rest.now one c.in_ok-pass.ensures c.in_ok-level.ensures said))

pub returns-in_err-size : goal.returns-in_err-size
returns-in_err-size c = rw c.from_residual-in_err-size.ensures (λ one said.
    c.in_err-size.ensures _ _ (ends_with_pair c.args.line.now c.in_ok-pass.pass c.in_ok-pass.rest.now c.in_ok-level.level c.in_ok-level.rest.now c.in_ok-index.index c.in_ok-index.rest.now one c.in_ok-pass.ensures c.in_ok-level.ensures c.in_ok-index.ensures said))
