use Rattle.std.proofs.Common.{arith}
use Rattle.cr_pool.proofs.Sizes.{one_size}
use Rattle.cr_standing_workers.proofs.trial.read_below.Goals as goal

pub returns-in_default-clause-large : goal.returns-in_default-clause-large
returns-in_default-clause-large c = λ is n has. absurd ((rw c.in_default.is at c.in_ok-found.ensures) n has)

pub returns-then-found-limit-clause-large : goal.returns-then-found-limit-clause-large
returns-then-found-limit-clause-large c = λ is n has.
    let measured = (rw c.in-Some.is at c.in_ok-found.ensures).1 in
    omega (arith, one_size c.args.variant.now n c.in-Some.found.size has measured.has)
