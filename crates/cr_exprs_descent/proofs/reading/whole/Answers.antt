use Rattle.cr_syntax_machine.specs.Machine.{run_give, run_call, run_fail, run_bar, run_free}
use Rattle.cr_exprs_descent.proofs.Runs.{exit, fails, stops}
use Rattle.cr_exprs_descent.proofs.reading.whole.Goals as goal

pub returns-in_err-found-clause-reads : goal.returns-in_err-found-clause-reads
returns-in_err-found-clause-reads c = exit c.from_residual.result _ c.from_residual.ensures.1 (fails (c.in_err-found.ensures.reads.is) (λ x k h. run_fail h))

pub returns-in_err-bar_unused-clause-reads : goal.returns-in_err-bar_unused-clause-reads
returns-in_err-bar_unused-clause-reads c = exit c.from_residual-in_err-bar_unused.result _ c.from_residual-in_err-bar_unused.ensures.1 (stops c.in_err-bar_unused.ensures.err (run_call c.in_ok-found.ensures.reads.is.run (run_bar c.in_err-bar_unused.ensures.stands)))

pub returns-clause-reads : goal.returns-clause-reads
returns-clause-reads c = record { is = record { run = run_call c.in_ok-found.ensures.reads.is.run (run_free c.in_ok-bar_unused.ensures.ok run_give) } }
