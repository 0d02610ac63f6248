use Rattle.cr_syntax_machine.specs.Machine.{run_stop, run_take, run_pass, run_call, run_fail}
use Rattle.cr_exprs_descent.proofs.Runs.{exit, fails, stops}
use Rattle.cr_decls.proofs.clauses.repeated.Goals as goal

pub returns-in_err-expect-clause-reads : goal.returns-in_err-expect-clause-reads
returns-in_err-expect-clause-reads c = λ f. exit c.from_residual.result _ c.from_residual.ensures.1 (stops c.in_err-expect.ensures.err (run_pass c.in_err-expect.ensures.other run_stop))

pub returns-in_err-test-clause-reads : goal.returns-in_err-test-clause-reads
returns-in_err-test-clause-reads c = λ f. exit c.from_residual-in_err-test.result _ c.from_residual-in_err-test.ensures.1 (fails (c.in_err-test.ensures.reads.is) (λ x k h. run_take c.in_ok-expect.ensures.ok c.requires.depth (run_fail h)))

pub returns-in_err-expect-2-clause-reads : goal.returns-in_err-expect-2-clause-reads
returns-in_err-expect-2-clause-reads c = λ f. exit c.from_residual-in_err-expect-2.result _ c.from_residual-in_err-expect-2.ensures.1 (stops c.in_err-expect-2.ensures.err (run_take c.in_ok-expect.ensures.ok c.requires.depth (run_call c.in_ok-test.ensures.reads.is.run (run_pass c.in_err-expect-2.ensures.other run_stop))))

pub returns-in_err-expect-3-clause-reads : goal.returns-in_err-expect-3-clause-reads
returns-in_err-expect-3-clause-reads c = λ f. exit c.from_residual-in_err-expect-3.result _ c.from_residual-in_err-expect-3.ensures.1 (stops c.in_err-expect-3.ensures.err (run_take c.in_ok-expect.ensures.ok c.requires.depth (run_call c.in_ok-test.ensures.reads.is.run (run_take c.in_ok-expect-2.ensures.ok tt (run_pass c.in_err-expect-3.ensures.other run_stop)))))

pub returns-clause-reads : goal.returns-clause-reads
returns-clause-reads c = λ f. record { is = record { on = λ y r. run_take c.in_ok-expect.ensures.ok c.requires.depth (run_call c.in_ok-test.ensures.reads.is.run (run_take c.in_ok-expect-2.ensures.ok tt (run_take c.in_ok-expect-3.ensures.ok tt r))) } }
