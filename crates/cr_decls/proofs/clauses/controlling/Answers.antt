use Rattle.cr_syntax_machine.specs.Machine.{run_stop, run_take, run_deep, run_pass, run_look, run_set, run_call, run_fail}
use Rattle.cr_exprs_descent.proofs.Runs.{exit, fails, stops, deep, memory, run_in, no_room}
use Rattle.cr_decls.proofs.clauses.controlling.Goals as goal

pub returns-in_err-begin-clause-reads : goal.returns-in_err-begin-clause-reads
returns-in_err-begin-clause-reads c = λ f. memory c.from_residual.result c.from_residual.ensures.1

pub returns-in_err-expect-clause-reads : goal.returns-in_err-expect-clause-reads
returns-in_err-expect-clause-reads c = λ f. exit c.from_residual-in_err-expect.result _ c.from_residual-in_err-expect.ensures.1 (stops c.in_err-expect.ensures.err (run_look (run_set (run_pass c.in_err-expect.ensures.other run_stop))))

pub returns-in_err-room-clause-reads : goal.returns-in_err-room-clause-reads
returns-in_err-room-clause-reads c = λ f. exit c.from_residual-in_err-room.result _ c.from_residual-in_err-room.ensures.1 (deep c.in_err-room.ensures.err (run_look (run_set (run_deep c.in_ok-expect.ensures.ok (no_room c.in_err-room.ensures.full)))))

pub returns-in_err-test-clause-reads : goal.returns-in_err-test-clause-reads
returns-in_err-test-clause-reads c = λ f. exit c.from_residual-in_err-test.result _ c.from_residual-in_err-test.ensures.1 (fails (c.in_err-test.ensures.reads.is) (λ x k h. run_look (run_set (run_take c.in_ok-expect.ensures.ok c.in_ok-room.ensures.ok (run_fail (run_in c.in_ok-begin.ensures h))))))

pub returns-in_err-expect-2-clause-reads : goal.returns-in_err-expect-2-clause-reads
returns-in_err-expect-2-clause-reads c = λ f. exit c.from_residual-in_err-expect-2.result _ c.from_residual-in_err-expect-2.ensures.1 (stops c.in_err-expect-2.ensures.err (run_look (run_set (run_take c.in_ok-expect.ensures.ok c.in_ok-room.ensures.ok (run_call (run_in c.in_ok-begin.ensures c.in_ok-test.ensures.reads.is.run) (run_pass c.in_err-expect-2.ensures.other run_stop))))))

pub returns-clause-reads : goal.returns-clause-reads
returns-clause-reads c = λ f. record { is = record { on = λ y r. run_look (run_set (run_take c.in_ok-expect.ensures.ok c.in_ok-room.ensures.ok (run_call (run_in c.in_ok-begin.ensures c.in_ok-test.ensures.reads.is.run) (run_take c.in_ok-expect-2.ensures.ok (tt, c.in_ok-room.ensures.ok) r)))) } }
