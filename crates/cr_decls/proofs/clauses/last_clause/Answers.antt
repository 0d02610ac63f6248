use Rattle.std.proofs.Common.{sym, ◌∙◌}
use Rattle.cr_syntax_machine.specs.Machine.{run_stop, run_take, run_pass, run_call, run_fail}
use Rattle.cr_exprs_descent.proofs.Runs.{exit, fails, stops}
use Rattle.cr_decls.proofs.clauses.last_clause.Goals as goal

pub returns-then-stands-clause-reads : goal.returns-then-stands-clause-reads
returns-then-stands-clause-reads c = λ p f. record { is = record { on = λ y r. run_take (sym c.stands.ensures.answer ∙ c.if-stands.true) (tt, c.requires.depth) r } }

pub returns-in_err-step-clause-reads : goal.returns-in_err-step-clause-reads
returns-in_err-step-clause-reads c = λ p f. exit c.from_residual.result _ c.from_residual.ensures.1 (fails (c.in_err-step.ensures.reads.is) (λ x k h. run_pass (sym c.stands.ensures.answer ∙ c.if-stands.false) (run_fail h)))

pub returns-in_err-expect-clause-reads : goal.returns-in_err-expect-clause-reads
returns-in_err-expect-clause-reads c = λ p f. exit c.from_residual-in_err-expect.result _ c.from_residual-in_err-expect.ensures.1 (stops c.in_err-expect.ensures.err (run_pass (sym c.stands.ensures.answer ∙ c.if-stands.false) (run_call c.in_ok-step.ensures.reads.is.run (run_pass c.in_err-expect.ensures.other run_stop))))

pub returns-clause-reads : goal.returns-clause-reads
returns-clause-reads c = λ p f. record { is = record { on = λ y r. run_pass (sym c.stands.ensures.answer ∙ c.if-stands.false) (run_call c.in_ok-step.ensures.reads.is.run (run_take c.in_ok-expect.ensures.ok (tt, c.requires.depth) r)) } }
