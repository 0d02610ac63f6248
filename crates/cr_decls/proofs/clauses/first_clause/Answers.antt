use Rattle.std.proofs.Common.{sym, ◌∙◌}
use Rattle.cr_syntax_machine.specs.Machine.{run_seen, run_unseen, run_call, run_fail}
use Rattle.cr_exprs_descent.proofs.Runs.{exit, fails}
use Rattle.cr_decls.proofs.Steps.{goes_through}
use Rattle.cr_decls.proofs.clauses.first_clause.Goals as goal

pub returns-then-not-starts_specifier-clause-reads : goal.returns-then-not-starts_specifier-clause-reads
returns-then-not-starts_specifier-clause-reads c = λ f. goes_through c.clause.result (λ y h. run_unseen (sym c.starts_specifier.ensures ∙ c.if-not-starts_specifier.true) h) c.clause.ensures.reads

pub returns-in_err-first-clause-reads : goal.returns-in_err-first-clause-reads
returns-in_err-first-clause-reads c = λ f. exit c.from_residual.result _ c.from_residual.ensures.1 (fails (c.in_err-first.ensures.reads.is) (λ x k h. run_seen (sym c.starts_specifier.ensures ∙ c.if-not-starts_specifier.false) (run_fail h)))

pub returns-clause-reads : goal.returns-clause-reads
returns-clause-reads c = λ f. record { is = record { on = λ y r. run_seen (sym c.starts_specifier.ensures ∙ c.if-not-starts_specifier.false) (run_call c.in_ok-first.ensures.reads.is.run r) } }
