use Rattle.std.proofs.Common.{refl, sym, ◌∙◌, arith}
use Rattle.cr_syntax_machine.specs.Machine.{plain, opens, call, give, made, run_give, run_stop, run_take, run_deep, run_pass, run_bar, run_free, run_seen, run_unseen, run_yes, run_no, run_here, run_look, run_set, run_bring, run_call, run_fail}
use Rattle.cr_syntax_machine.specs.Machine as m
use Rattle.cr_syntax_machine.specs.MachineBody.{body}
use Rattle.cr_exprs_descent.proofs.Loose.{kept_row, kept_more}
use Rattle.cr_exprs_descent.proofs.Nodes.{keeps_all, row_single, row_more, is_row_more}
use Rattle.cr_exprs_descent.proofs.Runs.{exit, fails, no_memory, memory, handed, shift, done_at}
use Rattle.cr_decls.proofs.Steps.{row_below}
use Rattle.cr_decls.proofs.externals.unit.Goals as goal

pub returns-in_err-first-clause-reads : goal.returns-in_err-first-clause-reads
returns-in_err-first-clause-reads c = exit c.from_residual.result _ c.from_residual.ensures.1 (fails c.in_err-first.ensures.reads.is (λ x k h. run_fail h))

pub returns-in_err-items-clause-reads : goal.returns-in_err-items-clause-reads
returns-in_err-items-clause-reads c = exit c.from_residual-in_err-items.result _ c.from_residual-in_err-items.ensures.1 (no_memory c.in_err-items.ensures.err)

pub externals-init : goal.externals-init
externals-init c = record { goes = record { on = λ y r. run_call c.in_ok-first.ensures.reads.is.run (handed y (shift (λ u. body (m.externals m.nowhere 0 u)) (row_single _ _ _ c.in_ok-items.ensures.ok) refl r)) }; keeps = c.in_ok-first.ensures.placed.keeps; below = c.in_ok-first.ensures.placed.below; kept = λ loose h. kept_row _ _ _ _ loose c.in_ok-items.ensures.ok (c.in_ok-first.ensures.placed.kept loose h); items = row_below _ _ _ c.in_ok-items.ensures.ok (omega (arith, c.in_ok-first.ensures.placed.last)); to = c.in_ok-first.ensures.placed.to }

pub returns-in_err-one-clause-reads : goal.returns-in_err-one-clause-reads
returns-in_err-one-clause-reads c = exit c.from_residual-in_err-one.result _ c.from_residual-in_err-one.ensures.1 (fails c.in_err-one.ensures.reads.is (λ x k h. c.externals.invariant.goes.on _ (run_seen (sym c.stands_any.ensures.answer ∙ c.externals-test.true) (run_fail h))))

pub returns-in_err-push-clause-reads : goal.returns-in_err-push-clause-reads
returns-in_err-push-clause-reads c = memory c.from_residual-in_err-push.result c.from_residual-in_err-push.ensures.1

pub externals-preserved : goal.externals-preserved
externals-preserved c = record { goes = record { on = λ y r. c.externals.invariant.goes.on y (run_seen (sym c.stands_any.ensures.answer ∙ c.externals-test.true) (run_call c.in_ok-one.ensures.reads.is.run (handed y (shift (λ u. body (m.externals m.nowhere 0 u)) (row_more _ _ _ _ _ c.in_ok-one.ensures.placed.keeps c.externals.invariant.items c.in_ok-push.ensures.ok) refl r)))) }; keeps = keeps_all _ _ _ c.externals.invariant.keeps c.in_ok-one.ensures.placed.keeps; below = c.in_ok-one.ensures.placed.below; kept = λ loose h. kept_more _ _ _ _ _ loose c.in_ok-push.ensures.ok (c.in_ok-one.ensures.placed.kept _ (c.externals.invariant.kept loose h)); items = (is_row_more _ _ _ _ _ c.externals.invariant.items c.in_ok-one.ensures.placed.keeps.longer c.in_ok-one.ensures.placed.last c.in_ok-push.ensures.ok).below; to = c.in_ok-one.ensures.placed.to }

pub returns-clause-reads : goal.returns-clause-reads
returns-clause-reads c = record { is = record { run = done_at (omega (arith, c.stands_any.ensures.end c.externals-test.false, c.externals.invariant.to)) (c.externals.invariant.goes.on _ (run_unseen (sym c.stands_any.ensures.answer ∙ c.externals-test.false) run_give)) } }
