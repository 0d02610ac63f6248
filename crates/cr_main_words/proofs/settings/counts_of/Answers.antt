use Rattle.std.proofs.Common.{Err, ap}
use Rattle.cr_main_words.proofs.Uses.{same_fault}
use Rattle.cr_main_words.proofs.settings.counts_of.Goals as goal

pub returns-in_err-workers-clause-usage : goal.returns-in_err-workers-clause-usage
returns-in_err-workers-clause-usage c = λ is counts gives.
    c.in_err-workers.ensures.usage (ap Err (same_fault c.from_residual.result c.in_err-workers.field-0.0 c.from_residual.ensures.1 is)) counts.workers
    (rw (c.lesser.ensures, c.lesser-2.ensures) gives.workers)

pub returns-in_err-window-clause-usage : goal.returns-in_err-window-clause-usage
returns-in_err-window-clause-usage c = λ is counts gives.
    c.in_err-window.ensures.usage (ap Err (same_fault c.from_residual-in_err-window.result c.in_err-window.field-0.0 c.from_residual-in_err-window.ensures.1 is)) counts.window gives.window

pub returns-in_err-limit-clause-usage : goal.returns-in_err-limit-clause-usage
returns-in_err-limit-clause-usage c = λ is counts gives.
    c.in_err-limit.ensures.usage (ap Err (same_fault c.from_residual-in_err-limit.result c.in_err-limit.field-0.0 c.from_residual-in_err-limit.ensures.1 is)) counts.limit gives.limit

pub returns-in_err-steps-clause-usage : goal.returns-in_err-steps-clause-usage
returns-in_err-steps-clause-usage c = λ is counts gives.
    c.in_err-steps.ensures.usage (ap Err (same_fault c.from_residual-in_err-steps.result c.in_err-steps.field-0.0 c.from_residual-in_err-steps.ensures.1 is)) counts.steps gives.steps
