use Rattle.std.proofs.Common.{Err, ap}
use Rattle.cr_main_words.proofs.Uses.{same_fault}
use Rattle.cr_main_words.proofs.settings.settings_of.Goals as goal

pub returns-in_err-counts-clause-usage : goal.returns-in_err-counts-clause-usage
returns-in_err-counts-clause-usage c = λ is settings gives.
    c.in_err-counts.ensures.usage (ap Err (same_fault c.from_residual.result c.in_err-counts.field-0.0 c.from_residual.ensures.1 is))
    (record { workers = settings.workers; window = settings.window; limit = settings.limit; steps = settings.steps })
    (record { workers = gives.workers; window = gives.window; limit = gives.limit; steps = gives.steps })

pub returns-in_err-test-clause-usage : goal.returns-in_err-test-clause-usage
returns-in_err-test-clause-usage c = λ is settings gives.
    c.in_err-test.ensures.usage (ap Err (same_fault c.from_residual-in_err-test.result c.in_err-test.field-0.0 c.from_residual-in_err-test.ensures.1 is))
    (record { test = settings.test; source = settings.source })
    (record { test = gives.test; file = gives.file; two = gives.two; reads = gives.reads; source = gives.source })
