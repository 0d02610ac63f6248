use Rattle.std.proofs.Common.{Err, ap}
use Rattle.cr_main_words.proofs.Uses.{same_fault}
use Rattle.cr_main_words.proofs.modes.modes_of.Goals as goal

pub returns-in_default-clause-usage : goal.returns-in_default-clause-usage
returns-in_default-clause-usage c = λ is modes given.
    c.in_default.ensures modes.engine modes.any_order (record { journal = given.journal; resume = given.resume; standing = given.standing; any_order_is = given.any_order })

pub returns-in_err-reached-clause-usage : goal.returns-in_err-reached-clause-usage
returns-in_err-reached-clause-usage c = λ is modes given.
    c.in_err-reached.ensures.usage (ap Err (same_fault c.from_residual.result c.in_err-reached.field-0.0 c.from_residual.ensures.1 is)) modes.reached given.reached

pub returns-clause-modes : goal.returns-clause-modes
returns-clause-modes c =
    let flags = c.in-Some.ensures in
    record { journal = flags.journal; resume = flags.resume; standing = flags.standing; any_order = flags.any_order_is; reached = c.in_ok-reached.ensures.label }
