use Rattle.std.proofs.Common.{refl}
use Rattle.cr_check.proofs.Rows.{are_known}
use Rattle.cr_check.proofs.checked.declarations_of.Goals as goal

pub returns-clause-within : goal.returns-clause-within
returns-clause-within c = λ h.
    are_known _ c.args.checked.now.table c.args.checked.now.whole.typing refl c.as_slice-7.ensures c.as_slice-8.ensures c.as_slice-9.ensures h
