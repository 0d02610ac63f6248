use Rattle.cr_core.proofs.LastEntry.{is_last}
use Rattle.cr_core.proofs.settling.last.Goals as goal

pub returns : goal.returns
returns c = is_last c.args.row.now _ (cc)
