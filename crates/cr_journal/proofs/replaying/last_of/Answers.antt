use Rattle.cr_journal.proofs.Replayed.{last_of}
use Rattle.cr_journal.proofs.replaying.last_of.Goals as goal

pub returns : goal.returns
returns c = last_of c.args.rows.now _ (cc)
