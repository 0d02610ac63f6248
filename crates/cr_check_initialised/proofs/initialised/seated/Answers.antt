use Rattle.cr_check_initialised.proofs.Kept.{seated_there}
use Rattle.cr_check_initialised.proofs.initialised.seated.Goals as goal

pub returns-clause-within : goal.returns-clause-within
returns-clause-within c = seated_there c.args.table.now c.args.lines.now c.in_ok-rows.rows c.requires c.in_ok-rows.ensures
