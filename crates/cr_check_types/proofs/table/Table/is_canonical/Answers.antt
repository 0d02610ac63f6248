use Rattle.cr_check_types.proofs.Shared.{canonical}
use Rattle.cr_check_types.proofs.table.Table.is_canonical.Goals as goal

pub returns : goal.returns
returns c = rw (← c.self.view_is) (canonical _ _ c.self.invariant)
