use Rattle.cr_check_types.proofs.Unqualified.{same_row}
use Rattle.cr_check_types.proofs.table.Table.qualified.Goals as goal

pub returns-else-volatile-clause-made : goal.returns-else-volatile-clause-made
returns-else-volatile-clause-made c = same_row c.args.self.now c.args.row c.args.constant c.args.volatile c.requires c.if-volatile.false.0 c.if-volatile.false.1
