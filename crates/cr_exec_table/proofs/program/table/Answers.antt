use Rattle.std.proofs.Common.{subst, IfOk}
use Rattle.cr_exec_table.specs.Table.{IsTableOf}
use Rattle.cr_exec_table.proofs.program.table.Goals as goal

pub returns : goal.returns
returns c = subst (λ t. IfOk c.table_of.result (λ table. IsTableOf table t c.args.limits)) c.in_ok-types.ensures c.table_of.ensures
