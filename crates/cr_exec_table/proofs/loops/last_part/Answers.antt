use Rattle.std.proofs.Common.{arith}
use Rattle.cr_exec_table.proofs.Lists.{last_is}
use Rattle.cr_exec_table.proofs.loops.last_part.Goals as goal

pub returns-in-len1-up : goal.returns-in-len1-up
returns-in-len1-up c = let some = c.in-len1-up.len_at_least in last_is c.args.parts.now (omega (arith, some))
