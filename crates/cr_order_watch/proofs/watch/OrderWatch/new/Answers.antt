use Rattle.cr_meaning_loose.specs.Lists.{around}
use Rattle.std.proofs.Common.{refl}
use Rattle.cr_eval.specs.Table.{program_of}
use Rattle.cr_order_watch.proofs.Watching.{nothing_known}
use Rattle.cr_order_watch.proofs.watch.OrderWatch.new.Goals as goal

pub returns-clause-knows : goal.returns-clause-knows
returns-clause-knows c = (refl, nothing_known (program_of c.args.table.now) (around c.args.outer.now) c.new.result c.new.ensures)
