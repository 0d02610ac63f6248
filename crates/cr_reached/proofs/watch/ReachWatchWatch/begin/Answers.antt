use Rattle.std.proofs.Common.{rules}
use Rattle.cr_reached.proofs.Evaluating.{one_begins}
use Rattle.cr_reached.proofs.watch.ReachWatchWatch.begin.Goals as goal

pub returns-then-at-len : goal.returns-then-at-len
returns-then-at-len c = λ p marks k. one_begins c.args.self.now.began.items c.mark.new.column.items c.args.node marks k (search rules) c.mark.ensures
