use Rattle.cr_reached.proofs.Evaluating.{one_ends}
use Rattle.cr_reached.proofs.watch.ReachWatchWatch.end.Goals as goal

pub returns : goal.returns
returns c = λ p marks events k foot. one_ends c.args.self.now.began.items _ events marks k
