use Rattle.cr_reached.proofs.Evaluating.{none_begun}
use Rattle.cr_reached.proofs.watch.ReachWatch.new.Goals as goal

pub returns : goal.returns
returns c = λ p. none_begun c.in_ok-began.began.items c.args.nodes c.in_ok-began.ensures
