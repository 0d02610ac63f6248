use Rattle.std.proofs.lemmas.Result.{on_ok_weaker}
use Rattle.pass_levels.proofs.Sorted.{only_sorted}
use Rattle.pass_levels.proofs.order.sort.Goals as goal

pub returns : goal.returns
returns g c = on_ok_weaker c.sort.result (only_sorted g.T.Ord.cmp g.met.T.Ord.total c.requires c.args.list.now.items c.sort.new.self.items c.sort.ensures.permutation) c.sort.ensures.sorted
