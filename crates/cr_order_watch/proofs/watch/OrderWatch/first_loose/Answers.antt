use Rattle.cr_meaning_loose.specs.Lists.{around}
use Rattle.cr_meaning_loose.specs.Levels.{levels_of}
use Rattle.std.specs.Prelude.{length}
use Rattle.cr_order_watch.proofs.Watching.{judged_failed, judged_open, bottom_is}
use Rattle.cr_order_watch.proofs.watch.OrderWatch.first_loose.Goals as goal

pub returns-in-Some : goal.returns-in-Some
returns-in-Some c = λ p marks k. judged_failed p (around c.args.self.outer.now) marks c.in-Some.node c.args.self.loose c.args.self.nodes c.in-Some.is k.1

pub returns-in-None : goal.returns-in-None
returns-in-None c = λ p marks k.
    let both = judged_open p (around c.args.self.outer.now) marks c.args.self.loose c.args.self.nodes c.in-None.is k.1 in
    c.first_cut.ensures p (levels_of (length p.ops) marks) k.0 (bottom_is (length p.ops) marks) both.0 both.1
