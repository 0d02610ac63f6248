use Rattle.std.specs.Prelude.{None}
use Rattle.cr_meaning_loose.specs.Lists.{around}
use Rattle.cr_order_watch.proofs.Listing.{cut_behind}
use Rattle.cr_order_watch.proofs.levels.cut.Goals as goal

pub returns-in-Some : goal.returns-in-Some
returns-in-Some c = λ p level below e it pieces. rw c.in-Some.is (c.cut_around.ensures p level below e it pieces)

pub returns : goal.returns
returns c = λ p level below e it pieces. rw c.in-None.is (cut_behind p (around c.args.outer.now) c.args.top level None c.loose_one.result tt c.loose_one.ensures.some c.loose_one.ensures.none)
