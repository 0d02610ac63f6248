use Rattle.cr_meaning_loose.specs.Lists.{around}
use Rattle.cr_order_watch.proofs.Listing.{fixed_fine}
use Rattle.cr_order_watch.proofs.lists.loose_list.Goals as goal

pub returns-then-owner : goal.returns-then-owner
returns-then-owner c = λ p level levels number inner events e it same. fixed_fine p (around c.args.outer.now) c.args.owner.now level levels number inner events it c.if-owner.true
