use Rattle.std.proofs.Common.{refl}
use Rattle.cr_meaning_loose.specs.Lists.{around}
use Rattle.cr_order_watch.proofs.Listing.{place_by_list, place_by_node}
use Rattle.cr_order_watch.proofs.lists.cut_place.Goals as goal

pub returns-in-Some : goal.returns-in-Some
returns-in-Some c = λ p level levels e it pieces. place_by_list p (around c.args.outer.now) c.args.owner.now level c.args.node c.in-Some.list c.requires (λ inner. c.in-Some.ensures p level levels c.args.node inner e it pieces refl)

pub returns-in-None : goal.returns-in-None
returns-in-None c = λ p level levels e it pieces. place_by_node p (around c.args.outer.now) c.args.owner.now level c.args.node c.requires (λ inner. c.in-None.ensures p level levels c.args.node inner e it pieces refl)
