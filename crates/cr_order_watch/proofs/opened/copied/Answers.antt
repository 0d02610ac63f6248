use Rattle.std.proofs.Common.{refl}
use Rattle.cr_order_watch.proofs.Listing.{copy_sum}
use Rattle.cr_order_watch.proofs.opened.copied.Goals as goal

pub returns-in-Ok : goal.returns-in-Ok
returns-in-Ok c = (refl, λ p forest sum. copy_sum p c.args.piece.now.loud c.none.result c.in-Ok.foot c.args.piece.now.foot forest c.none.ensures c.in-Ok.ensures.reads c.in-Ok.ensures.writes sum)
