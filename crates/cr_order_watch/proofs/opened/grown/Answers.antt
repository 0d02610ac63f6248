use Rattle.std.proofs.Common.{◌∙◌}
use Rattle.cr_order_watch.proofs.Listing.{pieces_grow}
use Rattle.cr_order_watch.proofs.opened.grown.Goals as goal

pub returns-in-Ok-push : goal.returns-in-Ok-push
returns-in-Ok-push c = λ p done inner number events pieces is sum.
    pieces_grow p c.args.pieces c.push.new.self done c.in-Ok.copy number inner events pieces (c.in-Ok.ensures.0 ∙ is) (c.in-Ok.ensures.1 p _ sum) c.in-Ok-push.ensures.ok
