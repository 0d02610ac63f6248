use Rattle.std.proofs.Common.{refl}
use Rattle.cr_order_watch.proofs.Opening.{follows}
use Rattle.cr_order_watch.proofs.opened.behind.Goals as goal

pub returns-in-Ok : goal.returns-in-Ok
returns-in-Ok c = λ p level levels number inner events h full asked sum.
    follows p c.args.below _ level levels number inner events c.args.piece.loud c.args.piece.foot h full sum (record { node = refl; operands = refl; asked = refl }) refl refl c.either-loud.ensures c.in-Ok.ensures asked
