use Rattle.std.proofs.lemmas.Result.{on_ok_weaker}
use Rattle.cr_order_watch.proofs.beside.BesideWatch.end.Goals as goal

pub returns-in-Ok : goal.returns-in-Ok
returns-in-Ok g c = λ p marks events k foot. on_ok_weaker c.end-in-Ok.result (λ is. (c.in-Ok.ensures p marks events k.0 foot, is)) (c.end-in-Ok.ensures p marks events k.1 foot)
