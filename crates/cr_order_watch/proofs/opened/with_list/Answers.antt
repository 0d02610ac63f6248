use Rattle.cr_order_watch.proofs.opened.with_list.Goals as goal

pub returns-in-Ok : goal.returns-in-Ok
returns-in-Ok c = λ p level levels number inner events e it same. ((it.open_so, it.pieces), c.in-Ok.ensures p level levels number inner events e it same)
